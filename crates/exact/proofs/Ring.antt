-- A ring solver over ℤ, by computation: an identity of polynomials holds where the difference of its sides, multiplied out and like
-- monomials added up, has only zero coefficients. `ring 2 (λ x y. ..) (λ x y. ..) tt (a ∷ b ∷ [])` states and proves one. Assumes nothing.
use mathlib.Core.Path.{◌≡◌, refl, sym, ap, ap₂, ◌∙◌, subst}
use mathlib.Core.Bool.{Bool, true, false}
use mathlib.Core.List.{List, [], ◌∷◌}
use Prim.Native.Nat.{ℕ, zero, suc, compare, Ordering}
use lib.Dec.{T, eqb, eqb→eq, compare_is_eq}
use lib.IntN.{ℤ, pos, negsuc, neg_ℤ, ◌+ℤ◌, ◌-ℤ◌, ◌*ℤ◌, +ℤ_idl, +ℤ_idr, +ℤ_assoc, +ℤ_comm, zero-*ℤ, *ℤ-zero, *ℤ_comm, neg_ℤ-+ℤ, -ℤ-+ℤ_cancel}
use Rattle.exact.proofs.Integer.{*ℤ_distr, *ℤ_distl, *ℤ_assoc, neg-*ℤ, one-*ℤ}

-- a polynomial: a variable by its place, a whole number, or made of two
pub data E : Type 0 where
  at : ℕ → E
  lit : ℤ → E
  ◌⊕◌ : E → E → E
  ◌⊖◌ : E → E → E
  ◌⊗◌ : E → E → E
  ⊝◌ : E → E

infixl 6 ◌⊕◌ ◌⊖◌
infixl 7 ◌⊗◌
infix 8 ⊝◌
abbrev pub nth : List ℤ → ℕ → ℤ
nth [] i = pos 0
nth (x ∷ ρ) zero = x
nth (x ∷ ρ) (suc i) = nth ρ i

-- what it is worth, where ρ gives each variable
abbrev pub eval : E → (ℕ → ℤ) → ℤ
eval (at i) ρ = ρ i
eval (lit k) ρ = k
eval (a ⊕ b) ρ = eval a ρ +ℤ eval b ρ
eval (a ⊖ b) ρ = eval a ρ -ℤ eval b ρ
eval (a ⊗ b) ρ = eval a ρ *ℤ eval b ρ
eval (⊝ a) ρ = neg_ℤ (eval a ρ)

-- a monomial: its factors' places, in order
abbrev pub mono : List ℕ → (ℕ → ℤ) → ℤ
mono [] ρ = pos 1
mono (i ∷ m) ρ = ρ i *ℤ mono m ρ

abbrev pub ins : ℕ → List ℕ → List ℕ
ins i [] = i ∷ []
ins i (j ∷ m) = elim (compare i j) [ Ordering.lt ↦ i ∷ j ∷ m | Ordering.eq ↦ i ∷ j ∷ m | Ordering.gt ↦ j ∷ ins i m ]

abbrev pub join : List ℕ → List ℕ → List ℕ
join [] n = n
join (i ∷ m) n = ins i (join m n)

abbrev pub cmp : List ℕ → List ℕ → Ordering
cmp [] [] = Ordering.eq
cmp [] (j ∷ n) = Ordering.lt
cmp (i ∷ m) [] = Ordering.gt
cmp (i ∷ m) (j ∷ n) = elim (compare i j) [ Ordering.lt ↦ Ordering.lt | Ordering.eq ↦ cmp m n | Ordering.gt ↦ Ordering.gt ]

-- a sum of monomials, each with its coefficient, in order
pub data Sum : Type 0 where
  none : Sum
  more : ℤ → List ℕ → Sum → Sum

abbrev pub total : Sum → (ℕ → ℤ) → ℤ
total none ρ = pos 0
total (more k m s) ρ = k *ℤ mono m ρ +ℤ total s ρ

-- one monomial more
abbrev pub put : ℤ → List ℕ → Sum → Sum
put k m none = more k m none
put k m (more j n s) = elim (cmp m n) [ Ordering.lt ↦ more k m (more j n s) | Ordering.eq ↦ more (k +ℤ j) n s | Ordering.gt ↦ more j n (put k m s) ]

abbrev pub both : Sum → Sum → Sum
both none t = t
both (more k m s) t = put k m (both s t)

abbrev pub scale : ℤ → List ℕ → Sum → Sum → Sum
scale k m none acc = acc
scale k m (more j n s) acc = put (k *ℤ j) (join m n) (scale k m s acc)

abbrev pub times : Sum → Sum → Sum
times none t = none
times (more k m s) t = scale k m t (times s t)

abbrev pub minus : Sum → Sum
minus none = none
minus (more k m s) = more (neg_ℤ k) m (minus s)

-- multiplied out
abbrev pub norm : E → Sum
norm (at i) = more (pos 1) (i ∷ []) none
norm (lit k) = more k [] none
norm (a ⊕ b) = both (norm a) (norm b)
norm (a ⊖ b) = both (norm a) (minus (norm b))
norm (a ⊗ b) = times (norm a) (norm b)
norm (⊝ a) = minus (norm a)

abbrev pub is_zero : ℤ → Bool
is_zero (pos n) = eqb n 0
is_zero (negsuc n) = false

abbrev pub andb : Bool → Bool → Bool
andb true b = b
andb false b = false

abbrev pub zeros : Sum → Bool
zeros none = true
zeros (more k m s) = andb (is_zero k) (zeros s)

-- ---- soundness
left_comm : (a b c : ℤ) → a *ℤ (b *ℤ c) ≡ b *ℤ (a *ℤ c)
left_comm a b c = sym (*ℤ_assoc a b c) ∙ ap (λ x. x *ℤ c) (*ℤ_comm a b) ∙ *ℤ_assoc b a c

add_left_comm : (a b c : ℤ) → a +ℤ (b +ℤ c) ≡ b +ℤ (a +ℤ c)
add_left_comm a b c = sym (+ℤ_assoc a b c) ∙ ap (λ x. x +ℤ c) (+ℤ_comm a b) ∙ +ℤ_assoc b a c

mono_ins : (i : ℕ) (m : List ℕ) (ρ : ℕ → ℤ) → mono (ins i m) ρ ≡ ρ i *ℤ mono m ρ
mono_ins i [] ρ = refl
mono_ins i (j ∷ m) ρ = go (compare i j) (mono_ins i m ρ)
  where
    go : (o : Ordering) → mono (ins i m) ρ ≡ ρ i *ℤ mono m ρ → mono (elim o [ Ordering.lt ↦ i ∷ j ∷ m | Ordering.eq ↦ i ∷ j ∷ m | Ordering.gt ↦ j ∷ ins i m ]) ρ ≡ ρ i *ℤ (ρ j *ℤ mono m ρ)
    go Ordering.lt h = refl
    go Ordering.eq h = refl
    go Ordering.gt h = ap (λ t. ρ j *ℤ t) h ∙ left_comm (ρ j) (ρ i) (mono m ρ)

mono_join : (m n : List ℕ) (ρ : ℕ → ℤ) → mono (join m n) ρ ≡ mono m ρ *ℤ mono n ρ
mono_join [] n ρ = sym (one-*ℤ (mono n ρ))
mono_join (i ∷ m) n ρ = mono_ins i (join m n) ρ ∙ ap (λ t. ρ i *ℤ t) (mono_join m n ρ) ∙ sym (*ℤ_assoc (ρ i) (mono m ρ) (mono n ρ))

abbrev IsEq : Ordering → Type 0
IsEq o = T (compare_is_eq o)

cmp_eq : (m n : List ℕ) → IsEq (cmp m n) → m ≡ n
cmp_eq [] [] t = refl
cmp_eq [] (j ∷ n) t = absurd t
cmp_eq (i ∷ m) [] t = absurd t
cmp_eq (i ∷ m) (j ∷ n) t = go (compare i j) refl t (cmp_eq m n)
  where
    go : (o : Ordering) → compare i j ≡ o → IsEq (elim o [ Ordering.lt ↦ Ordering.lt | Ordering.eq ↦ cmp m n | Ordering.gt ↦ Ordering.gt ]) → (IsEq (cmp m n) → m ≡ n) → (i ∷ m) ≡ (j ∷ n)
    go Ordering.lt e t f = absurd t
    go Ordering.eq e t f = ap₂ (λ (x : ℕ) (y : List ℕ). x ∷ y) (eqb→eq i j (subst (λ (o : Ordering). T (compare_is_eq o)) (sym e) tt)) (f t)
    go Ordering.gt e t f = absurd t

put_sound : (k : ℤ) (m : List ℕ) (s : Sum) (ρ : ℕ → ℤ) → total (put k m s) ρ ≡ k *ℤ mono m ρ +ℤ total s ρ
put_sound k m none ρ = refl
put_sound k m (more j n s) ρ = go (cmp m n) refl (put_sound k m s ρ)
  where
    go : (o : Ordering) → cmp m n ≡ o → total (put k m s) ρ ≡ k *ℤ mono m ρ +ℤ total s ρ → total (elim o [ Ordering.lt ↦ more k m (more j n s) | Ordering.eq ↦ more (k +ℤ j) n s | Ordering.gt ↦ more j n (put k m s) ]) ρ ≡ k *ℤ mono m ρ +ℤ (j *ℤ mono n ρ +ℤ total s ρ)
    go Ordering.lt e h = refl
    go Ordering.eq e h =
        ap (λ x. x +ℤ total s ρ) (*ℤ_distr k j (mono n ρ)) ∙ +ℤ_assoc (k *ℤ mono n ρ) (j *ℤ mono n ρ) (total s ρ)
        ∙ ap (λ (l : List ℕ). k *ℤ mono l ρ +ℤ (j *ℤ mono n ρ +ℤ total s ρ)) (sym (cmp_eq m n (subst IsEq (sym e) tt)))
    go Ordering.gt e h = ap (λ x. j *ℤ mono n ρ +ℤ x) h ∙ add_left_comm (j *ℤ mono n ρ) (k *ℤ mono m ρ) (total s ρ)

both_sound : (s t : Sum) (ρ : ℕ → ℤ) → total (both s t) ρ ≡ total s ρ +ℤ total t ρ
both_sound none t ρ = sym (+ℤ_idl (total t ρ))
both_sound (more k m s) t ρ = put_sound k m (both s t) ρ ∙ ap (λ u. k *ℤ mono m ρ +ℤ u) (both_sound s t ρ) ∙ sym (+ℤ_assoc (k *ℤ mono m ρ) (total s ρ) (total t ρ))

mul4 : (a b c d : ℤ) → (a *ℤ b) *ℤ (c *ℤ d) ≡ (a *ℤ c) *ℤ (b *ℤ d)
mul4 a b c d = *ℤ_assoc a b (c *ℤ d) ∙ ap (λ x. a *ℤ x) (left_comm b c d) ∙ sym (*ℤ_assoc a c (b *ℤ d))

scale_sound : (k : ℤ) (m : List ℕ) (t acc : Sum) (ρ : ℕ → ℤ) → total (scale k m t acc) ρ ≡ k *ℤ mono m ρ *ℤ total t ρ +ℤ total acc ρ
scale_sound k m none acc ρ = sym (ap (λ x. x +ℤ total acc ρ) (*ℤ-zero (k *ℤ mono m ρ)) ∙ +ℤ_idl (total acc ρ))
scale_sound k m (more j n s) acc ρ =
    put_sound (k *ℤ j) (join m n) (scale k m s acc) ρ
    ∙ ap₂ ◌+ℤ◌ (ap (λ x. k *ℤ j *ℤ x) (mono_join m n ρ) ∙ mul4 k j (mono m ρ) (mono n ρ)) (scale_sound k m s acc ρ)
    ∙ sym (+ℤ_assoc (k *ℤ mono m ρ *ℤ (j *ℤ mono n ρ)) (k *ℤ mono m ρ *ℤ total s ρ) (total acc ρ))
    ∙ ap (λ x. x +ℤ total acc ρ) (sym (*ℤ_distl (k *ℤ mono m ρ) (j *ℤ mono n ρ) (total s ρ)))

times_sound : (s t : Sum) (ρ : ℕ → ℤ) → total (times s t) ρ ≡ total s ρ *ℤ total t ρ
times_sound none t ρ = sym (zero-*ℤ (total t ρ))
times_sound (more k m s) t ρ =
    scale_sound k m t (times s t) ρ ∙ ap (λ x. k *ℤ mono m ρ *ℤ total t ρ +ℤ x) (times_sound s t ρ) ∙ sym (*ℤ_distr (k *ℤ mono m ρ) (total s ρ) (total t ρ))

minus_sound : (s : Sum) (ρ : ℕ → ℤ) → total (minus s) ρ ≡ neg_ℤ (total s ρ)
minus_sound none ρ = refl
minus_sound (more k m s) ρ = ap₂ ◌+ℤ◌ (neg-*ℤ k (mono m ρ)) (minus_sound s ρ) ∙ sym (neg_ℤ-+ℤ (k *ℤ mono m ρ) (total s ρ))

pub norm_sound : (e : E) (ρ : ℕ → ℤ) → eval e ρ ≡ total (norm e) ρ
norm_sound (at i) ρ = sym (+ℤ_idr (pos 1 *ℤ (ρ i *ℤ pos 1)) ∙ one-*ℤ (ρ i *ℤ pos 1) ∙ *ℤ_comm (ρ i) (pos 1) ∙ one-*ℤ (ρ i))
norm_sound (lit k) ρ = sym (+ℤ_idr (k *ℤ pos 1) ∙ *ℤ_comm k (pos 1) ∙ one-*ℤ k)
norm_sound (a ⊕ b) ρ = ap₂ ◌+ℤ◌ (norm_sound a ρ) (norm_sound b ρ) ∙ sym (both_sound (norm a) (norm b) ρ)
norm_sound (a ⊖ b) ρ = ap₂ ◌-ℤ◌ (norm_sound a ρ) (norm_sound b ρ) ∙ ap (λ x. total (norm a) ρ +ℤ x) (sym (minus_sound (norm b) ρ)) ∙ sym (both_sound (norm a) (minus (norm b)) ρ)
norm_sound (a ⊗ b) ρ = ap₂ ◌*ℤ◌ (norm_sound a ρ) (norm_sound b ρ) ∙ sym (times_sound (norm a) (norm b) ρ)
norm_sound (⊝ a) ρ = ap neg_ℤ (norm_sound a ρ) ∙ sym (minus_sound (norm a) ρ)

is_zero_lem : (k : ℤ) → T (is_zero k) → k ≡ pos 0
is_zero_lem (pos n) t = ap pos (eqb→eq n 0 t)
is_zero_lem (negsuc n) t = absurd t

and_l : (a b : Bool) → T (andb a b) → T a
and_l true b t = tt
and_l false b t = t

and_r : (a b : Bool) → T (andb a b) → T b
and_r true b t = t
and_r false b t = absurd t

zeros_sound : (s : Sum) (ρ : ℕ → ℤ) → T (zeros s) → total s ρ ≡ pos 0
zeros_sound none ρ t = refl
zeros_sound (more k m s) ρ t =
    ap₂ ◌+ℤ◌ (ap (λ x. x *ℤ mono m ρ) (is_zero_lem k (and_l (is_zero k) (zeros s) t)) ∙ zero-*ℤ (mono m ρ)) (zeros_sound s ρ (and_r (is_zero k) (zeros s) t))

-- ---- the solver
pub ring_at : (ρ : ℕ → ℤ) (a b : E) → T (zeros (norm (a ⊖ b))) → eval a ρ ≡ eval b ρ
ring_at ρ a b t =
    sym (-ℤ-+ℤ_cancel (eval a ρ) (eval b ρ)) ∙ ap (λ x. x +ℤ eval b ρ) (norm_sound (a ⊖ b) ρ ∙ zeros_sound (norm (a ⊖ b)) ρ t) ∙ +ℤ_idl (eval b ρ)

-- n variables, bound by a λ
abbrev pub Fn : ℕ → Type 0
Fn zero = E
Fn (suc n) = E → Fn n

abbrev pub app : (n i : ℕ) → Fn n → E
app zero i f = f
app (suc n) i f = app n (suc i) (f (at i))

pub ring : (n : ℕ) (f g : Fn n) → T (zeros (norm (app n 0 f ⊖ app n 0 g))) → (ρ : List ℤ) → eval (app n 0 f) (nth ρ) ≡ eval (app n 0 g) (nth ρ)
ring n f g t ρ = ring_at (nth ρ) (app n 0 f) (app n 0 g) t
