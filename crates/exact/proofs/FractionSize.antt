-- Sizes of fractions, the lesser and the greater of two, and a fraction held to 0..l. Assumes nothing.
use mathlib.Core.Bool.{Bool, true, false, not, ◌&&◌}
use mathlib.Core.Logic.{inl, inr}
use mathlib.Core.Path.{◌≡◌, refl}
use mathlib.Core.List.{[], ◌∷◌}
use Prim.Native.Nat.{ℕ, ◌<◌}
use lib.Dec.{T, not_T}
use lib.IntN.{pos}
use lib.Signed.{lt_z_yes, lt_z_no}
use Rattle.exact.specs.Fraction.{Fraction, zero_f, ◌+F◌, ◌-F◌, ◌*F◌, ◌/F◌, neg_f, ◌≤F◌, ◌≈F◌, AbsF, below_f, equal_f, min_f, max_f, held_f}
use Rattle.exact.proofs.Choice.{choose}
use Rattle.exact.proofs.IntegerOrder.{square_nonnegℤ}
use Rattle.exact.proofs.Ring.{lit, ◌⊕◌, ◌⊗◌, ⊝◌}
use Rattle.exact.proofs.FractionRing.{ring_f}
use Rattle.exact.proofs.Fraction.{≤F_refl, ≤F_trans, <F_le, <F_irrefl, le_or_lt_f, ≈F_sym, ≈F_trans, ≈F_le, ≈F_ge, ≤F_antisym, add_mono_f, neg_mono_f}
use Rattle.exact.proofs.Fraction.{mul_mono_f, sub_is_add, product_low, product_high, nonneg_num, num_nonneg, over_mono, over_neg}

-- ---- sizes
-- what bounds a size is not negative
pub abs_nonneg : {x a : Fraction} → AbsF x a → zero_f ≤F a
abs_nonneg {x} {a} h = elim (le_or_lt_f zero_f a) [
  | inl p ↦ p
  | inr p ↦ ≤F_trans (≈F_le (ring_f 1 (λ a. lit (pos 0)) (λ a. ⊝ (lit (pos 0))) tt (a ∷ []))) (≤F_trans (neg_mono_f (<F_le p)) (≤F_trans h.low h.high))
]

pub abs_of_nonneg : {x a : Fraction} → zero_f ≤F x → x ≤F a → AbsF x a
abs_of_nonneg {x} {a} h k = record { low = ≤F_trans (neg_mono_f (≤F_trans h k)) (≤F_trans (≈F_le (ring_f 1 (λ a. ⊝ (lit (pos 0))) (λ a. lit (pos 0)) tt (a ∷ []))) h); high = k }

pub abs_wider : {x a b : Fraction} → AbsF x a → a ≤F b → AbsF x b
abs_wider h k = record { low = ≤F_trans (neg_mono_f k) h.low; high = ≤F_trans h.high k }

pub abs_neg : {x a : Fraction} → AbsF x a → AbsF (neg_f x) a
abs_neg {x} {a} h = record { low = neg_mono_f h.high; high = ≤F_trans (neg_mono_f h.low) (≈F_le (ring_f 1 (λ a. ⊝ (⊝ a)) (λ a. a) tt (a ∷ []))) }

pub abs_add : {x y a b : Fraction} → AbsF x a → AbsF y b → AbsF (x +F y) (a +F b)
abs_add {x} {y} {a} {b} h k = record { low = ≤F_trans (≈F_le (ring_f 2 (λ a b. ⊝ (a ⊕ b)) (λ a b. ⊝ a ⊕ ⊝ b) tt (a ∷ b ∷ []))) (add_mono_f h.low k.low); high = add_mono_f h.high k.high }

pub abs_sub : {x y a b : Fraction} → AbsF x a → AbsF y b → AbsF (x -F y) (a +F b)
abs_sub {x} {y} h k =
    let s = abs_add h (abs_neg k) in
    record { low = ≤F_trans s.low (≈F_ge (sub_is_add x y)); high = ≤F_trans (≈F_le (sub_is_add x y)) s.high }

pub abs_over : {x a : Fraction} {n : ℕ} → 0 < n → AbsF x a → AbsF (x /F n) (a /F n)
abs_over {a = a} N h = record { low = ≤F_trans (≈F_le (over_neg a N)) (over_mono N h.low); high = over_mono N h.high }

pub abs_mul : {x y a b : Fraction} → AbsF x a → AbsF y b → AbsF (x *F y) (a *F b)
abs_mul {x} {y} {a} {b} h k = record {
  low = product_low (neg_f a) a (neg_f b) b x y h.low h.high k.low k.high (neg_f (a *F b))
      (≤F_trans across (≈F_ge both)) (≈F_ge left) (≈F_ge right) across;
  high = product_high (neg_f a) a (neg_f b) b x y h.low h.high k.low k.high (a *F b)
      (≈F_le both) (≤F_trans (≈F_le left) across) (≤F_trans (≈F_le right) across) (≤F_refl (a *F b));
}
  where
    both : neg_f a *F neg_f b ≈F a *F b
    both = ring_f 2 (λ a b. ⊝ a ⊗ ⊝ b) (λ a b. a ⊗ b) tt (a ∷ b ∷ [])

    left : neg_f a *F b ≈F neg_f (a *F b)
    left = ring_f 2 (λ a b. ⊝ a ⊗ b) (λ a b. ⊝ (a ⊗ b)) tt (a ∷ b ∷ [])

    right : a *F neg_f b ≈F neg_f (a *F b)
    right = ring_f 2 (λ a b. a ⊗ ⊝ b) (λ a b. ⊝ (a ⊗ b)) tt (a ∷ b ∷ [])

    across : neg_f (a *F b) ≤F a *F b
    across = ≤F_trans (≈F_ge right) (mul_mono_f a (nonneg_num (abs_nonneg h)) (≤F_trans k.low k.high))

pub square_nonneg : (a : Fraction) → zero_f ≤F a *F a
unfolding ◌*F◌
square_nonneg a = num_nonneg (square_nonnegℤ a.num)

-- ---- the lesser and the greater of two
below_yes : {a b : Fraction} → T (below_f a b) → a ≤F b
below_yes t = <F_le (record { lt = lt_z_yes t })

below_no : {a b : Fraction} → T (not (below_f a b)) → b ≤F a
below_no t = record { le = lt_z_no t }

-- whether two are equal
not_below : {a b : Fraction} → b ≤F a → T (not (below_f a b))
not_below {a} {b} h = not_T (below_f a b) (λ t. <F_irrefl (record { lt = lt_z_yes t }) h)

pub equal_yes : {a b : Fraction} → T (equal_f a b) → a ≈F b
equal_yes {a} {b} t = let (h, k) = both (not (below_f a b)) (not (below_f b a)) t in ≤F_antisym (below_no k) (below_no h)
  where
    both : (x y : Bool) → T (x && y) → T x × T y
    both true y t = (tt, t)
    both false y t = absurd t

pub equal_of : {a b : Fraction} → a ≈F b → T (equal_f a b)
equal_of {a} {b} e = both (not (below_f a b)) (not (below_f b a)) (not_below (≈F_ge e)) (not_below (≈F_le e))
  where
    both : (x y : Bool) → T x → T y → T (x && y)
    both true y s t = t
    both false y s t = s

pub equal_same : {a b c d : Fraction} → a ≈F c → b ≈F d → equal_f a b ≡ equal_f c d
equal_same {a} {b} {c} {d} e f = tests (equal_f a b) (equal_f c d)
    (λ t. equal_of (≈F_trans (≈F_sym e) (≈F_trans (equal_yes {a = a} {b = b} t) f)))
    (λ t. equal_of (≈F_trans e (≈F_trans (equal_yes {a = c} {b = d} t) (≈F_sym f))))
  where
    tests : (x y : Bool) → (T x → T y) → (T y → T x) → x ≡ y
    tests true true g h = refl
    tests true false g h = absurd (g tt)
    tests false true g h = absurd (h tt)
    tests false false g h = refl

module _ (a b : Fraction) where
  -- it is one of the two
  pub min_one : (P : Fraction → Type 0) → P a → P b → P (min_f a b)
  unfolding min_f
  min_one P p q = choose (below_f b a) b a P (λ _. q) (λ _. p)

  pub max_one : (P : Fraction → Type 0) → P a → P b → P (max_f a b)
  unfolding max_f
  max_one P p q = choose (below_f a b) b a P (λ _. q) (λ _. p)

  pub min_left : min_f a b ≤F a
  unfolding min_f
  min_left = choose (below_f b a) b a (λ x. x ≤F a) below_yes (λ _. ≤F_refl a)

  pub min_right : min_f a b ≤F b
  unfolding min_f
  min_right = choose (below_f b a) b a (λ x. x ≤F b) (λ _. ≤F_refl b) below_no

  pub max_left : a ≤F max_f a b
  unfolding max_f
  max_left = choose (below_f a b) b a (λ x. a ≤F x) below_yes (λ _. ≤F_refl a)

  pub max_right : b ≤F max_f a b
  unfolding max_f
  max_right = choose (below_f a b) b a (λ x. b ≤F x) (λ _. ≤F_refl b) below_no

-- ---- held to 0..l
pub held_is : (t l : Fraction) → held_f t l ≡ min_f (max_f t zero_f) l
unfolding held_f
held_is t l = refl

module _ (t l : Fraction) where
  pub held_nonneg : zero_f ≤F l → zero_f ≤F held_f t l
  unfolding held_f
  held_nonneg h = min_one (max_f t zero_f) l (λ x. zero_f ≤F x) (max_right t zero_f) h

  pub held_below : held_f t l ≤F l
  unfolding held_f
  held_below = min_right (max_f t zero_f) l

  pub held_low : zero_f ≤F l → t ≤F zero_f → held_f t l ≈F zero_f
  unfolding held_f
  held_low h k = ≤F_antisym (≤F_trans (min_left (max_f t zero_f) l) (max_one t zero_f (λ x. x ≤F zero_f) k (≤F_refl zero_f))) (held_nonneg h)

  pub held_high : l ≤F t → held_f t l ≈F l
  unfolding held_f
  held_high k = ≤F_antisym held_below (min_one (max_f t zero_f) l (λ x. l ≤F x) (≤F_trans k (max_left t zero_f)) (≤F_refl l))

  pub held_between : zero_f ≤F t → t ≤F l → held_f t l ≈F t
  unfolding held_f
  held_between h k = ≤F_antisym
      (≤F_trans (min_left (max_f t zero_f) l) (max_one t zero_f (λ x. x ≤F t) (≤F_refl t) h))
      (min_one (max_f t zero_f) l (λ x. t ≤F x) (max_left t zero_f) k)

pub held_mono : {s t : Fraction} (l : Fraction) → s ≤F t → held_f s l ≤F held_f t l
unfolding held_f
held_mono {s} {t} l h = min_one (max_f t zero_f) l (λ x. min_f (max_f s zero_f) l ≤F x)
    (≤F_trans (min_left (max_f s zero_f) l) (max_one s zero_f (λ x. x ≤F max_f t zero_f) (≤F_trans h (max_left t zero_f)) (max_right t zero_f)))
    (min_right (max_f s zero_f) l)

pub held_cong : {s t : Fraction} (l : Fraction) → s ≈F t → held_f s l ≈F held_f t l
held_cong l e = ≤F_antisym (held_mono l (≈F_le e)) (held_mono l (≈F_ge e))
