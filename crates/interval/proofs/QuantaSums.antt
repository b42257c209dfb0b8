-- Sums, differences and `==` of finite doubles in quanta, 2 ^ -1074: a sum is the sum of the quanta with their signs (Multiples.antt), rounded
-- once. Assumes nothing.
use Rattle.std.proofs.Common.{◌≡◌, ℕ, ◌+◌, ◌-◌, ◌*◌, ◌<◌, Bool, true, false, cond, not, ◌&&◌, ◌||◌, T, eqb, ltb, sym, refl, ap, ◌∙◌, subst, le_of_eq, mul_assoc, mul_comm, le_antisymm, mul-pos, mul_right_comm, eqb→eq, pow_pos}
use native.Mathlib.Nat.{eq_of_mul-eq-mul_right}
use mathlib.Core.Bool.{beq}
use lib.Ieee.{Float, nan, inf, fin, binary64, round, sum, add, sub, neg, eq, level, up, down}
use lib.Ieee.Fits.{down_pos, eq→eqb}
use lib.Ieee.Scale.{finite, round_same}
use Rattle.interval.proofs.Pattern.{quantum, Quanta}
use Rattle.interval.proofs.Rounding.{rounded, round_quanta, quanta_le}
use Rattle.interval.proofs.Multiples.{mag, sgn}
use Rattle.interval.proofs.Multiples.{mag_scale, sgn_scale}

-- ---- a sum in quanta
sum_is : (s : Bool) (a : ℕ) (t : Bool) (b c : ℕ) → sum binary64 s a t b c ≡ round binary64 (sgn s a t b) (mag s a t b) c
unfolding sum
sum_is s a t b c = go (beq s t) (ltb a b) (s && ltb b a)
  where
    go : (u v w : Bool) → cond u (round binary64 s (a + b) c) (cond v (round binary64 t (b - a) c) (round binary64 w (a - b) c)) ≡ round binary64
        (cond u s (cond v t w)) (cond u (a + b) (cond v (b - a) (a - b))) c
    go true v w = refl
    go false true w = refl
    go false false w = refl

-- x / dx is a units and y / dy is b
scaled : (s : Bool) (x dx a : ℕ) (t : Bool) (y dy b : ℕ) → 0 < dx → 0 < dy → x * quantum ≡ a * dx → y * quantum ≡ b * dy
    → sum binary64 s (x * dy) t (y * dx) (dx * dy) ≡ round binary64 (sgn s a t b) (mag s a t b) quantum
scaled s x dx a t y dy b X Y p q =
    let D : 0 < dx * dy = mul-pos X Y in
    let U = pow_pos 1074 in
    let e : x * dy * quantum ≡ a * (dx * dy) = mul_right_comm x dy quantum ∙ ap (λ (z : ℕ). z * dy) p ∙ mul_assoc a dx dy in
    let f : y * dx * quantum ≡ b * (dx * dy) = mul_right_comm y dx quantum ∙ ap (λ (z : ℕ). z * dx) q ∙ mul_assoc b dy dx
    ∙ ap (λ (z : ℕ). b * z) (mul_comm dy dx) in
    let g : sgn s (x * dy) t (y * dx) ≡ sgn s a t b =
    sym (sgn_scale s (x * dy) t (y * dx) quantum U) ∙ ap (λ (z : ℕ). sgn s z t (y * dx * quantum)) e ∙ ap (λ (z : ℕ). sgn s (a * (dx * dy)) t z) f
    ∙ sgn_scale s a t b (dx * dy) D in
    let m : mag s (x * dy) t (y * dx) * quantum ≡ mag s a t b * (dx * dy) =
    sym (mag_scale s (x * dy) t (y * dx) quantum U) ∙ ap (λ (z : ℕ). mag s z t (y * dx * quantum)) e ∙ ap (λ (z : ℕ). mag s (a * (dx * dy)) t z) f
    ∙ mag_scale s a t b (dx * dy) D in
    sum_is s (x * dy) t (y * dx) (dx * dy)
    ∙ ap (λ (u : Bool). round binary64 u (mag s (x * dy) t (y * dx)) (dx * dy)) g
    ∙ round_same binary64 (sgn s a t b) (mag s (x * dy) t (y * dx)) (dx * dy) (mag s a t b) quantum D U m

add_quanta : (x y : Float) (s : Bool) (a : ℕ) (t : Bool) (b : ℕ) → T (finite x) → T (finite y) → Quanta x s a → Quanta y t b
    → add binary64 x y ≡ round binary64 (sgn s a t b) (mag s a t b) quantum
unfolding add
add_quanta nan y s a t b f g p q = absurd f
add_quanta (inf u) y s a t b f g p q = absurd f
add_quanta (fin u m e) nan s a t b f g p q = absurd g
add_quanta (fin u m e) (inf v) s a t b f g p q = absurd g
add_quanta (fin u m e) (fin v n d) s a t b f g p q =
    ap (λ (z : Bool). sum binary64 z (m * up e * down d) v (n * up d * down e) (down e * down d)) p.0
    ∙ ap (λ (z : Bool). sum binary64 s (m * up e * down d) z (n * up d * down e) (down e * down d)) q.0
    ∙ scaled s (m * up e) (down e) a t (n * up d) (down d) b (down_pos e) (down_pos d) p.1 q.1

-- the rounded sum in quanta
pub add_is : (x y : Float) (s : Bool) (a : ℕ) (t : Bool) (b : ℕ) → T (finite x) → T (finite y) → Quanta x s a → Quanta y t b
    → Quanta (add binary64 x y) (sgn s a t b) (rounded (mag s a t b) quantum)
add_is x y s a t b f g p q = subst (λ (z : Float). Quanta z (sgn s a t b) (rounded (mag s a t b) quantum)) (sym (add_quanta x y s a t b f g p q))
    (round_quanta (sgn s a t b) (mag s a t b) quantum)

neg_is : (x : Float) (s : Bool) (a : ℕ) → Quanta x s a → Quanta (neg x) (not s) a
unfolding neg
neg_is nan s a p = p
neg_is (inf t) s a p = (ap not p.0, p.1)
neg_is (fin t m e) s a p = (ap not p.0, p.1, p.2)

neg_finite : (x : Float) → T (finite x) → T (finite (neg x))
unfolding neg
neg_finite nan f = f
neg_finite (inf s) f = absurd f
neg_finite (fin s m e) f = tt

pub sub_is : (x y : Float) (s : Bool) (a : ℕ) (t : Bool) (b : ℕ) → T (finite x) → T (finite y) → Quanta x s a → Quanta y t b
    → Quanta (sub binary64 x y) (sgn s a (not t) b) (rounded (mag s a (not t) b) quantum)
unfolding sub
sub_is x y s a t b f g p q = add_is x (neg y) s a (not t) b f (neg_finite y g) p (neg_is y t b q)

-- ---- `==` in quanta
abbrev pub SameQuanta : Bool → ℕ → Bool → ℕ → Type 0
SameQuanta s a t b = (a ≡ b) × (cond s 0 a ≡ cond t 0 b) × (cond s a 0 ≡ cond t b 0)

cross : (x dx y dy a b : ℕ) → 0 < dx → 0 < dy → x * quantum ≡ a * dx → y * quantum ≡ b * dy → x * dy ≡ y * dx → a ≡ b
cross x dx y dy a b X Y p q e = le_antisymm (quanta_le x dx y dy a b X Y p q (le_of_eq e)) (quanta_le y dy x dx b a Y X q p (le_of_eq (sym e)))

uncross : (x dx y dy a b : ℕ) → x * quantum ≡ a * dx → y * quantum ≡ b * dy → a ≡ b → x * dy ≡ y * dx
uncross x dx y dy a b p q e = eq_of_mul-eq-mul_right quantum (pow_pos 1074) (x * dy) (y * dx)
    (mul_right_comm x dy quantum ∙ ap (λ (z : ℕ). z * dy) (p ∙ ap (λ (z : ℕ). z * dx) e) ∙ mul_right_comm b dx dy ∙ ap (λ (z : ℕ). z * dx) (sym q)
    ∙ mul_right_comm y quantum dx)

level_is : (s : Bool) (x dx a : ℕ) (t : Bool) (y dy b : ℕ) → 0 < dx → 0 < dy → x * quantum ≡ a * dx → y * quantum ≡ b * dy
    → T (level s (x * dy) t (y * dx)) → SameQuanta s a t b
level_is s x dx a t y dy b X Y p q h = go s t (eqb (x * dy) (y * dx)) (eqb (x * dy) 0) (eqb→eq (x * dy) (y * dx)) (eqb→eq (x * dy) 0) h
  where
    none : x * dy ≡ 0 → a ≡ 0
    none z = cross x dx 0 dy a 0 X Y p (native.Mathlib.Nat.zero-mul quantum ∙ sym (native.Mathlib.Nat.zero-mul dy)) (z ∙ sym (native.Mathlib.Nat.zero-mul dx))

    go : (s t u v : Bool) → (T u → x * dy ≡ y * dx) → (T v → x * dy ≡ 0) → T (u && (beq s t || v)) → SameQuanta s a t b
    go s t false v f g h = absurd h
    go false false true v f g h = let k = cross x dx y dy a b X Y p q (f tt) in (k, k, refl)
    go true true true v f g h = let k = cross x dx y dy a b X Y p q (f tt) in (k, refl, k)
    go false true true true f g h = let k = cross x dx y dy a b X Y p q (f tt) in let l = none (g tt) in (k, l, sym l ∙ k)
    go false true true false f g h = absurd h
    go true false true true f g h = let k = cross x dx y dy a b X Y p q (f tt) in let l = none (g tt) in (k, sym l ∙ k, l)
    go true false true false f g h = absurd h

pub eq_is : (x y : Float) (s : Bool) (a : ℕ) (t : Bool) (b : ℕ) → T (finite y) → Quanta x s a → Quanta y t b → T (eq x y) → SameQuanta s a t b
unfolding eq
eq_is x nan s a t b f p q h = absurd f
eq_is x (inf v) s a t b f p q h = absurd f
eq_is nan (fin v n d) s a t b f p q h = absurd h
eq_is (inf u) (fin v n d) s a t b f p q h = absurd h
eq_is (fin u m e) (fin v n d) s a t b f p q h =
    level_is s (m * up e) (down e) a t (n * up d) (down d) b (down_pos e) (down_pos d) p.1 q.1
    (subst (λ (z : Bool). T (level s (m * up e * down d) z (n * up d * down e))) q.0
    (subst (λ (z : Bool). T (level z (m * up e * down d) v (n * up d * down e))) p.0 h))

level_of_lem : (s : Bool) (x dx a : ℕ) (t : Bool) (y dy b : ℕ) → x * quantum ≡ a * dx → y * quantum ≡ b * dy → SameQuanta s a t b → T (level s (x * dy) t (y * dx))
level_of_lem s x dx a t y dy b p q h =
    both (eqb (x * dy) (y * dx)) (beq s t || eqb (x * dy) 0) (eq→eqb (uncross x dx y dy a b p q h.0)) (sign s t h.1 h.2)
  where
    both : (u v : Bool) → T u → T v → T (u && v)
    both true v h k = k
    both false v h k = h

    zero_x : a ≡ 0 → x * dy ≡ 0
    zero_x z = uncross x dx 0 dy a 0 p (native.Mathlib.Nat.zero-mul quantum ∙ sym (native.Mathlib.Nat.zero-mul dy)) z ∙ native.Mathlib.Nat.zero-mul dx

    sign : (s t : Bool) → cond s 0 a ≡ cond t 0 b → cond s a 0 ≡ cond t b 0 → T (beq s t || eqb (x * dy) 0)
    sign true true k l = tt
    sign false false k l = tt
    sign true false k l = eq→eqb (zero_x l)
    sign false true k l = eq→eqb (zero_x k)

pub eq_of : (x y : Float) (s : Bool) (a : ℕ) (t : Bool) (b : ℕ) → T (finite x) → T (finite y) → Quanta x s a → Quanta y t b → SameQuanta s a t b → T (eq x y)
unfolding eq
eq_of nan y s a t b f g p q h = absurd f
eq_of (inf u) y s a t b f g p q h = absurd f
eq_of (fin u m e) nan s a t b f g p q h = absurd g
eq_of (fin u m e) (inf v) s a t b f g p q h = absurd g
eq_of (fin u m e) (fin v n d) s a t b f g p q h =
    subst (λ (z : Bool). T (level z (m * up e * down d) v (n * up d * down e))) (sym p.0)
    (subst (λ (z : Bool). T (level s (m * up e * down d) z (n * up d * down e))) (sym q.0)
    (level_of_lem s (m * up e) (down e) a t (n * up d) (down d) b p.1 q.1 h))
