-- Each IEEE operation on finite doubles is its exact fraction, rounded once: sums, differences, products, quotients by a double above zero,
-- and the nearest double of a fraction. Assumes nothing.
use Rattle.std.proofs.Common.{◌≡◌, ℕ, zero, suc, ◌+◌, ◌-◌, ◌*◌, ◌<◌, ◌≤◌, Bool, true, false, cond, not, ◌&&◌, T, eqb, ltb, ℤ, pos, negsuc, ◌+ℤ◌, ◌*ℤ◌, sym, refl, ap, subst, ap₂, zero-lt-suc, mul_comm, mul-pos, arith, eqb→eq, ltb→lt, nltb→le}
use lib.Dec.{not_T}
use lib.Ieee.{Float, nan, inf, fin, binary64, round, sum, add, sub, mul, div, neg, unlike, up, down}
use lib.Ieee.Fits.{up_pos, down_pos}
use lib.Ieee.Bits.{cond_no}
use lib.Ieee.Scale.{finite}
use Rattle.exact.specs.Fraction.{Fraction, ratio, zero_f, ◌+F◌, ◌-F◌, ◌*F◌, ◌<F◌, ◌≈F◌}
use Rattle.exact.proofs.Fraction.{≈F_refl, ≈F_sym, ≈F_trans, add_ratio, mul_ratio, sub_is_add, add_cong_f}
use Rattle.interval.specs.Nearest.{nearest}
use Rattle.interval.specs.Encloses.{signed, value}
use Rattle.interval.proofs.Signs.{signed_times, signed_mul, signed_add, ratio_lt}
use Rattle.interval.proofs.Rounding.{Rounds}
use Rattle.interval.proofs.Small.{finite_neg, value_neg}

pub rounds_eq : {x : Float} {q r : Fraction} → q ≈F r → Rounds x q → Rounds x r
rounds_eq e h = record { sign = h.sign; top = h.top; bottom = h.bottom; bottom_pos = h.bottom_pos; is = h.is; same = ≈F_trans h.same e }

-- the sign, the size's numerator and the denominator of a rounding at hand
rounding : (s : Bool) (k c : ℕ) {z : ℤ} (C : 0 < c) {x : Float} → x ≡ round binary64 s k c → signed s k ≡ z → Rounds x (ratio z c C)
rounding s k c C e q = record { sign = s; top = k; bottom = c; bottom_pos = C; is = e; same = record { eq = ap (λ (w : ℤ). w *ℤ pos c) q } }

pub nearest_rounds : (z : ℤ) (d : ℕ) (D : 0 < d) → Rounds (nearest z d) (ratio z d D)
nearest_rounds (pos n) d D = rounding false n d D refl refl
nearest_rounds (negsuc n) d D = rounding true (suc n) d D refl refl

pub mul_rounds : (x y : Float) → T (finite x) → T (finite y) → Rounds (mul binary64 x y) (value x *F value y)
unfolding mul
mul_rounds nan y f g = absurd f
mul_rounds (inf s) y f g = absurd f
mul_rounds (fin s m e) nan f g = absurd g
mul_rounds (fin s m e) (inf t) f g = absurd g
mul_rounds (fin s m e) (fin t n d) f g =
    rounds_eq (≈F_sym (mul_ratio (value (fin s m e)) (value (fin t n d)) (mul-pos (down_pos e) (down_pos d))))
    (rounding (unlike s t) (m * up e * (n * up d)) (down e * down d) (mul-pos (down_pos e) (down_pos d)) refl (sym (signed_mul s t (m * up e) (n * up d))))

-- ---- sums
sum_rounds : (s t : Bool) (a b c : ℕ) (C : 0 < c) → Rounds (sum binary64 s a t b c) (ratio (signed s a +ℤ signed t b) c C)
unfolding sum
sum_rounds true true a b c C = rounding true (a + b) c C refl (sym (signed_add true true true a b (a + b) (omega arith)))
sum_rounds false false a b c C = rounding false (a + b) c C refl (sym (signed_add false false false a b (a + b) (omega arith)))
sum_rounds true false a b c C = go (ltb a b) (ltb b a) (ltb→lt a b) (nltb→le a b) (nltb→le b a)
  where
    go : (u v : Bool) → (T u → a < b) → (T (not u) → b ≤ a) → (T (not v) → a ≤ b) → Rounds (cond u (round binary64 false (b - a) c) (round binary64 (true && v) (a - b) c)) (ratio (signed true a +ℤ signed false b) c C)
    go true v f g k = let l = f tt in rounding false (b - a) c C refl (sym (signed_add true false false a b (b - a) (omega arith)))
    go false true f g k = let l = g tt in rounding true (a - b) c C refl (sym (signed_add true false true a b (a - b) (omega arith)))
    go false false f g k = let l = g tt in let o = k tt in rounding false (a - b) c C refl (sym (signed_add true false false a b (a - b) (omega arith)))
sum_rounds false true a b c C = go (ltb a b) (ltb→lt a b) (nltb→le a b)
  where
    go : (u : Bool) → (T u → a < b) → (T (not u) → b ≤ a) → Rounds (cond u (round binary64 true (b - a) c) (round binary64 false (a - b) c)) (ratio (signed false a +ℤ signed true b) c C)
    go true f g = let l = f tt in rounding true (b - a) c C refl (sym (signed_add false true true a b (b - a) (omega arith)))
    go false f g = let l = g tt in rounding false (a - b) c C refl (sym (signed_add false true false a b (a - b) (omega arith)))

pub add_rounds : (x y : Float) → T (finite x) → T (finite y) → Rounds (add binary64 x y) (value x +F value y)
unfolding add
add_rounds nan y f g = absurd f
add_rounds (inf s) y f g = absurd f
add_rounds (fin s m e) nan f g = absurd g
add_rounds (fin s m e) (inf t) f g = absurd g
add_rounds (fin s m e) (fin t n d) f g =
    let c = down e * down d in
    let C = mul-pos (down_pos e) (down_pos d) in
    rounds_eq (≈F_trans (record { eq = ap (λ (z : ℤ). z *ℤ pos c) (sym (ap₂ ◌+ℤ◌ (signed_times s (m * up e) (down d)) (signed_times t (n * up d) (down e)))) }) (≈F_sym (add_ratio (value (fin s m e)) (value (fin t n d)) C)))
    (sum_rounds s t (m * up e * down d) (n * up d * down e) c C)

pub sub_rounds : (x y : Float) → T (finite x) → T (finite y) → Rounds (sub binary64 x y) (value x -F value y)
unfolding sub
sub_rounds x y f g = rounds_eq (≈F_trans (add_cong_f (≈F_refl (value x)) (value_neg y)) (≈F_sym (sub_is_add (value x) (value y)))) (add_rounds x (neg y) f (finite_neg y g))

-- ---- quotients: y is top / bottom, and what is divided by it is times bottom / top
pub record Divisor (y : Float) : Type 0 where
  pub top : ℕ
  pub bottom : ℕ
  pub top_pos : 0 < top
  pub bottom_pos : 0 < bottom
  pub same : value y ≈F ratio (pos top) bottom bottom_pos
  pub rounds : (x : Float) → T (finite x) → Rounds (div binary64 x y) (value x *F ratio (pos bottom) top top_pos)

div_rounds : (n : ℕ) (d : ℤ) (N : 0 < n) (x : Float) → T (finite x) → Rounds (div binary64 x (fin false n d)) (value x *F ratio (pos (down d)) (n * up d) (mul-pos N (up_pos d)))
unfolding div
div_rounds n d N nan f = absurd f
div_rounds n d N (inf s) f = absurd f
div_rounds n d N (fin s m e) f =
    rounds_eq (≈F_sym (mul_ratio (value (fin s m e)) (ratio (pos (down d)) (n * up d) (mul-pos N (up_pos d))) (mul-pos (down_pos e) (mul-pos N (up_pos d)))))
    (subst (λ (c : ℕ). (C : 0 < c) → Rounds (div binary64 (fin s m e) (fin false n d)) (ratio (signed s (m * up e) *ℤ pos (down d)) c C)) (mul_comm (n * up d) (down e))
    (λ C. rounding (unlike s false) (m * up e * down d) (n * up d * down e) C
    (cond_no (eqb n 0) (cond (eqb m 0) nan (inf (unlike s false))) (round binary64 (unlike s false) (m * up e * down d) (n * up d * down e)) (not_T (eqb n 0) (λ t. some n N (eqb→eq n 0 t))))
    (sym (signed_mul s false (m * up e) (down d)))) (mul-pos (down_pos e) (mul-pos N (up_pos d))))
  where
    some : (n : ℕ) → 0 < n → n ≡ 0 → ⊥
    some n h e = omega arith

pub divisor : (y : Float) → T (finite y) → zero_f <F value y → Divisor y
divisor nan f h = absurd f
divisor (inf s) f h = absurd f
divisor (fin true n d) f h = absurd (none (n * up d) (down d) (ratio_lt false true 0 1 (n * up d) (down d) h))
  where
    none : (a d : ℕ) → 0 * d + a * 1 < 0 + 0 → ⊥
    none a d h = omega arith
divisor (fin false zero d) f h = absurd (none (up d) (down d) (ratio_lt false false 0 1 (0 * up d) (down d) h))
  where
    none : (u d : ℕ) → 0 * d + 0 < 0 * u * 1 + 0 → ⊥
    none u d h = omega arith
divisor (fin false (suc n) d) f h = record {
  top = suc n * up d;
  bottom = down d;
  top_pos = mul-pos (zero-lt-suc n) (up_pos d);
  bottom_pos = down_pos d;
  same = ≈F_refl (value (fin false (suc n) d));
  rounds = div_rounds (suc n) d (zero-lt-suc n);
}
