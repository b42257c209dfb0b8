-- The series' constants: each coefficient's interval holds its exact fraction, and each tail's double is at least the exact tail. Assumes nothing.
use Rattle.std.proofs.Common.{◌≡◌, ℕ, zero, suc, ◌+◌, ◌*◌, ◌^◌, ◌≤◌, ℤ, pos, negsuc, neg_ℤ, nat_abs, sym, refl, ◌∙◌, le_trans, le_of_eq, le_refl, mul-le-mul, mul-one, arith, lit≤}
use native.Mathlib.Nat.{pow-le-pow_left}
use Rattle.exact.specs.Fraction.{◌≤F◌}
use Rattle.exact.proofs.Fraction.{≤F_refl}
use Rattle.interval.specs.Nearest.{nearest}
use Rattle.interval.specs.Series.{factorial, factorial_pos, alternating, sine_term, cosine_term, term, tail, tail_up}
use Rattle.interval.specs.Encloses.{value, Small}
use Rattle.interval.proofs.Rounding.{rounds_fits}
use Rattle.interval.proofs.Small.{abs_ratio, small_finite}
use Rattle.interval.proofs.SmallRounding.{rounds_small, up_small}
use Rattle.interval.proofs.StepLaws.{up_encloses}
use Rattle.interval.proofs.Operations.{nearest_rounds}
use Rattle.interval.proofs.Membership.{In}
use Rattle.interval.proofs.Encloses.{fraction_encloses}

-- ---- coefficients
alternating_size : (i : ℕ) → nat_abs (alternating i) ≡ 1
alternating_size zero = refl
alternating_size (suc i) = opposite (alternating i) ∙ alternating_size i
  where
    opposite : (z : ℤ) → nat_abs (neg_ℤ z) ≡ nat_abs z
    opposite (pos zero) = refl
    opposite (pos (suc n)) = refl
    opposite (negsuc n) = refl

-- 1 over a factorial is at most 1
at_most_one : (i n : ℕ) → nat_abs (alternating i) ≤ 2 ^ 0 * factorial n
at_most_one i n = le_trans (le_of_eq (alternating_size i)) (le_trans (factorial_pos n) (le_of_eq (times (factorial n))))
  where
    times : (a : ℕ) → a ≡ 2 ^ 0 * a
    times a = omega arith

pub sine_encloses : (i : ℕ) → In 1 (sine_term i) (term sine_term i)
sine_encloses i = fraction_encloses 0 (sine_term i) tt (at_most_one i (i + i + 1))

pub cosine_encloses : (i : ℕ) → In 1 (cosine_term i) (term cosine_term i)
cosine_encloses i = fraction_encloses 0 (cosine_term i) tt (at_most_one i (i + i))

-- ---- tails
tail_size : (n : ℕ) → 4 ^ n ≤ 2 ^ 0 * (5 ^ n * factorial n)
tail_size n = le_trans (pow-le-pow_left {n = 4} {m = 5} (lit≤ tt) n) (le_trans (le_of_eq (sym (mul-one (5 ^ n)))) (le_trans (mul-le-mul (le_refl (5 ^ n)) (factorial_pos n)) (le_of_eq (times (5 ^ n * factorial n)))))
  where
    times : (a : ℕ) → a ≡ 2 ^ 0 * a
    times a = omega arith

-- "nearest double stepped up"
pub tail_above : (n : ℕ) → (tail n ≤F value (tail_up n)) × Small 1 (tail_up n)
tail_above n =
    let q = tail n in
    let x = nearest q.num q.den in
    let r = nearest_rounds q.num q.den q.den_pos in
    let s = rounds_small 0 (lit≤ tt) r (abs_ratio 0 q (tail_size n)) in
    (up_encloses 0 x (lit≤ tt) r (small_finite 0 x s) (rounds_fits r) s (≤F_refl (value x)), up_small 0 x (lit≤ tt) (rounds_fits r) s)
