-- End candidates: a result's ends are exact fractions, rounded once, of which the least is stepped down and the greatest up. What lies between
-- the exact fractions lies in the result. Assumes nothing.
use Rattle.std.proofs.Common.{◌≡◌, ℕ, suc, ◌+◌, ◌*◌, ◌^◌, ◌≤◌, T, pos, sym, ap, le_trans, arith, lit<, pow-add}
use native.Mathlib.Nat.{two-pow-succ}
use lib.Ieee.{Float, binary64, add, sub, mul, fits}
use lib.Ieee.Fits.{add-fits, sub-fits, mul-fits}
use lib.Ieee.Scale.{finite}
use Rattle.exact.specs.Fraction.{Fraction, ◌+F◌, ◌-F◌, ◌*F◌, ◌≤F◌, ◌≈F◌, AbsF}
use Rattle.exact.proofs.Fraction.{≤F_refl, ≤F_trans, ≈F_le, ≈F_trans, add_ratio, mul_ratio}
use Rattle.exact.proofs.FractionSize.{abs_add, abs_sub, abs_mul, abs_wider}
use Rattle.interval.specs.Interval.{least4, greatest4, outward, around}
use Rattle.interval.specs.Encloses.{value, Small}
use Rattle.interval.proofs.Rounding.{Rounds}
use Rattle.interval.proofs.Small.{power, small_abs, small_finite}
use Rattle.interval.proofs.SmallRounding.{rounds_small, up_small, down_small}
use Rattle.interval.proofs.Operations.{add_rounds, sub_rounds, mul_rounds}
use Rattle.interval.proofs.StepLaws.{up_encloses, down_encloses}
use Rattle.interval.proofs.Compare.{least4_one, greatest4_one, least4_below, greatest4_above}
use Rattle.interval.proofs.Membership.{In, between}

-- ---- powers of two
pub power_double : (k : ℕ) → power k +F power k ≈F power (suc k)
power_double k = ≈F_trans (add_ratio (power k) (power k) (lit< tt)) (record { eq = ap pos (twice (2 ^ k) (2 ^ suc k) (two-pow-succ k)) })
  where
    twice : (a b : ℕ) → b ≡ a + a → (a * 1 + a * 1) * 1 ≡ b * 1
    twice a b e = omega arith

pub power_product : (j k : ℕ) → power j *F power k ≈F power (j + k)
power_product j k = ≈F_trans (mul_ratio (power j) (power k) (lit< tt)) (record { eq = ap (λ (n : ℕ). pos (n * 1)) (sym (pow-add 2 j k)) })

-- ---- one candidate for each end: x is the fraction p, rounded once
pub record Candidate (k : ℕ) (x : Float) (p : Fraction) : Type 0 where
  pub rounds : Rounds x p
  pub small : Small k x
  pub fits : T (fits binary64 x)

pub candidate : (k : ℕ) {x : Float} {p : Fraction} → k ≤ 1022 → Rounds x p → T (fits binary64 x) → AbsF p (power k) → Candidate k x p
candidate k K r f a = record { rounds = r; small = rounds_small k (le_trans K (below k)) r a; fits = f }
  where
    below : (k : ℕ) → 1022 ≤ 1023
    below k = omega arith

pub outward_encloses : (k : ℕ) {a b : Float} {p q r : Fraction} → k ≤ 1022 → Candidate k a p → Candidate k b r → p ≤F q → q ≤F r → In (suc k) q (outward a b)
outward_encloses k {a} {b} K g h l u = between
    (down_small k a K g.fits g.small) (up_small k b K h.fits h.small)
    (≤F_trans (down_encloses k a K g.rounds (small_finite k a g.small) g.fits g.small (≤F_refl (value a))) l)
    (≤F_trans u (up_encloses k b K h.rounds (small_finite k b h.small) h.fits h.small (≤F_refl (value b))))

-- ---- four candidates: the least, stepped down, is at most each exact fraction, and the greatest, stepped up, is at least each
module _ (k : ℕ) (K : k ≤ 1022) {a b c d : Float} {pa pb pc pd : Fraction} (A : Candidate k a pa) (B : Candidate k b pb) (C : Candidate k c pc) (D : Candidate k d pd) where
  fa : T (finite a)
  fa = small_finite k a A.small

  fb : T (finite b)
  fb = small_finite k b B.small

  fc : T (finite c)
  fc = small_finite k c C.small

  fd : T (finite d)
  fd = small_finite k d D.small

  pub around_low : (value (around a b c d).lo ≤F pa) × (value (around a b c d).lo ≤F pb) × (value (around a b c d).lo ≤F pc) × (value (around a b c d).lo ≤F pd)
  around_low =
      let l = least4 a b c d in
      let s = least4_one a b c d (Small k) A.small B.small C.small D.small in
      let g = least4_one a b c d (λ z. T (fits binary64 z)) A.fits B.fits C.fits D.fits in
      let (ba, bb, bc, bd) = least4_below a b c d fa fb fc fd in
      (down_encloses k l K A.rounds fa g s ba, down_encloses k l K B.rounds fb g s bb, down_encloses k l K C.rounds fc g s bc, down_encloses k l K D.rounds fd g s bd)

  pub around_high : (pa ≤F value (around a b c d).hi) × (pb ≤F value (around a b c d).hi) × (pc ≤F value (around a b c d).hi) × (pd ≤F value (around a b c d).hi)
  around_high =
      let h = greatest4 a b c d in
      let s = greatest4_one a b c d (Small k) A.small B.small C.small D.small in
      let g = greatest4_one a b c d (λ z. T (fits binary64 z)) A.fits B.fits C.fits D.fits in
      let (ba, bb, bc, bd) = greatest4_above a b c d fa fb fc fd in
      (up_encloses k h K A.rounds fa g s ba, up_encloses k h K B.rounds fb g s bb, up_encloses k h K C.rounds fc g s bc, up_encloses k h K D.rounds fd g s bd)

  pub around_encloses : (q : Fraction) → (value (around a b c d).lo ≤F q) → (q ≤F value (around a b c d).hi) → In (suc k) q (around a b c d)
  around_encloses q = between
      (down_small k (least4 a b c d) K (least4_one a b c d (λ z. T (fits binary64 z)) A.fits B.fits C.fits D.fits) (least4_one a b c d (Small k) A.small B.small C.small D.small))
      (up_small k (greatest4 a b c d) K (greatest4_one a b c d (λ z. T (fits binary64 z)) A.fits B.fits C.fits D.fits) (greatest4_one a b c d (Small k) A.small B.small C.small D.small))

-- ---- the candidates of sums, differences and products
module _ (n : ℕ) (N : suc n ≤ 1022) (x y : Float) (a : Small n x) (b : Small n y) where
  pub sum_candidate : Candidate (suc n) (add binary64 x y) (value x +F value y)
  sum_candidate = candidate (suc n) N (add_rounds x y (small_finite n x a) (small_finite n y b)) (add-fits binary64 x y) (abs_wider (abs_add (small_abs n x a) (small_abs n y b)) (≈F_le (power_double n)))

  pub difference_candidate : Candidate (suc n) (sub binary64 x y) (value x -F value y)
  difference_candidate = candidate (suc n) N (sub_rounds x y (small_finite n x a) (small_finite n y b)) (sub-fits binary64 x y) (abs_wider (abs_sub (small_abs n x a) (small_abs n y b)) (≈F_le (power_double n)))

pub product_candidate : (j k : ℕ) → j + k ≤ 1022 → (x y : Float) → Small j x → Small k y → Candidate (j + k) (mul binary64 x y) (value x *F value y)
product_candidate j k K x y a b = candidate (j + k) K (mul_rounds x y (small_finite j x a) (small_finite k y b)) (mul-fits binary64 x y) (abs_wider (abs_mul (small_abs j x a) (small_abs k y b)) (≈F_le (power_product j k)))
