-- The laws of what is taken of intervals without rounding: the lesser and the greater of two, one held to 0..1, and the larger size of the
-- ends. Assumes nothing.
use Rattle.std.proofs.Common.{ℕ, max, Bool, true, false, cond, not, T, [], pos, sym, subst}
use native.Mathlib.Nat.{le-max_left, le-max_right, max-zero}
use lib.Ieee.{Float, neg, lt}
use lib.Ieee.Scale.{finite}
use Rattle.exact.specs.Fraction.{Fraction, zero_f, one_f, neg_f, ◌≤F◌, ◌<F◌, ◌≈F◌, AbsF, min_f, max_f, held_f}
use Rattle.exact.proofs.Fraction.{≤F_refl, ≤F_trans, <F_le, ≈F_le, ≈F_ge, neg_mono_f, neg_neg_f}
use Rattle.exact.proofs.Ring.{lit, ⊝◌}
use Rattle.exact.proofs.FractionRing.{ring_f}
use Rattle.exact.proofs.FractionSize.{abs_neg, abs_of_nonneg, min_one, min_left, min_right, max_one, max_left, max_right, held_is}
use Rattle.interval.specs.declared.Interval.{Interval}
use Rattle.interval.specs.Step.{b64}
use Rattle.interval.specs.Interval.{least, greatest, abs, imin, imax, clamp01, magnitude}
use Rattle.interval.specs.Encloses.{value, Small}
use Rattle.interval.proofs.Compare.{lt_value, nlt_value, least_one, least_left, least_right, greatest_one, greatest_left, greatest_right}
use Rattle.interval.proofs.Small.{small_finite, small_neg, value_neg}
use Rattle.interval.proofs.Membership.{In, low, high, between, larger, zero_value, zero_finite, zero_encloses, one_encloses}

-- ---- the lesser and the greater of two
module _ {j k : ℕ} {q r : Fraction} {X Y : Interval} (h : In j q X) (g : In k r Y) where
  x : In (max j k) q X
  x = larger (le-max_left j k) h

  y : In (max j k) r Y
  y = larger (le-max_right j k) g

  fin_lo : T (finite X.lo)
  fin_lo = small_finite j X.lo h.small_lo

  fin_hi : T (finite X.hi)
  fin_hi = small_finite j X.hi h.small_hi

  fin_lo' : T (finite Y.lo)
  fin_lo' = small_finite k Y.lo g.small_lo

  fin_hi' : T (finite Y.hi)
  fin_hi' = small_finite k Y.hi g.small_hi

  pub min_encloses : In (max j k) (min_f q r) (imin X Y)
  unfolding imin
  min_encloses = between
      (least_one X.lo Y.lo (Small (max j k)) x.small_lo y.small_lo) (least_one X.hi Y.hi (Small (max j k)) x.small_hi y.small_hi)
      (min_one q r (λ z. value (least X.lo Y.lo) ≤F z) (≤F_trans (least_left X.lo Y.lo fin_lo fin_lo') (low h)) (≤F_trans (least_right X.lo Y.lo fin_lo fin_lo') (low g)))
      (least_one X.hi Y.hi (λ z. min_f q r ≤F value z) (≤F_trans (min_left q r) (high h)) (≤F_trans (min_right q r) (high g)))

  pub max_encloses : In (max j k) (max_f q r) (imax X Y)
  unfolding imax
  max_encloses = between
      (greatest_one X.lo Y.lo (Small (max j k)) x.small_lo y.small_lo) (greatest_one X.hi Y.hi (Small (max j k)) x.small_hi y.small_hi)
      (greatest_one X.lo Y.lo (λ z. value z ≤F max_f q r) (≤F_trans (low h) (max_left q r)) (≤F_trans (low g) (max_right q r)))
      (max_one q r (λ z. z ≤F value (greatest X.hi Y.hi)) (≤F_trans (high h) (greatest_left X.hi Y.hi fin_hi fin_hi')) (≤F_trans (high g) (greatest_right X.hi Y.hi fin_hi fin_hi')))

-- ---- held to 0..1
pub clamp_encloses : {k : ℕ} {q : Fraction} {X : Interval} → In k q X → In k (held_f q one_f) (clamp01 X)
unfolding clamp01
clamp_encloses {k} {q} {X} h = subst (λ (r : Fraction). In k r (clamp01 X)) (sym (held_is q one_f)) (same (same (min_encloses (max_encloses h zero_encloses) one_encloses)))
  where
    same : {n : ℕ} {q : Fraction} {X : Interval} → In (max n 0) q X → In n q X
    same {n} {q} {X} h = subst (λ (m : ℕ). In m q X) (max-zero n) h

-- ---- the larger size of the ends
negated_zero : neg_f zero_f ≈F zero_f
negated_zero = ring_f 0 (⊝ lit (pos 0)) (lit (pos 0)) tt []

abs_size : (k : ℕ) (x : Float) → Small k x → AbsF (value x) (value (abs x)) × Small k (abs x)
abs_size k x s = go (lt x (b64 0)) (lt_value x (b64 0) f zero_finite) (nlt_value x (b64 0) f zero_finite)
  where
    f : T (finite x)
    f = small_finite k x s

    go : (b : Bool) → (T b → value x <F value (b64 0)) → (T (not b) → value (b64 0) ≤F value x) → AbsF (value x) (value (cond b (neg x) x)) × Small k (cond b (neg x) x)
    go true p q =
        let below = ≤F_trans (<F_le (p tt)) (≈F_le zero_value) in
        let n = abs_neg (abs_of_nonneg (≤F_trans (≈F_ge negated_zero) (neg_mono_f below)) (≈F_ge (value_neg x))) in
        (record { low = ≤F_trans n.low (≈F_le (neg_neg_f (value x))); high = ≤F_trans (≈F_ge (neg_neg_f (value x))) n.high }, small_neg k x s)
    go false p q = (abs_of_nonneg (≤F_trans (≈F_ge zero_value) (q tt)) (≤F_refl (value x)), s)

pub magnitude_small : {k : ℕ} {q : Fraction} {X : Interval} → In k q X → Small k (magnitude X)
unfolding magnitude
magnitude_small {k} {q} {X} h = greatest_one (abs X.lo) (abs X.hi) (Small k) (abs_size k X.lo h.small_lo).1 (abs_size k X.hi h.small_hi).1

-- no fraction that it holds is larger in size
pub magnitude_bounds : {k : ℕ} {q : Fraction} {X : Interval} → In k q X → AbsF q (value (magnitude X))
unfolding magnitude
magnitude_bounds {k} {q} {X} h =
    let (a, s) = abs_size k X.lo h.small_lo in
    let (b, t) = abs_size k X.hi h.small_hi in
    let f = small_finite k (abs X.lo) s in
    let g = small_finite k (abs X.hi) t in
    record {
      low = ≤F_trans (≤F_trans (neg_mono_f (greatest_left (abs X.lo) (abs X.hi) f g)) a.low) (low h);
      high = ≤F_trans (high h) (≤F_trans b.high (greatest_right (abs X.lo) (abs X.hi) f g));
    }

-- ---- an error of at most x in size
pub symmetric_encloses : {k : ℕ} {e : Fraction} (x : Float) → Small k x → AbsF e (value x) → In k e (record { lo = neg x; hi = x })
symmetric_encloses {k} x s h = between (small_neg k x s) s (≤F_trans (≈F_le (value_neg x)) h.low) h.high
