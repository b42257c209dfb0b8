-- "The rounded end candidates (two, ..), then the least is stepped .. and the greatest": of a sum's and a difference's two candidates the low
-- one is the lesser, wherever the intervals' ends are in order. So the definitions take no least and greatest there. Assumes nothing.
use Rattle.std.proofs.Common.{ℕ, suc, ◌≤◌}
use lib.Ieee.{binary64, add, sub}
use Rattle.exact.specs.Fraction.{Fraction, ◌≤F◌}
use Rattle.exact.proofs.Fraction.{≤F_trans, add_mono_f, sub_mono_f}
use Rattle.interval.specs.declared.Interval.{Interval}
use Rattle.interval.specs.Encloses.{value}
use Rattle.interval.proofs.Small.{small_finite}
use Rattle.interval.proofs.Rounding.{rounds_mono}
use Rattle.interval.proofs.Candidates.{sum_candidate, difference_candidate}
use Rattle.interval.proofs.Membership.{In, low, high}

-- an interval that holds a fraction has its ends in order
module _ (n : ℕ) (N : suc n ≤ 1022) {q r : Fraction} {X Y : Interval} (h : In n q X) (g : In n r Y) where
  pub sum_in_order : value (add binary64 X.lo Y.lo) ≤F value (add binary64 X.hi Y.hi)
  sum_in_order =
      let a = sum_candidate n N X.lo Y.lo h.small_lo g.small_lo in
      let b = sum_candidate n N X.hi Y.hi h.small_hi g.small_hi in
      rounds_mono a.rounds b.rounds (small_finite (suc n) (add binary64 X.lo Y.lo) a.small) (small_finite (suc n) (add binary64 X.hi Y.hi) b.small)
      (add_mono_f (≤F_trans (low h) (high h)) (≤F_trans (low g) (high g)))

  pub difference_in_order : value (sub binary64 X.lo Y.hi) ≤F value (sub binary64 X.hi Y.lo)
  difference_in_order =
      let a = difference_candidate n N X.lo Y.hi h.small_lo g.small_hi in
      let b = difference_candidate n N X.hi Y.lo h.small_hi g.small_lo in
      rounds_mono a.rounds b.rounds (small_finite (suc n) (sub binary64 X.lo Y.hi) a.small) (small_finite (suc n) (sub binary64 X.hi Y.lo) b.small)
      (sub_mono_f (≤F_trans (low h) (high h)) (≤F_trans (low g) (high g)))
