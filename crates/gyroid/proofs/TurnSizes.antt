-- The size that the tests of `turn` leave: a reducible turn has a quarter number. Assumes nothing.
use mathlib.Core.Bool.{◌&&◌}
use lib.Dec.{T, lit≤}
use lib.Ieee.{Float, neg, lt, of_bits}
use Rattle.interval.specs.declared.Interval.{Interval}
use Rattle.interval.specs.Interval.{mid}
use Rattle.interval.specs.Encloses.{Small}
use Rattle.interval.proofs.Small.{small_between, small_more}
use Rattle.interval.proofs.Compare.{lt_le}
use Rattle.interval.proofs.DoubleSizes.{mid_small}
use Rattle.limits.proofs.TickLaws.{both}
use Rattle.gyroid.specs.Turn.{largest_turn, reducible}

-- ---- a reducible turn
below : (x : Float) → T (lt (neg largest_turn) x) → T (lt x largest_turn) → Small 40 x
unfolding of_bits neg
below x h k = small_between 40 x (lt_le (neg largest_turn) x h) (lt_le x largest_turn k)

pub mid_turn_small : (t : Interval) → T (reducible t) → Small 50 (mid t)
mid_turn_small t r =
    let (h, d) = both (lt (neg largest_turn) t.lo && lt t.lo largest_turn && lt (neg largest_turn) t.hi) (lt t.hi largest_turn) r in
    let (h, c) = both (lt (neg largest_turn) t.lo && lt t.lo largest_turn) (lt (neg largest_turn) t.hi) h in
    let (a, b) = both (lt (neg largest_turn) t.lo) (lt t.lo largest_turn) h in
    small_more 41 50 (mid t) (lit≤ tt) (mid_small 40 t tt tt (below t.lo a b) (below t.hi c d))
