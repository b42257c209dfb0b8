-- The two tests say that the double is at most 2 ^ 53 in size. Assumes nothing.
use Rattle.std.proofs.Common.{T, sym, subst}
use lib.Ieee.{of_bits, neg}
use Rattle.interval.proofs.Small.{small_between}
use Rattle.replay.proofs.intervals.floor_of.Goals as goal

pub floor-requires : goal.floor-requires
unfolding of_bits neg
floor-requires c = small_between 53 c.args.y (subst T (sym c.if-y.true) tt) (subst T (sym c.if-y-2.true) tt)
