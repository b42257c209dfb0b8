-- The two tests say that the double is at most 2 ^ 50 in size. Assumes nothing.
use Rattle.std.proofs.Common.{T, sym, subst}
use lib.Ieee.{of_bits, neg}
use Rattle.interval.proofs.Small.{small_between}
use Rattle.replay.proofs.intervals.quarter_of.Goals as goal

pub quarter_number-requires : goal.quarter_number-requires
unfolding of_bits neg
quarter_number-requires c = small_between 50 c.args.t (subst T (sym c.if-t.true) tt) (subst T (sym c.if-t-2.true) tt)
