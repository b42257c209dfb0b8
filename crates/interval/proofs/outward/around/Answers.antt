-- The branches have tested one end; the least of four above zero has the greatest above it too, and the other way round. Assumes nothing.
use Rattle.interval.proofs.FourCode.{around_above, around_below, from_lowest}
use Rattle.interval.proofs.outward.around.Goals as goal

pub above-requires : goal.above-requires
above-requires c =
    let a = c.args in
    (c.if-low.true, around_above a.a a.b a.c a.d c.inexact-low.result.value _ (cc) (cc) c.if-low.true, c.if-high.true)

pub below-requires : goal.below-requires
below-requires c =
    let a = c.args in
    (around_below a.a a.b a.c a.d c.inexact-low.result.value _ (cc) (cc) c.if-high-2.true, c.if-high-2.true, from_lowest _ c.if-low-2.true)
