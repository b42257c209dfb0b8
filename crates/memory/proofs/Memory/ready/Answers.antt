-- The ends of a good box are coordinates. Assumes nothing.
use Rattle.std.proofs.Common.{arith}
use Rattle.tree.proofs.ShiftedLaws.{good_shifted}
use Rattle.memory.proofs.Memory.ready.Goals as goal

pub sure-requires-clause-low_bound : goal.sure-requires-clause-low_bound
sure-requires-clause-low_bound c = let n = good_shifted c.args.b c.requires.good in omega (arith, n.below_x, n.most_x)

pub sure-requires-clause-high_bound : goal.sure-requires-clause-high_bound
sure-requires-clause-high_bound c = (good_shifted c.args.b c.requires.good).most_x

pub sure-requires-2-clause-low_bound : goal.sure-requires-2-clause-low_bound
sure-requires-2-clause-low_bound c = let n = good_shifted c.args.b c.requires.good in omega (arith, n.below_y, n.most_y)

pub sure-requires-2-clause-high_bound : goal.sure-requires-2-clause-high_bound
sure-requires-2-clause-high_bound c = (good_shifted c.args.b c.requires.good).most_y

pub sure-requires-3-clause-low_bound : goal.sure-requires-3-clause-low_bound
sure-requires-3-clause-low_bound c = let n = good_shifted c.args.b c.requires.good in omega (arith, n.below_z, n.most_z)

pub sure-requires-3-clause-high_bound : goal.sure-requires-3-clause-high_bound
sure-requires-3-clause-high_bound c = (good_shifted c.args.b c.requires.good).most_z
