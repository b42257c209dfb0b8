-- The ends of one interval more. Assumes nothing.
use native.Mathlib.Omega.{arith}
use Rattle.capi.proofs.RowLaws.{one_more}
use Rattle.capi.proofs.writing.put_rows.Goals as goal

pub loop-k-preserved : goal.loop-k-preserved
loop-k-preserved c = one_more c.args.out.now c.loop-k.out c.args.at c.loop-k.k c.args.vs.now _ (omega arith) c.loop-k.invariant
