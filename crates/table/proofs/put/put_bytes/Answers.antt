-- One byte more at each turn. Assumes nothing.
use mathlib.Core.Path.{ap, ◌∙◌}
use native.Mathlib.Omega.{arith}
use lib.ListN.{length-set}
use lib.Seq.{sets}
use Rattle.std.proofs.lemmas.List.{take_all}
use Rattle.table.proofs.Stores.{one_more}
use Rattle.table.proofs.put.put_bytes.Goals as goal

pub loop-i-preserved : goal.loop-i-preserved
loop-i-preserved g c =
    let l = c.loop-i in
    let a = c.args in
    record {
      stored = one_more a.t.now a.bytes a.at l.i 0 (omega arith) l.invariant.stored;
      long = length-set l.t _ _ ∙ l.invariant.long;
    }

pub returns : goal.returns
returns g c =
    let l = c.loop-i in
    l.invariant.stored ∙ ap (sets c.args.t.now c.args.at) (take_all l.i c.args.bytes (omega arith))
