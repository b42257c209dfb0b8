-- The four bytes of the i32 are its word. Assumes nothing.
use mathlib.Core.Path.{ap, ◌∙◌}
use lib.Seq.{sets}
use Rattle.table.proofs.Words.{tick_bytes}
use Rattle.table.proofs.put.put_coordinate.Goals as goal

pub returns : goal.returns
returns c =
    let a = c.args in
    c.put_bytes.ensures ∙ ap (sets a.t.now a.at) (tick_bytes a.u c.requires.u_bound c.unshift.ensures c.to_le_bytes.ensures)
