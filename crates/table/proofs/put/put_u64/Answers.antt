-- The eight bytes are the two words. Assumes nothing.
use mathlib.Core.Path.{ap, ◌∙◌}
use lib.Seq.{sets}
use Rattle.table.proofs.Words.{word8_bytes}
use Rattle.table.proofs.put.put_u64.Goals as goal

pub returns : goal.returns
returns c =
    let a = c.args in
    c.put_bytes.ensures ∙ ap (sets a.t.now a.at) (word8_bytes a.x c.to_le_bytes.ensures)
