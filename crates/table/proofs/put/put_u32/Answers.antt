-- The four bytes are the word. Assumes nothing.
use mathlib.Core.Path.{ap, ◌∙◌}
use lib.Seq.{sets}
use Rattle.table.proofs.Words.{word4_bytes}
use Rattle.table.proofs.put.put_u32.Goals as goal

pub returns : goal.returns
returns c =
    let a = c.args in
    c.put_bytes.ensures ∙ ap (sets a.t.now a.at) (word4_bytes a.x c.to_le_bytes.ensures)
