-- Past the table's end its bytes are zeros. Assumes nothing.
use mathlib.Core.Path.{sym}
use borrow.Author.Rules.{rules}
use Rattle.table.proofs.ReadLaws.{next_past}
use Rattle.text.proofs.ChainLaws.{past}
use Rattle.text.proofs.print.next_slot.Goals as goal

pub returns : goal.returns
returns c = let t = c.args.table.now in sym (next_past t c.args.slot (past t (search rules) c.if-slot-lt2048.false))
