-- The lines of so many cells are written, and the others begin at the slot. Assumes nothing.
use Rattle.text.proofs.ChainLaws.{Begun}
use Rattle.text.proofs.print.Text.cells.Given as goal

abbrev pub invariant-loop : goal.invariant-loop
invariant-loop l = Begun l.fn.self l.self l.table l.first l.cells l.counter l.slot
