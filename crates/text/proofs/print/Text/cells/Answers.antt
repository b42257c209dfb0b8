-- The line of a cell behind those before it; after the last there is none. Assumes nothing.
use Rattle.text.proofs.ChainLaws.{none_yet, room, one_more, all_written}
use Rattle.text.proofs.print.Text.cells.Goals as goal

pub loop-init : goal.loop-init
loop-init c = none_yet _ _ _ _

pub cell-requires : goal.cell-requires
cell-requires c = room c.loop.invariant c.loop-test.true c.requires

pub loop-preserved : goal.loop-preserved
loop-preserved c = one_more c.loop.invariant c.loop-test.true c.cell.ensures c.next_slot-slot.ensures

pub returns : goal.returns
returns c = all_written c.loop.invariant c.loop-test.false
