-- Two words and two corners, each where the last ended. Assumes nothing.
use Prim.Native.Nat.{◌*◌}
use native.Mathlib.Omega.{arith}
use Rattle.table.proofs.Stored.{cell_stored}
use Rattle.table.proofs.put.put_cell.Goals as goal

pub returns : goal.returns
returns c =
    let a = c.args in
    cell_stored a.t.now (32 * a.slot) a.cell.next a.cell.state a.cell.depth a.cell.b c.put_u32.ensures c.put_state_word.ensures
    c.put_corner.ensures c.put_corner-2.ensures (omega arith) (omega arith)
