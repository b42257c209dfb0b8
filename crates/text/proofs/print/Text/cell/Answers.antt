-- The state, the lows, the highs and a newline: each has room, since all of the line has. Assumes nothing.
use mathlib.Core.Path.{sym, ap}
use Prim.Native.Nat.{ℕ}
use lib.ListN.{length}
use native.Mathlib.Omega.{arith}
use Rattle.text.specs.Decimal.{decimal}
use Rattle.text.proofs.AppendLaws.{as_appended, then_appended}
use Rattle.text.proofs.ListingLaws.{cell_is, length_cell}
use Rattle.text.proofs.print.Text.cell.Goals as goal

pub decimal-requires : goal.decimal-requires
decimal-requires c = omega (arith, length_cell, ap (λ (k : ℕ). length (decimal k)) c.state.ensures)

pub corner-requires-clause-room : goal.corner-requires-clause-room
corner-requires-clause-room c = omega (arith, length_cell, ap (λ (k : ℕ). length (decimal k)) c.state.ensures)

pub corner-requires-2-clause-room : goal.corner-requires-2-clause-room
corner-requires-2-clause-room c = omega (arith, length_cell, ap (λ (k : ℕ). length (decimal k)) c.state.ensures)

pub byte-requires : goal.byte-requires
byte-requires c = omega (arith, length_cell, ap (λ (k : ℕ). length (decimal k)) c.state.ensures)

pub returns : goal.returns
returns c =
    let one = as_appended (ap decimal (sym c.state.ensures)) c.decimal.ensures in
    let three = then_appended _ _ (then_appended _ _ one c.corner.ensures) c.corner-2.ensures in
    as_appended (cell_is _ _) (then_appended _ _ three c.byte.ensures)
