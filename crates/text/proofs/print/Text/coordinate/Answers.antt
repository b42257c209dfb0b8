-- A space, and the coordinate behind it. Assumes nothing.
use mathlib.Core.Path.{ap, sym, ◌∙◌}
use native.Mathlib.Omega.{arith}
use lib.IntN.{ℤ}
use lib.ListN.{length}
use Rattle.exact.proofs.Signed.{back}
use Rattle.text.specs.Decimal.{signed_decimal}
use Rattle.text.proofs.AppendLaws.{as_appended, then_appended}
use Rattle.text.proofs.print.Text.coordinate.Goals as goal

pub signed-requires : goal.signed-requires
signed-requires c =
    let read = back (record { sfits = c.coordinate.type_inv }) ∙ c.coordinate.ensures in
    omega (arith, ap (λ (z : ℤ). length (signed_decimal z)) read)

pub returns : goal.returns
returns c =
    let read = back (record { sfits = c.coordinate.type_inv }) ∙ c.coordinate.ensures in
    then_appended _ _ c.byte.ensures (as_appended (ap signed_decimal (sym read)) c.signed.ensures)
