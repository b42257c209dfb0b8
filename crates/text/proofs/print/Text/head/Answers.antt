-- The number of cells, the three others behind it, and a newline. Assumes nothing.
use Rattle.text.proofs.AppendLaws.{as_appended, then_appended}
use Rattle.text.proofs.ListingLaws.{head_is}
use Rattle.text.proofs.print.Text.head.Goals as goal

pub returns : goal.returns
returns c =
    let two = then_appended _ _ c.decimal.ensures c.spaced.ensures in
    let four = then_appended _ _ (then_appended _ _ two c.spaced-2.ensures) c.spaced-3.ensures in
    as_appended (head_is _) (then_appended _ _ four c.byte.ensures)
