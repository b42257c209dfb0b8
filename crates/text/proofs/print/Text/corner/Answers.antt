-- Three coordinates, one behind the other. Assumes nothing.
use Rattle.text.proofs.AppendLaws.{as_appended, then_appended}
use Rattle.text.proofs.ListingLaws.{corner_is}
use Rattle.text.proofs.print.Text.corner.Goals as goal

pub returns : goal.returns
returns c =
    let two = then_appended _ _ c.coordinate.ensures c.coordinate-2.ensures in
    as_appended (corner_is _ _ _) (then_appended _ _ two c.coordinate-3.ensures)
