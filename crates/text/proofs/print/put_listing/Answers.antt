-- The first line, of slot 0 as it is read, and then the lines of the cells. Assumes nothing.
use mathlib.Core.Path.{◌∙◌}
use native.Mathlib.Nat.{zero-add}
use native.Mathlib.Omega.{arith}
use borrow.Author.Rules.{rules}
use Rattle.text.specs.Listing.{listing}
use Rattle.text.proofs.AppendLaws.{as_appended, then_appended, bytes_after, at_front}
use Rattle.text.proofs.ListingLaws.{listing_is}
use Rattle.text.proofs.print.put_listing.Goals as goal

pub returns : goal.returns
returns c =
    let a = as_appended (listing_is c.args.table.now c.head_of-head.ensures) (then_appended _ _ c.head.ensures c.cells.ensures) in
    let end = a.at_is ∙ zero-add _ in
    record {
      text = bytes_after (search rules) a;
      end = end;
      front = at_front c.args.out.now (listing c.args.table.now) (bytes_after (search rules) a) end (omega (arith, c.requires));
    }
