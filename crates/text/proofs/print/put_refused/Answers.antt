-- The word, the number behind it, and a newline. Assumes nothing.
use mathlib.Core.Path.{◌∙◌}
use native.Mathlib.Nat.{zero-add}
use native.Mathlib.Omega.{arith}
use borrow.Author.Rules.{rules}
use Rattle.text.specs.Listing.{refused_text}
use Rattle.text.proofs.AppendLaws.{then_appended, bytes_after, at_front}
use Rattle.text.proofs.DecimalLaws.{few_digits}
use Rattle.text.proofs.ListingLaws.{length_refused}
use Rattle.text.proofs.print.put_refused.Goals as goal

pub spaced-requires : goal.spaced-requires
spaced-requires c = omega (arith, few_digits 9 c.args.n (omega arith))

pub byte-requires : goal.byte-requires
byte-requires c = omega (arith, few_digits 9 c.args.n (omega arith))

pub returns : goal.returns
unfolding refused_text
returns c =
    let n = c.args.n in
    let a = then_appended _ _ (then_appended _ _ c.bytes.ensures c.spaced.ensures) c.byte.ensures in
    let end = a.at_is ∙ zero-add _ in
    let few = few_digits 9 n (omega arith) in
    record {
      text = bytes_after (search rules) a;
      end = end;
      front = at_front c.args.out.now (refused_text n) (bytes_after (search rules) a) end (omega (arith, length_refused n, few));
    }
