-- The copy is the text stored behind the bytes before. Assumes nothing.
use mathlib.Core.Path.{◌≡◌, refl}
use native.Mathlib.Omega.{arith}
use borrow.Author.Rules.{rules}
use lib.ListN.{length}
use Rattle.text.proofs.AppendLaws.{copied}
use Rattle.text.proofs.print.Text.bytes.Goals as goal

pub returns : goal.returns
returns c =
    let l = c.args.self.now.out.now in
    let size : length l ≡ 131072 = search rules in
    record {
      written = copied l c.args.self.now.at c.args.text.now c.copy_from_slice.ensures.after (omega (arith, size, c.requires));
      at_is = refl;
      lent = refl;
    }
