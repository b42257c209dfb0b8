-- Entry by entry. Assumes nothing.
use mathlib.Core.List.{[], ◌∷◌}
use lib.IntN.{pos}
use Rattle.text.specs.Cells.{described}
use Rattle.text.proofs.CellsLaws.{entry}
use Rattle.text.proofs.cells.described.Goals as goal

pub returns : goal.returns
unfolding described
returns c =
    let ns = c.args.numbers in
    λ k. record {
      period = entry ns 0 c.result-1.given k;
      kind = pos 0;
      level = record {
        kind = entry ns 1 c.result-2-1.given k;
        from = c.three_from.ensures k;
        to = c.three_from-2.ensures k;
        start = entry ns 8 c.result-3-1.given k;
        end = entry ns 9 c.result-4-1.given k;
      };
      frame = record { w = pos 1; x = pos 0; y = pos 0; z = pos 0; translation = pos 0 ∷ pos 0 ∷ pos 0 ∷ [] };
    }
