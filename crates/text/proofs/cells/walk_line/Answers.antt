-- The walk of what the line describes. Assumes nothing.
use mathlib.Core.Path.{◌∙◌}
use lib.ListN.{length}
use Rattle.walk.specs.declared.TieRule.TheVariants.{LowestAxis}
use Rattle.walk.specs.InUse.{walk_number, walk_table}
use Rattle.text.specs.Cells.{number_of, table_of}
use Rattle.text.proofs.CellsLaws.{entry}
use Rattle.text.proofs.cells.walk_line.Goals as goal

pub returns : goal.returns
unfolding number_of table_of
returns c =
    let described = c.described.ensures in
    let lows = c.three_from.ensures in
    let highs = c.three_from-2.ensures in
    let depth = entry c.args.numbers 16 c.walk-arg-1.given in
    record {
      answer = c.walk.ensures.answer
          ∙ (λ k. walk_number (described k) (lows k) (highs k) (depth k) LowestAxis (length c.args.table.now));
      left = c.walk.ensures.left
          ∙ (λ k. walk_table (described k) (lows k) (highs k) (depth k) LowestAxis c.args.table.now);
    }
