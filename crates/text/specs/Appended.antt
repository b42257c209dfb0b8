-- HOW A TEXT IS WRITTEN: more text goes behind what is written already, and every other byte stays as it was. Definitions only; assumes nothing.
use Rattle.std.specs.Prelude.{◌≡◌, List, ℕ, ◌+◌, length}
use Rattle.std.proofs.lemmas.List.Edits.{sets}
use Rattle.table.specs.Read.{coordinate_in}
use Rattle.text.specs.declared.print.Text.{Text}
use Rattle.text.specs.Listing.{corner_text}

-- of a text in lent bytes before and after: what is added stands behind it and ends the text now; all other bytes stand as they stood, and the
-- bytes are those that were lent
pub record Appended (before : Text) (added : List ℕ) (after : Text) : Type 0 where
  pub written : after.out.now ≡ sets before.out.now before.at added
  pub at_is : after.at ≡ before.at + length added
  pub lent : after.out.ghost_name ≡ before.out.ghost_name

-- three coordinates of a cell, from the i-th on: its lows from 0, its highs from 3
abbrev pub corner_in : List ℕ → ℕ → ℕ → List ℕ
corner_in t slot i = corner_text (coordinate_in t slot i) (coordinate_in t slot (i + 1)) (coordinate_in t slot (i + 2))
