-- PROGRAM `cells`, from the bytes that it reads to those that it prints: document 01's words in quotes, and document 02's. Definitions only; assumes
-- nothing.
use Rattle.std.specs.Option.{option_map_or}
use Rattle.std.specs.Prelude.{cond, List, [], ◌∷◌, ℕ, ◌+◌, eqb, ℤ, pos, length, replicate}
use Rattle.limits.specs.Ticks.{at}
use Rattle.gyroid.specs.declared.Description.{Description}
use Rattle.walk.specs.declared.TieRule.TheVariants.{LowestAxis}
use Rattle.walk.specs.InUse.{walk_number, walk_table}
use Rattle.text.specs.Line.{line_of}
use Rattle.text.specs.Listing.{refused_text, listing}

-- three numbers of the line, from a place on
abbrev pub three_from : List ℤ → ℕ → List ℤ
three_from ns i = at ns i ∷ at ns (i + 1) ∷ at ns (i + 2) ∷ []

-- "period, level kind, from, to, start, end"; "network and part frame are set"
unfoldable pub described : List ℤ → Description
described ns = record {
  period = at ns 0;
  kind = pos 0;
  level = record {
    kind = at ns 1;
    from = three_from ns 2;
    to = three_from ns 5;
    start = at ns 8;
    end = at ns 9;
  };
  frame = record {
    w = pos 1;
    x = pos 0;
    y = pos 0;
    z = pos 0;
    translation = pos 0 ∷ pos 0 ∷ pos 0 ∷ [];
  };
}

-- "lows, highs, depth"
abbrev pub lows_in : List ℤ → List ℤ
lows_in ns = three_from ns 10

abbrev pub highs_in : List ℤ → List ℤ
highs_in ns = three_from ns 13

abbrev pub depth_in : List ℤ → ℤ
depth_in ns = at ns 16

-- the walk of a line's numbers: what it returns with a table of `len` bytes, and what it leaves of the table t. Of "the lowest-axis rule" document 02
-- says: "The program `cells` names it too, so its listing stands."
unfoldable pub number_of : List ℤ → ℕ → ℕ
number_of ns len = walk_number (described ns) (lows_in ns) (highs_in ns) (depth_in ns) LowestAxis len

unfoldable pub table_of : List ℤ → List ℕ → List ℕ
table_of ns t = walk_table (described ns) (lows_in ns) (highs_in ns) (depth_in ns) LowestAxis t

-- "It uses a 64 KiB table"
unfoldable pub fresh_table : List ℕ
fresh_table = replicate 65536 0

unfoldable pub walked_text : List ℤ → List ℕ
walked_text ns =
    let number = number_of ns (length fresh_table) in
    cond (eqb number 0) (listing (table_of ns fresh_table)) (refused_text number)

-- "program text, before all else | 14: not the line below"
unfoldable pub cells_text : List ℕ → List ℕ
cells_text t = option_map_or walked_text (line_of t) (refused_text 14)
