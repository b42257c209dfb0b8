-- THE TEXT THAT PROGRAM `cells` PRINTS, document 01's words in quotes: it "prints cells, evaluated, solid, open, then state, lows, highs for
-- each cell, or `refused N`. Single spaces stand between numbers and a newline ends every line." Definitions only; assumes nothing.
use Rattle.std.specs.Prelude.{◌≡◌, List, [], ◌∷◌, ◌++◌, ℕ, ◌≤◌, ℤ, length, take}
use Rattle.table.specs.declared.Head.{Head}
use Rattle.table.specs.Table.{Record}
use Rattle.table.specs.Read.{head_in, records_in}
use Rattle.text.specs.Ascii.{ascii, space, newline}
use Rattle.text.specs.Decimal.{decimal, signed_decimal}

-- a number behind another
abbrev pub spaced : List ℕ → List ℕ
spaced number = space ∷ number

-- "`refused N`"
unfoldable pub refused_text : ℕ → List ℕ
refused_text n = ascii "refused" ++ spaced (decimal n) ++ (newline ∷ [])

-- "cells, evaluated, solid, open"
unfoldable pub head_line : Head → List ℕ
head_line h =
    decimal h.cells ++ spaced (decimal h.evaluated) ++ spaced (decimal h.solid) ++ spaced (decimal h.«open») ++ (newline ∷ [])

-- "state, lows, highs"
unfoldable pub corner_text : ℤ → ℤ → ℤ → List ℕ
corner_text x y z = spaced (signed_decimal x) ++ spaced (signed_decimal y) ++ spaced (signed_decimal z)

unfoldable pub cell_line : Record → List ℕ
cell_line m =
    decimal m.state
    ++ corner_text m.box.lx m.box.ly m.box.lz
    ++ corner_text m.box.hx m.box.hy m.box.hz
    ++ (newline ∷ [])

-- "for each cell"
unfoldable pub cell_lines : List Record → List ℕ
cell_lines [] = []
cell_lines (m ∷ ms) = cell_line m ++ cell_lines ms

-- what is printed of a table: its cells in the order of its chain
unfoldable pub listing : List ℕ → List ℕ
listing t = head_line (head_in t) ++ cell_lines (records_in t)

-- so many bytes at the front of a buffer. The second part follows from the first; a caller's `&out[..r]` asks for both
abbrev pub Front : ℕ → List ℕ → Type 0
Front r out = (r ≤ length out) × (r ≡ length (take r out))
