-- The levels of document 01's "Marked values", and what `grade_range` says of G: the values themselves join in the layer of the public calls.
-- Definitions only; assumes nothing.
use Rattle.std.specs.Prelude.{◌≡◌, List, [], ◌∷◌, ℕ, ℤ, pos, negsuc}
use Rattle.grade.specs.declared.Grade.{Grade}
use Rattle.grade.specs.Said.{found}
use Rattle.grade.specs.Calls.{range_call}

-- x alone; y and z are 0
abbrev pub along : ℤ → List ℤ
along x = x ∷ pos 0 ∷ pos 0 ∷ []

-- a linear level from x 0 to x n
abbrev pub ramp : ℕ → ℤ → ℤ → Grade
ramp n start end = record { kind = pos 1; from = along (pos 0); to = along (pos n); start = start; end = end }

-- "G being x 0 to 10240, −256 to 256"
abbrev pub G : Grade
G = ramp 10240 (negsuc 255) (pos 256)

-- G over x from a to b: the two numerators over L
abbrev pub Ranges : ℤ → ℤ → ℤ → ℤ → Type 0
Ranges a b low high = range_call G (along a) (along b) ≡ found (low ∷ high ∷ pos 104857600 ∷ [])
