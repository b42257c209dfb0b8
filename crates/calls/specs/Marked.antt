-- Document 01's "Marked values", all twelve as one joint fact about what the public calls are held to. Definitions only; assumes nothing.
use Rattle.std.specs.Prelude.{◌≡◌, List, [], ◌∷◌, ℕ, ℤ, pos, negsuc}
use Rattle.grade.specs.declared.Grade.{Grade}
use Rattle.grade.specs.Grade.{length_sq}
use Rattle.grade.specs.Said.{found}
use Rattle.grade.specs.Marked.{along, ramp, G, Ranges}
use Rattle.gyroid.specs.declared.Description.{Description}
use Rattle.gyroid.specs.Description.{origin}
use Rattle.gyroid.specs.Refusals.{refusal}
use Rattle.calls.specs.Calls.{level_piece_call}

-- a network in the part frame
abbrev pub core : Grade → Description
core g = record { period = pos 10240; kind = pos 0; level = g; frame = record { w = pos 1; x = pos 0; y = pos 0; z = pos 0; translation = origin } }

-- what `level_piece` says over x from a to b: 0 Start, 1 Ramp, 2 End, or none
abbrev pub PieceIs : ℤ → ℤ → List ℕ → Type 0
PieceIs a b piece = level_piece_call (core G) (along a) (along b) ≡ found piece

pub record Marked : Type 0 where
  -- the square of the anchor distance: "L = 104857600"
  pub length : length_sq G ≡ pos 104857600
  -- (1) to (3), `grade_range`
  pub one : Ranges (pos 0) (pos 5120) (negsuc 26843545599) (pos 0)
  pub two : Ranges (negsuc 99) (pos 20000) (negsuc 26843545599) (pos 26843545600)
  pub three : Ranges (pos 2560) (pos 2560) (negsuc 13421772799) (negsuc 13421772799)
  -- (4) to (8), `level_piece`
  pub four : PieceIs (negsuc 4) (pos 0) (0 ∷ [])
  pub five : PieceIs (pos 0) (pos 10240) (1 ∷ [])
  pub six : PieceIs (pos 10240) (pos 10250) (2 ∷ [])
  pub seven : PieceIs (negsuc 0) (pos 1) []
  pub eight : PieceIs (pos 0) (pos 0) (0 ∷ [])
  -- "(9) slope 512 over 5120 accepted, (10) over 5119 refused 5. (11) start 257 refused 5."
  pub nine : refusal (core (ramp 5120 (negsuc 255) (pos 256))) ≡ 0
  pub ten : refusal (core (ramp 5119 (negsuc 255) (pos 256))) ≡ 5
  pub eleven : refusal (core (ramp 10240 (pos 257) (pos 256))) ≡ 5
  -- the anchors are tested before the ends are compared: "(12) from = to with start = end refused 2."
  pub twelve : refusal (core (ramp 0 (pos 0) (pos 0))) ≡ 2
