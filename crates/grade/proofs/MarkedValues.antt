-- The level's part in document 01's marked values, by computation: `grade_range` and the pieces of G, and what certification says of the others.
-- The layer of the public calls joins them. Assumes nothing.
use mathlib.Core.Path.{◌≡◌, refl}
use mathlib.Core.Bool.{true}
use Rattle.std.specs.Prelude.{Option, Some, None}
use Prim.Native.Nat.{ℕ}
use lib.IntN.{ℤ, pos, negsuc}
use Rattle.grade.specs.declared.Grade.{Grade}
use Rattle.grade.specs.declared.Piece.TheVariants.{Start, Ramp, End}
use Rattle.grade.specs.declared.Piece.{Piece}
use Rattle.grade.specs.Grade.{in_limits, minus, dot, length_sq}
use Rattle.grade.specs.Exact.{linear_of, compiled, least_corner, greatest_corner, least_along, greatest_along, level_over}
use Rattle.grade.specs.Exact.{linear_range, range, linear_piece, exact_piece}
use Rattle.grade.specs.Refusals.{range_refusal}
use Rattle.grade.specs.Certified.{axis, distance, rise, linear_certification, certification}
use Rattle.grade.specs.Calls.{range_call}
use Rattle.grade.specs.Marked.{along, ramp, G, Ranges}

-- the piece of G over x from a to b
abbrev Pieced : ℤ → ℤ → Option Piece → Type 0
Pieced a b piece = exact_piece (compiled G) (along a) (along b) ≡ piece

-- a level within its limits, that certification gives the number n
abbrev Certifies : Grade → ℕ → Type 0
Certifies g n = (in_limits g ≡ true) × (certification (compiled g) ≡ n)

pub record LevelPart : Type 0 where
  pub length : length_sq G ≡ pos 104857600
  pub one : Ranges (pos 0) (pos 5120) (negsuc 26843545599) (pos 0)
  pub two : Ranges (negsuc 99) (pos 20000) (negsuc 26843545599) (pos 26843545600)
  pub three : Ranges (pos 2560) (pos 2560) (negsuc 13421772799) (negsuc 13421772799)
  pub four : Pieced (negsuc 4) (pos 0) (Some Start)
  pub five : Pieced (pos 0) (pos 10240) (Some Ramp)
  pub six : Pieced (pos 10240) (pos 10250) (Some End)
  pub seven : Pieced (negsuc 0) (pos 1) None
  pub eight : Pieced (pos 0) (pos 0) (Some Start)
  pub certified : Certifies G 0
  pub nine : Certifies (ramp 5120 (negsuc 255) (pos 256)) 0
  pub ten : Certifies (ramp 5119 (negsuc 255) (pos 256)) 5
  pub eleven : Certifies (ramp 10240 (pos 257) (pos 256)) 5
  -- what (12) asks of the level: it is within its limits, so that 2 is the first to refuse it
  pub limits : in_limits (ramp 0 (pos 0) (pos 0)) ≡ true

pub level_part : LevelPart
unfolding in_limits minus dot linear_of compiled least_corner greatest_corner least_along greatest_along level_over linear_range range
    linear_piece exact_piece range_refusal range_call axis distance rise linear_certification certification
level_part = record {
  length = refl;
  one = refl;
  two = refl;
  three = refl;
  four = refl;
  five = refl;
  six = refl;
  seven = refl;
  eight = refl;
  certified = (refl, refl);
  nine = (refl, refl);
  ten = (refl, refl);
  eleven = (refl, refl);
  limits = refl;
}
