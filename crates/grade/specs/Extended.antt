-- What the proofs say of the level besides: a piece in t, the affine extension and its slope, the positions of the anchors, a box of whole ticks.
-- No promise of a public call speaks by these. Definitions only; assumes nothing.
use Rattle.std.specs.Prelude.{cond, Option, Some, None, List, ℕ, ◌<◌, ℤ, nat_abs, ◌-ℤ◌, ◌*ℤ◌, ◌≤ℤ◌}
use Rattle.exact.specs.Fraction.{Fraction, whole, zero_f, one_f, ◌/F◌, ◌≤F◌}
use Rattle.interval.specs.declared.Interval.{Interval}
use Rattle.grade.specs.declared.Grade.{Grade}
use Rattle.grade.specs.declared.Piece.{Piece}
use Rattle.grade.specs.declared.Piece.TheVariants.{Start, Ramp, End}
use Rattle.grade.specs.declared.Planes.{Planes}
use Rattle.grade.specs.Holds.{OfTicks}
use Rattle.limits.specs.Ticks.{at}
use Rattle.grade.specs.Grade.{Point, is_linear, direction, length_sq, t, ramp_level}
use Rattle.grade.specs.Fits.{Within3}

-- ---- what a piece says of t
abbrev pub Says : Option Piece → Fraction → Type 0
Says (Some Start) t = t ≤F zero_f
Says (Some Ramp) t = (zero_f ≤F t) × (t ≤F one_f)
Says (Some End) t = one_f ≤F t
Says None t = Unit {0}

-- ---- the positions of `from` and `to` on an axis
abbrev pub positions : Option ℕ → Grade → Option Planes
positions (Some i) g = Some (record { axis = i; from = at g.from i; to = at g.to i })
positions None g = None

-- ---- the affine extension of the level, and its slope along an axis in level counts per tick
unfoldable pub affine_level : Grade → Point → Fraction
affine_level g p = cond (is_linear g) (ramp_level g (t g p)) (whole g.start)

unfoldable pub slope : Grade → ℕ → Fraction
slope g i = cond (is_linear g) (whole (at (direction g) i *ℤ (g.end -ℤ g.start)) /F nat_abs (length_sq g)) zero_f

-- the level's slope on a piece
abbrev pub piece_slope : Grade → Piece → ℕ → Fraction
piece_slope g Start i = zero_f
piece_slope g Ramp i = slope g i
piece_slope g End i = zero_f

-- "A tick is 1/1024 mm; a level count is 1/1024.": ticks in millimetres, and level counts as levels
abbrev pub in_units : Fraction → Fraction
in_units q = q /F 1024

-- ---- w is the box lo..hi of whole ticks, within document 01's limits and in order
pub record WholeTicks (lo hi : List ℤ) (w : List Interval) : Type 0 where
  pub low : Within3 1048576 lo
  pub high : Within3 1048576 hi
  pub order : (i : ℕ) → i < 3 → at lo i ≤ℤ at hi i
  pub ends : OfTicks lo hi w
