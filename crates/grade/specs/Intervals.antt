-- The grade in intervals, in the original's order of operations: lengths are in millimetres and levels plain. What adds is stated of either
-- arithmetic. Definitions only; assumes nothing.
use Rattle.std.specs.Prelude.{◌&&◌, Option, Some, List, [], ◌∷◌, ℕ, ℤ, nat_abs, ◌-ℤ◌, ◌*ℤ◌, get_or}
use Rattle.std.specs.Float.{nan}
use Rattle.std.specs.Float.Ieee.{le}
use Rattle.interval.specs.declared.Interval.{Interval}
use Rattle.interval.specs.Step.{b64}
use Rattle.interval.specs.Interval.{Arithmetic, point, sum, difference, product, quotient, clamp01}
use Rattle.interval.specs.Nearest.{from_rational}
use Rattle.grade.specs.declared.Linear.{Linear}
use Rattle.grade.specs.declared.GradeDef.{GradeDef}
use Rattle.grade.specs.declared.LinearIntervals.{LinearIntervals}
use Rattle.grade.specs.declared.GradeIntervals.{GradeIntervals}
use Rattle.grade.specs.declared.Piece.{Piece}
use Rattle.grade.specs.declared.Piece.TheVariants.{Start, Ramp, End}
use Rattle.limits.specs.Ticks.{at}
use Rattle.grade.specs.Exact.{chosen}

-- ---- the constants. "A tick is 1/1024 mm; a level count is 1/1024."
abbrev pub unit : ℤ → Interval
unit z = from_rational z 1024

abbrev pub units : List ℤ → List Interval
units v = unit (at v 0) ∷ unit (at v 1) ∷ unit (at v 2) ∷ []

-- the gradient's entry on an axis where the anchors differ by d: d (end − start) / L, level per millimetre
abbrev pub slope_along : Linear → ℤ → Interval
slope_along g d = from_rational (d *ℤ (g.end -ℤ g.start)) (nat_abs g.length_sq)

abbrev pub slopes : Linear → List Interval
slopes g = slope_along g (at g.direction 0) ∷ slope_along g (at g.direction 1) ∷ slope_along g (at g.direction 2) ∷ []

-- ---- the entry of a box on an axis
abbrev pub box_at : List Interval → ℕ → Interval
box_at w i = get_or w i (record { lo = nan; hi = nan })

abbrev pub zero : Interval
zero = point (b64 0)

-- ---- the gradient, and that of one piece
abbrev pub zeros : List Interval
zeros = zero ∷ zero ∷ zero ∷ []

unfoldable pub gradient : GradeIntervals → List Interval
gradient (GradeIntervals.Constant c) = zeros
gradient (GradeIntervals.Linear g) = g.slope

unfoldable pub piece_gradient : GradeIntervals → Piece → List Interval
piece_gradient g Start = zeros
piece_gradient g Ramp = gradient g
piece_gradient g End = zeros

-- ---- the piece, by the ends of t
unfoldable pub piece_of : Interval → Option Piece
piece_of t = chosen (le t.hi (b64 0)) (le (b64 0x3ff0_0000_0000_0000) t.lo) (le (b64 0) t.lo && le t.hi (b64 0x3ff0_0000_0000_0000))

-- ---- what adds
module _ (ar : Arithmetic) where
  -- the constants together
  unfoldable pub linear_intervals : Linear → LinearIntervals
  linear_intervals g = record {
    from = units g.from;
    direction = units g.direction;
    length_sq = from_rational g.length_sq 1048576;
    start = unit g.start;
    rise = difference ar (unit g.end) (unit g.start);
    slope = slopes g;
  }

  unfoldable pub grade_intervals : GradeDef → GradeIntervals
  grade_intervals (GradeDef.Constant c) = GradeIntervals.Constant (unit c)
  grade_intervals (GradeDef.Linear g) = GradeIntervals.Linear (linear_intervals g)

  -- ---- t over a box
  unfoldable pub along_axis : LinearIntervals → ℕ → Interval → Interval
  along_axis g i x = product (difference ar x (box_at g.from i)) (box_at g.direction i)

  unfoldable pub parameter_of : LinearIntervals → Interval → Interval → Interval → Interval
  parameter_of g x y z = quotient (sum ar (sum ar (sum ar zero x) y) z) g.length_sq

  -- `interval_parameter`
  unfoldable pub parameter : LinearIntervals → List Interval → Interval
  parameter g w = parameter_of g (along_axis g 0 (box_at w 0)) (along_axis g 1 (box_at w 1)) (along_axis g 2 (box_at w 2))

  -- ---- the level over a box
  -- start + t (end − start)
  unfoldable pub level_of : LinearIntervals → Interval → Interval
  level_of g t = sum ar g.start (product t g.rise)

  unfoldable pub interval : GradeIntervals → List Interval → Interval
  interval (GradeIntervals.Constant c) w = c
  interval (GradeIntervals.Linear g) w = level_of g (clamp01 (parameter g w))

  unfoldable pub affine : GradeIntervals → List Interval → Interval
  affine (GradeIntervals.Constant c) w = c
  affine (GradeIntervals.Linear g) w = level_of g (parameter g w)

  -- ---- the piece
  unfoldable pub piece : GradeIntervals → List Interval → Option Piece
  piece (GradeIntervals.Constant c) w = Some Start
  piece (GradeIntervals.Linear g) w = piece_of (parameter g w)
