-- `expansion`, `residual`, `affine_residual` and `box_state`: "follow the Rust's order of operations". What adds is stated of either
-- arithmetic. Definitions only; assumes nothing.
use Rattle.std.specs.Prelude.{cond, not, List, [], ◌∷◌, ℕ, Float, Option, Some, None, option_map}
use Rattle.std.specs.Float.Ieee.{lt}
use Rattle.interval.specs.declared.Interval.{Interval}
use Rattle.interval.specs.Step.{b64}
use Rattle.interval.specs.Interval.{Arithmetic, point, greatest, sum, difference, product, square, mid, magnitude}
use Rattle.grade.specs.declared.Piece.{Piece}
use Rattle.grade.specs.declared.Piece.TheVariants.{Start, Ramp, End}
use Rattle.grade.specs.declared.GradeIntervals.{GradeIntervals}
use Rattle.grade.specs.Intervals.{box_at, zero, zeros, interval, affine, gradient, piece_gradient, piece}
use Rattle.gyroid.specs.declared.Surface.{Surface}
use Rattle.gyroid.specs.declared.Gyroid.{Gyroid}
use Rattle.gyroid.specs.declared.Jet.{Jet}
use Rattle.gyroid.specs.declared.State.{State}
use Rattle.gyroid.specs.declared.State.TheVariants.{Inside, Outside, Unsettled}
use Rattle.gyroid.specs.Refusals.{all_finite}
use Rattle.gyroid.specs.Turn.{symmetric}
use Rattle.gyroid.specs.Jet.{minus, jet}

-- a box's centre, as points
unfoldable pub centre : List Interval → List Interval
centre w = point (mid (box_at w 0)) ∷ point (mid (box_at w 1)) ∷ point (mid (box_at w 2)) ∷ []

-- an axis' share of the first-order term, from the gradient less the level's
unfoldable pub reach : Interval → Interval → Interval
reach d r = product (point (magnitude d)) r

-- "Answers are an enclosure or none": an `Option Interval`. "`box_state`: outside if lo > 0, inside if hi < 0, otherwise unsettled."
abbrev pub state_of : Option Interval → State
state_of (Some v) = cond (lt (b64 0) v.lo) Outside (cond (lt v.hi (b64 0)) Inside Unsettled)
state_of None = Unsettled

-- the table's numbers: "1 inside, 2 outside, 3 unsettled"
abbrev pub state_number : State → ℕ
state_number Inside = 1
state_number Outside = 2
state_number Unsettled = 3

-- ---- what adds
module _ (ar : Arithmetic) where
  -- ---- a box's half-widths, as points
  -- the larger of the two distances from the centre, their high ends
  unfoldable pub radius : Interval → Float
  radius b = greatest (difference ar (point b.hi) (point (mid b))).hi (difference ar (point (mid b)) (point b.lo)).hi

  unfoldable pub radii : List Interval → List Interval
  radii w = point (radius (box_at w 0)) ∷ point (radius (box_at w 1)) ∷ point (radius (box_at w 2)) ∷ []

  -- ---- the second-order bound
  -- the first-order term
  unfoldable pub spread : List Interval → List Interval → Interval
  spread d r = sum ar (sum ar (sum ar zero (reach (box_at d 0) (box_at r 0))) (reach (box_at d 1) (box_at r 1))) (reach (box_at d 2) (box_at r 2))

  -- the second-order term over k²: x² + y² + z² + x·y + y·z + z·x, and of the primitive surface "((rx² + ry²) + rz²) × 0.5"
  unfoldable pub bracket_at : Surface → Interval → Interval → Interval → Interval
  bracket_at Surface.Network x y z = sum ar (sum ar (sum ar (sum ar (sum ar (square x) (square y)) (square z)) (product x y)) (product y z)) (product z x)
  bracket_at Surface.Primitive x y z = product (sum ar (sum ar (square x) (square y)) (square z)) (point (b64 0x3fe0_0000_0000_0000))

  unfoldable pub second_order : Surface → Interval → List Interval → Interval
  second_order f k2 r = product k2 (bracket_at f (box_at r 0) (box_at r 1) (box_at r 2))

  -- both, q being the second-order term
  unfoldable pub bound : Interval → List Interval → List Interval → Float
  bound q d r = (sum ar (spread d r) q).hi

  -- ---- the expansion
  -- the second-order term, the value and the gradient at the centre, the level there and its slope, the half-widths
  abbrev pub about_centre : Interval → Interval → List Interval → Interval → List Interval → List Interval → Interval
  about_centre q value gradient level slope r = sum ar (difference ar value level) (symmetric (bound q (minus ar gradient slope) r))

  abbrev pub expanded : Interval → Interval → List Interval → List Interval → Jet → Interval
  expanded q level slope r j = about_centre q j.value j.gradient level slope r

  unfoldable pub expansion : Gyroid → List Interval → Interval → List Interval → Option Interval
  expansion g w level slope =
      cond (not (all_finite w)) None
      (option_map (expanded (second_order g.surface g.wave_squared (radii w)) level slope (radii w)) (jet ar g (centre w)))

  -- ---- the choice of the level by piece
  abbrev pub level_at : GradeIntervals → Piece → List Interval → Interval
  level_at g Start m = interval ar g m
  level_at g Ramp m = affine ar g m
  level_at g End m = interval ar g m

  abbrev pub less_level : Option Interval → Interval → Option Interval
  less_level r level = option_map (λ v. difference ar v level) r

  -- across an anchor plane: the expansion without a level, less the level's range over the box
  abbrev pub residual_on : Option Piece → Gyroid → List Interval → Option Interval
  residual_on (Some p) g w = expansion g w (level_at g.intervals p (centre w)) (piece_gradient g.intervals p)
  residual_on None g w = less_level (expansion g w zero zeros) (interval ar g.intervals w)

  -- a constant level is of the piece Start, which has its level and no gradient
  unfoldable pub residual : Gyroid → List Interval → Option Interval
  residual g w = residual_on (piece ar g.intervals w) g w

  -- with the level's affine extension, which of a constant level is that level without a gradient
  unfoldable pub affine_residual : Gyroid → List Interval → Option Interval
  affine_residual g w = expansion g w (affine ar g.intervals (centre w)) (gradient g.intervals)

  -- ---- the state
  unfoldable pub box_state : Gyroid → List Interval → State
  box_state g w = state_of (residual g w)
