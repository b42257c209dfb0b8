-- `residual` one axis at a time: all that one axis of a box gives to it, and the three joined. What adds is stated of either arithmetic.
-- Definitions only; assumes nothing.
use Rattle.std.specs.Prelude.{cond, not, List, [], ◌∷◌, ℕ, Float, Option, Some, None, option_map}
use Rattle.interval.specs.declared.Interval.{Interval}
use Rattle.interval.specs.Interval.{Arithmetic, point, difference, product, clamp01, mid}
use Rattle.grade.specs.declared.Piece.{Piece}
use Rattle.grade.specs.declared.Piece.TheVariants.{Start, Ramp, End}
use Rattle.grade.specs.declared.LinearIntervals.{LinearIntervals}
use Rattle.grade.specs.declared.GradeIntervals.{GradeIntervals}
use Rattle.grade.specs.Intervals.{zero, zeros, along_axis, parameter_of, level_of, piece_gradient, piece_of}
use Rattle.gyroid.specs.declared.Gyroid.{Gyroid}
use Rattle.gyroid.specs.declared.Circle.{Circle}
use Rattle.gyroid.specs.declared.Waves.{Waves}
use Rattle.gyroid.specs.declared.Shares.{Shares}
use Rattle.gyroid.specs.declared.Part.{Part}
use Rattle.gyroid.specs.declared.LevelAbout.{LevelAbout}
use Rattle.gyroid.specs.declared.LevelAbout.TheVariants.{OnePiece, Across}
use Rattle.gyroid.specs.Refusals.{ends_within, greatest_double}
use Rattle.gyroid.specs.Turn.{turn}
use Rattle.gyroid.specs.Jet.{value_at, gradient_at}
use Rattle.gyroid.specs.Residual.{radius, second_order, about_centre}

-- nothing reads a constant level's shares
abbrev pub no_shares : Shares
no_shares = record { along = zero; middle = zero }

-- t at the centre of a box that is one piece, m being what it is without the ends
abbrev pub held_on : Piece → Interval → Interval
held_on Start m = clamp01 m
held_on Ramp m = m
held_on End m = clamp01 m

-- ---- what adds
module _ (ar : Arithmetic) where
  -- ---- one axis
  -- its shares of a linear level's t, over the interval b and at its middle m
  unfoldable pub shares : GradeIntervals → ℕ → Interval → Interval → Shares
  shares (GradeIntervals.Constant level) i b m = no_shares
  shares (GradeIntervals.Linear l) i b m = record { along = along_axis ar l i b; middle = along_axis ar l i m }

  abbrev pub part_of : GradeIntervals → ℕ → Interval → Circle → Part
  part_of g i b c = record { radius = radius ar b; circle = c; shares = shares g i b (point (mid b)) }

  -- found where both ends are finite and the middle's turn is
  unfoldable pub part : Gyroid → ℕ → Interval → Option Part
  part g i b =
      cond (not (ends_within greatest_double b)) None
      (option_map (part_of g.intervals i b) (turn ar g (product (point (mid b)) g.turns)))

  -- ---- the level about the centre of the box whose parts these are: t is t over the box, and m at its centre
  abbrev pub about_on : Option Piece → LinearIntervals → Interval → Interval → LevelAbout
  about_on (Some p) l t m = OnePiece (level_of ar l (held_on p m)) (piece_gradient (GradeIntervals.Linear l) p)
  about_on None l t m = Across (level_of ar l (clamp01 t))

  abbrev pub about_at : LinearIntervals → Interval → Interval → LevelAbout
  about_at l t m = about_on (piece_of t) l t m

  unfoldable pub level_about : GradeIntervals → Shares → Shares → Shares → LevelAbout
  level_about (GradeIntervals.Constant level) x y z = OnePiece level zeros
  level_about (GradeIntervals.Linear l) x y z = about_at l (parameter_of ar l x.along y.along z.along) (parameter_of ar l x.middle y.middle z.middle)

  -- ---- the residual
  -- the second-order term of a box of these half-widths
  unfoldable pub second_of : Gyroid → Float → Float → Float → Interval
  second_of g x y z = second_order ar g.surface g.wave_squared (point x ∷ point y ∷ point z ∷ [])

  abbrev pub waves_at : Part → Part → Part → Waves
  waves_at x y z = record { x = x.circle; y = y.circle; z = z.circle }

  -- less a level that is `level` at the centre and has the gradient `slope`
  unfoldable pub joined_about : Gyroid → Part → Part → Part → Interval → List Interval → Interval
  joined_about g x y z level slope =
      about_centre ar (second_of g x.radius y.radius z.radius) (value_at ar g.surface (waves_at x y z)) (gradient_at ar g.surface (waves_at x y z) g.wave)
      level slope (point x.radius ∷ point y.radius ∷ point z.radius ∷ [])

  -- across an anchor plane without a level, less the level's range over the box
  abbrev pub less_about : Gyroid → Part → Part → Part → LevelAbout → Interval
  less_about g x y z (OnePiece at slope) = joined_about g x y z at slope
  less_about g x y z (Across range) = difference ar (joined_about g x y z zero zeros) range

  unfoldable pub joined_of : Gyroid → Part → Part → Part → Interval
  joined_of g x y z = less_about g x y z (level_about g.intervals x.shares y.shares z.shares)

  -- where all three are found
  abbrev pub joined : Gyroid → Option Part → Option Part → Option Part → Option Interval
  joined g None y z = None
  joined g (Some x) None z = None
  joined g (Some x) (Some y) None = None
  joined g (Some x) (Some y) (Some z) = Some (joined_of g x y z)
