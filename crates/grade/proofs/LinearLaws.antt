-- A level in intervals: t from each axis' share, and the piece, the level and its affine extension from t; of a constant the piece and the level. In
-- either arithmetic. Assumes nothing.
use mathlib.Core.Path.{◌≡◌, refl}
use mathlib.Core.List.{List}
use Rattle.std.specs.Prelude.{Some}
use Rattle.interval.specs.declared.Interval.{Interval}
use Rattle.interval.specs.Interval.{Arithmetic, clamp01}
use Rattle.grade.specs.declared.LinearIntervals.{LinearIntervals}
use Rattle.grade.specs.declared.GradeIntervals.{GradeIntervals}
use Rattle.grade.specs.declared.Piece.{Piece}
use Rattle.grade.specs.Intervals.{box_at, zeros, piece_gradient, piece_of}
use Rattle.grade.specs.Intervals.{along_axis, parameter_of, parameter, level_of, interval, affine, piece}

module _ (ar : Arithmetic) where
  pub parameter_shares : (g : LinearIntervals) (w : List Interval) → parameter ar g w
      ≡ parameter_of ar g (along_axis ar g 0 (box_at w 0)) (along_axis ar g 1 (box_at w 1)) (along_axis ar g 2 (box_at w 2))
  unfolding parameter
  parameter_shares g w = refl

  -- a constant level is of the piece Start, and has its value in every box
  module _ (v : Interval) (w : List Interval) where
    pub piece_constant : piece ar (GradeIntervals.Constant v) w ≡ Some Piece.Start
    unfolding piece
    piece_constant = refl

    pub interval_constant : interval ar (GradeIntervals.Constant v) w ≡ v
    unfolding interval
    interval_constant = refl

  module _ (g : LinearIntervals) (w : List Interval) where
    pub piece_linear : piece ar (GradeIntervals.Linear g) w ≡ piece_of (parameter ar g w)
    unfolding piece
    piece_linear = refl

    pub interval_linear : interval ar (GradeIntervals.Linear g) w ≡ level_of ar g (clamp01 (parameter ar g w))
    unfolding interval
    interval_linear = refl

    pub affine_linear : affine ar (GradeIntervals.Linear g) w ≡ level_of ar g (parameter ar g w)
    unfolding affine
    affine_linear = refl

-- ---- the gradient of the start's piece
pub start_gradient : (g : GradeIntervals) → piece_gradient g Piece.Start ≡ zeros
unfolding piece_gradient
start_gradient g = refl
