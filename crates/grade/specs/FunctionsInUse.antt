-- THE REST AT THE ARITHMETIC IN USE: what the layer's functions say, and no promise of a public call. Definitions only; assumes nothing.
use Rattle.std.specs.Prelude.{List, ℕ, Option}
use Rattle.interval.specs.declared.Interval.{Interval}
use Rattle.grade.specs.declared.Linear.{Linear}
use Rattle.grade.specs.declared.GradeDef.{GradeDef}
use Rattle.grade.specs.declared.LinearIntervals.{LinearIntervals}
use Rattle.grade.specs.declared.GradeIntervals.{GradeIntervals}
use Rattle.grade.specs.declared.Piece.{Piece}
use Rattle.grade.specs.Intervals
use Rattle.grade.specs.InUse.{in_use}

abbrev pub linear_intervals : Linear → LinearIntervals
linear_intervals = Intervals.linear_intervals in_use

abbrev pub grade_intervals : GradeDef → GradeIntervals
grade_intervals = Intervals.grade_intervals in_use

abbrev pub along_axis : LinearIntervals → ℕ → Interval → Interval
along_axis = Intervals.along_axis in_use

abbrev pub parameter_of : LinearIntervals → Interval → Interval → Interval → Interval
parameter_of = Intervals.parameter_of in_use

abbrev pub parameter : LinearIntervals → List Interval → Interval
parameter = Intervals.parameter in_use

abbrev pub level_of : LinearIntervals → Interval → Interval
level_of = Intervals.level_of in_use

abbrev pub interval : GradeIntervals → List Interval → Interval
interval = Intervals.interval in_use

abbrev pub affine : GradeIntervals → List Interval → Interval
affine = Intervals.affine in_use

abbrev pub piece : GradeIntervals → List Interval → Option Piece
piece = Intervals.piece in_use
