-- THE REST AT THE ARITHMETIC IN USE: what the layer's functions say, and no promise of a public call. Definitions only; assumes nothing.
use Rattle.std.specs.Prelude.{List, ℕ, ℤ, Float, Option}
use Rattle.interval.specs.declared.Interval.{Interval}
use Rattle.grade.specs.InUse.{in_use}
use Rattle.grade.specs.declared.GradeIntervals.{GradeIntervals}
use Rattle.gyroid.specs.declared.Surface.{Surface}
use Rattle.gyroid.specs.declared.Gyroid.{Gyroid}
use Rattle.gyroid.specs.declared.Circle.{Circle}
use Rattle.gyroid.specs.declared.Waves.{Waves}
use Rattle.gyroid.specs.declared.Jet.{Jet}
use Rattle.gyroid.specs.declared.Shares.{Shares}
use Rattle.gyroid.specs.declared.Part.{Part}
use Rattle.gyroid.specs.declared.LevelAbout.{LevelAbout}
use Rattle.gyroid.specs.Turn
use Rattle.gyroid.specs.Jet
use Rattle.gyroid.specs.Residual
use Rattle.gyroid.specs.Parts

abbrev pub reduced : Interval → ℤ → Interval → Interval
reduced = Turn.reduced in_use

abbrev pub horner : List Interval → Interval → ℕ → Interval
horner = Turn.horner in_use

abbrev pub circle_at : Gyroid → Interval → Circle
circle_at = Turn.circle_at in_use

abbrev pub turn : Gyroid → Interval → Option Circle
turn = Turn.turn in_use

abbrev pub value_at : Surface → Waves → Interval
value_at = Jet.value_at in_use

abbrev pub entry_at : Surface → Circle → Interval → Interval → Interval → Interval
entry_at = Jet.entry_at in_use

abbrev pub less : Jet → Interval → List Interval → Jet
less = Jet.less in_use

abbrev pub radius : Interval → Float
radius = Residual.radius in_use

abbrev pub spread : List Interval → List Interval → Interval
spread = Residual.spread in_use

abbrev pub bracket_at : Surface → Interval → Interval → Interval → Interval
bracket_at = Residual.bracket_at in_use

abbrev pub bound : Interval → List Interval → List Interval → Float
bound = Residual.bound in_use

abbrev pub about_centre : Interval → Interval → List Interval → Interval → List Interval → List Interval → Interval
about_centre = Residual.about_centre in_use

abbrev pub expansion : Gyroid → List Interval → Interval → List Interval → Option Interval
expansion = Residual.expansion in_use

abbrev pub shares : GradeIntervals → ℕ → Interval → Interval → Shares
shares = Parts.shares in_use

abbrev pub part : Gyroid → ℕ → Interval → Option Part
part = Parts.part in_use

abbrev pub level_about : GradeIntervals → Shares → Shares → Shares → LevelAbout
level_about = Parts.level_about in_use

abbrev pub second_of : Gyroid → Float → Float → Float → Interval
second_of = Parts.second_of in_use

abbrev pub joined_about : Gyroid → Part → Part → Part → Interval → List Interval → Interval
joined_about = Parts.joined_about in_use

abbrev pub joined_of : Gyroid → Part → Part → Part → Interval
joined_of = Parts.joined_of in_use

abbrev pub joined : Gyroid → Option Part → Option Part → Option Part → Option Interval
joined = Parts.joined in_use
