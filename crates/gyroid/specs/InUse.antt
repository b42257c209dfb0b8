-- THE DEFINITIONS AT THE ARITHMETIC IN USE by which the promises of public calls speak. The laws are of either arithmetic. Definitions only;
-- assumes nothing.
use Rattle.std.specs.Prelude.{List, Option}
use Rattle.interval.specs.declared.Interval.{Interval}
use Rattle.grade.specs.InUse.{in_use}
use Rattle.gyroid.specs.declared.Surface.{Surface}
use Rattle.gyroid.specs.declared.Description.{Description}
use Rattle.gyroid.specs.declared.Gyroid.{Gyroid}
use Rattle.gyroid.specs.declared.Waves.{Waves}
use Rattle.gyroid.specs.declared.Jet.{Jet}
use Rattle.gyroid.specs.declared.State.{State}
use Rattle.gyroid.specs.Leaf
use Rattle.gyroid.specs.Jet
use Rattle.gyroid.specs.Residual

abbrev pub leaf : Description → Gyroid
leaf = Leaf.leaf in_use

abbrev pub waves : Gyroid → List Interval → Option Waves
waves = Jet.waves in_use

abbrev pub gradient_at : Surface → Waves → Interval → List Interval
gradient_at = Jet.gradient_at in_use

abbrev pub jet : Gyroid → List Interval → Option Jet
jet = Jet.jet in_use

abbrev pub minus : List Interval → List Interval → List Interval
minus = Jet.minus in_use

abbrev pub affine_jet : Gyroid → List Interval → Option Jet
affine_jet = Jet.affine_jet in_use

abbrev pub radii : List Interval → List Interval
radii = Residual.radii in_use

abbrev pub residual : Gyroid → List Interval → Option Interval
residual = Residual.residual in_use

abbrev pub affine_residual : Gyroid → List Interval → Option Interval
affine_residual = Residual.affine_residual in_use

abbrev pub box_state : Gyroid → List Interval → State
box_state = Residual.box_state in_use
