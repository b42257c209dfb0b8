-- THE REST AT THE ARITHMETIC IN USE: what the layer's functions say, and no promise of a public call. Definitions only; assumes nothing.
use Rattle.std.specs.Prelude.{Bool, List, ℕ}
use Rattle.grade.specs.InUse.{in_use}
use Rattle.gyroid.specs.declared.Gyroid.{Gyroid}
use Rattle.gyroid.specs.declared.State.{State}
use Rattle.tree.specs.declared.Axis.{Axis}
use Rattle.tree.specs.Box.{Box}
use Rattle.tree.specs.Tree.{Cell}
use Rattle.table.specs.declared.Head.{Head}
use Rattle.table.specs.Table.{Record}
use Rattle.walk.specs.Walk

abbrev pub state_at : Gyroid → Box → State
state_at = Walk.state_at in_use

abbrev pub settled : Gyroid → Box → Bool
settled = Walk.settled in_use

abbrev pub inside : Gyroid → Box → Bool
inside = Walk.inside in_use

abbrev pub cells_of : Gyroid → (Box → Axis) → ℕ → Box → List Cell
cells_of = Walk.cells_of in_use

abbrev pub evaluated_of : Gyroid → (Box → Axis) → ℕ → Box → ℕ
evaluated_of = Walk.evaluated_of in_use

abbrev pub solid_of : Gyroid → (Box → Axis) → ℕ → Box → ℕ
solid_of = Walk.solid_of in_use

abbrev pub records_of : Gyroid → List Cell → List Record
records_of = Walk.records_of in_use

abbrev pub head_of : Gyroid → (Box → Axis) → ℕ → Box → Head
head_of = Walk.head_of in_use
