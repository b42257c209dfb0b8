-- THE WALK AT THE ARITHMETIC IN USE, by which the promises of public calls speak. The laws of the table are of either arithmetic. Definitions
-- only; assumes nothing.
use Rattle.std.specs.Prelude.{List, ℕ, ℤ}
use Rattle.grade.specs.InUse.{in_use}
use Rattle.gyroid.specs.declared.Description.{Description}
use Rattle.gyroid.specs.declared.Gyroid.{Gyroid}
use Rattle.tree.specs.declared.Axis.{Axis}
use Rattle.tree.specs.Box.{Box}
use Rattle.walk.specs.declared.TieRule.{TieRule}
use Rattle.walk.specs.Walk
use Rattle.walk.specs.Demand as demand

abbrev pub room_refusal : Gyroid → (Box → Axis) → ℕ → Box → ℕ → ℕ
room_refusal = Walk.room_refusal in_use

abbrev pub room_table : Gyroid → (Box → Axis) → ℕ → Box → ℕ → List ℕ
room_table = Walk.room_table in_use

abbrev pub walk_number : Description → List ℤ → List ℤ → ℤ → TieRule → ℕ → ℕ
walk_number = Walk.walk_number in_use

abbrev pub walk_table : Description → List ℤ → List ℤ → ℤ → TieRule → List ℕ → List ℕ
walk_table = Walk.walk_table in_use

abbrev pub Supposed : Description → List ℤ → List ℤ → ℤ → TieRule → ℕ → Type 0
Supposed = demand.Supposed in_use

abbrev pub Demand : Description → Box → ℕ → TieRule → List ℕ → Type 0
Demand = demand.Demand in_use
