-- What is done at a box of the tree. The walk's definitions do not see it. Definitions only; assumes nothing.
use Rattle.std.specs.Prelude.{cond, ◌||◌, ℕ, eqb}
use Rattle.gyroid.specs.declared.Gyroid.{Gyroid}
use Rattle.tree.specs.declared.Axis.{Axis}
use Rattle.tree.specs.Box.{Box, one_cube}
use Rattle.walk.specs.declared.Step.{Step}
use Rattle.walk.specs.Walk.{is_settled}
use Rattle.walk.specs.FunctionsInUse.{state_at}

-- with the depth d left: it is a cell, or it is halved on an axis
unfoldable pub step_at : Gyroid → (Box → Axis) → ℕ → Box → Step
step_at g axis d b = cond (is_settled (state_at g b) || eqb d 0 || one_cube b) (Step.Cell (state_at g b)) (Step.Halves (axis b))
