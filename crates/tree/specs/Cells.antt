-- What is said of a list of cells: what each of them is, and what more depth makes of it. Definitions only; assumes nothing.
use Rattle.std.specs.Prelude.{◌≡◌, Bool, true, List, [], ◌∷◌, ◌++◌, ◌⊎◌, ℕ, ◌≤◌}
use Rattle.tree.specs.declared.Axis.{Axis}
use Rattle.tree.specs.Box.{Box, Good}
use Rattle.tree.specs.Tree.{Cell, stops}

abbrev pub All : (Cell → Type 0) → List Cell → Type 0
All P [] = Unit {0}
All P (c ∷ cs) = P c × All P cs

-- why a box of the tree isn't halved: it is at the depth limit, or it is settled or one tick cube
pub record Stopped (settled : Box → Bool) (axis : Box → Axis) (limit : ℕ) (c : Cell) : Type 0 where
  pub good : Good c.box
  pub depth_le : c.depth ≤ limit
  pub why : (c.depth ≡ limit) ⊎ (stops settled axis c.box ≡ true)

-- each cell replaced by cells of its own
unfoldable pub grown : (Cell → List Cell) → List Cell → List Cell
grown f [] = []
grown f (c ∷ cs) = f c ++ grown f cs
