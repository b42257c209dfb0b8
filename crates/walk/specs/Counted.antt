-- What is counted of a tree, and what the writer answers. The walk's definitions do not see it. Definitions only; assumes nothing.
use Rattle.std.specs.Prelude.{◌≡◌, Bool, cond, List, ℕ, ◌+◌, ◌-◌, ◌/◌, ◌≤◌, length, leb, Option, Some, None}
use Rattle.gyroid.specs.declared.Gyroid.{Gyroid}
use Rattle.gyroid.specs.declared.State.{State}
use Rattle.tree.specs.declared.Axis.{Axis}
use Rattle.tree.specs.Box.{Box, volume}
use Rattle.tree.specs.Tree.{leaves, cells}
use Rattle.table.specs.declared.Head.{Head}
use Rattle.table.specs.Placed.{placed}
use Rattle.walk.specs.declared.Counted.{Counted}
use Rattle.walk.specs.Walk.{is_inside}
use Rattle.walk.specs.FunctionsInUse.{settled, evaluated_of, solid_of, records_of}

-- of the tree of a box to the depth d
unfoldable pub counted_of : Gyroid → (Box → Axis) → ℕ → Box → Counted
counted_of g axis d b = record { cells = leaves (settled g) axis d b; evaluated = evaluated_of g axis d b; solid = solid_of g axis d b }

-- of one cell
abbrev pub one_cell : State → Box → Counted
one_cell s b = record { cells = 1; evaluated = 1; solid = cond (is_inside s) (volume b) 0 }

-- of two halves and their box
abbrev pub joined_of : Counted → Counted → Counted
joined_of l h = record { cells = l.cells + h.cells; evaluated = 1 + l.evaluated + h.evaluated; solid = l.solid + h.solid }

-- slot 0 of the table of a box of which this is counted
abbrev pub head_with : Counted → Box → Head
head_with c b = record { first = 1; cells = c.cells; evaluated = c.evaluated; solid = c.solid; «open» = volume b - c.solid }

-- what keeps the sums in their words: at most 2^24 cells, 2^25 - 1 boxes and 2^63 tick cubes
pub record Adds (l h : Counted) : Type 0 where
  pub cells : l.cells + h.cells ≤ 16777216
  pub evaluated : 1 + l.evaluated + h.evaluated ≤ 33554431
  pub solid : l.solid + h.solid ≤ 9223372036854775808

-- the writer's answer, none where a cell has no slot: the cells but the first go to the slots from `fresh` on, of a table of `slots` slots
unfoldable pub filled_of : Gyroid → (Box → Axis) → ℕ → Box → ℕ → ℕ → Option Counted
filled_of g axis d b fresh slots = cond (leb (fresh + leaves (settled g) axis d b) (slots + 1)) (Some (counted_of g axis d b)) None

-- what the writer leaves of the bytes t where they hold all cells: those of the box, whose depth is `limit` less d, the first in `slot`, the others
-- from `fresh` on, the last naming `after` if it is the last of all
abbrev pub Written : Gyroid → (Box → Axis) → List ℕ → ℕ → Box → ℕ → ℕ → Bool → ℕ → ℕ → List ℕ → Type 0
Written g axis t d b slot fresh last after limit u = fresh + leaves (settled g) axis d b ≤ length t / 32 + 1
    → u ≡ placed t slot fresh (cond last after (fresh + leaves (settled g) axis d b - 1)) (records_of g (cells (settled g) axis d (limit - d) b))
