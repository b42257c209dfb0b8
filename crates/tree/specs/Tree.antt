-- THE TREE: document 01's "The walk (added)", its words in quotes, over any rule for which boxes are settled and any rule for the axis that a
-- box is halved on. "The tree is the box and every half that the rule above makes." Definitions only; assumes nothing.
use Rattle.std.specs.Prelude.{◌≡◌, Bool, false, cond, ◌||◌, List, [], ◌∷◌, ◌++◌, ℕ, zero, suc, ◌+◌, ◌≤◌}
use Rattle.tree.specs.declared.Axis.{Axis}
use Rattle.tree.specs.Box.{Box, Good, span, one_cube, volume, lower, upper}

-- "a cell is a box of the tree that isn't halved"; "A box's depth is the number of halvings that lead to it"
pub record Cell : Type 0 where
  pub box : Box
  pub depth : ℕ

module _ (settled : Box → Bool) (axis : Box → Axis) where
  -- a box that is a cell whatever depth is left: it is settled, or one tick cube
  abbrev pub stops : Box → Bool
  stops b = settled b || one_cube b

  abbrev pub lower_half : Box → Box
  lower_half b = lower (axis b) b

  abbrev pub upper_half : Box → Box
  upper_half b = upper (axis b) b

  -- the cells in walk order, "lower half first": of a box at depth k with the depth d left, "Each half is walked as a box of its own, with one depth fewer."
  unfoldable pub cells : ℕ → ℕ → Box → List Cell
  cells zero k b = record { box = b; depth = k } ∷ []
  cells (suc d) k b = cond (stops b) (record { box = b; depth = k } ∷ []) (cells d (suc k) (lower_half b) ++ cells d (suc k) (upper_half b))

  -- their number
  unfoldable pub leaves : ℕ → Box → ℕ
  leaves zero b = 1
  leaves (suc d) b = cond (stops b) 1 (leaves d (lower_half b) + leaves d (upper_half b))

  -- "Evaluated is the number of boxes in the tree, each taken once"
  unfoldable pub box_count : ℕ → Box → ℕ
  box_count zero b = 1
  box_count (suc d) b = cond (stops b) 1 (1 + box_count d (lower_half b) + box_count d (upper_half b))

-- a choice of the axis is fair if it takes no span of 1 of a box that is no tick cube
unfoldable pub Fair : (Box → Axis) → Type 0
Fair axis = (b : Box) → Good b → one_cube b ≡ false → 2 ≤ span (axis b) b

-- the boxes of a list of cells
unfoldable pub cell_boxes : List Cell → List Box
cell_boxes [] = []
cell_boxes (c ∷ cs) = c.box ∷ cell_boxes cs

-- the tick cubes of the cells whose box has a property: "Solid volume is the tick cubes of inside cells"
unfoldable pub volume_of : (Box → Bool) → List Cell → ℕ
volume_of inside [] = 0
volume_of inside (c ∷ cs) = cond (inside c.box) (volume c.box) 0 + volume_of inside cs
