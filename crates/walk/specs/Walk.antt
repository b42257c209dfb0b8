-- THE WALK: document 01's "The walk (added)" and the walk's row of its table of refusals, their words in quotes, and document 02's tie rule (L6):
-- what the call returns and what it leaves in the table, for any input, under either rule and either arithmetic. Definitions only; assumes nothing.
use Rattle.std.specs.Prelude.{Bool, true, false, cond, not, ◌&&◌, List, [], ◌∷◌, ℕ, ◌+◌, ◌-◌, ◌/◌, eqb, ltb, ℤ, pos, nat_abs, length, replicate}
use Rattle.std.specs.Prelude.{Option, Some, None}
use Rattle.std.specs.Int.Signed.{le_z, lt_z}
use Rattle.interval.specs.Interval.{Arithmetic}
use Rattle.limits.specs.Ticks.{at, ticks}
use Rattle.limits.specs.Refusals.{refused, ◌or_else◌}
use Rattle.grade.specs.Exact.{compiled}
use Rattle.grade.specs.Certified.{def_axis}
use Rattle.gyroid.specs.declared.Description.{Description}
use Rattle.gyroid.specs.declared.Gyroid.{Gyroid}
use Rattle.gyroid.specs.declared.State.{State}
use Rattle.gyroid.specs.declared.State.TheVariants.{Inside, Outside, Unsettled}
use Rattle.gyroid.specs.Refusals.{refusal}
use Rattle.gyroid.specs.Leaf.{leaf}
use Rattle.gyroid.specs.Residual.{box_state, state_number}
use Rattle.gyroid.specs.Admitted.{tick_box}
use Rattle.tree.specs.declared.Axis.{Axis}
use Rattle.tree.specs.declared.Axis.TheVariants.{X, Y, Z}
use Rattle.tree.specs.Box.{Box, box_from, lows, highs, longest, cut, volume}
use Rattle.tree.specs.Tree as tree
use Rattle.tree.specs.Tree.{Cell, volume_of}
use Rattle.table.specs.declared.Head.{Head}
use Rattle.table.specs.Table.{Record, table_bytes}
use Rattle.walk.specs.declared.TieRule.{TieRule}
use Rattle.walk.specs.declared.TieRule.TheVariants.{GradeAxis, LowestAxis}

-- ---- the axis that a box is halved on: "Where spans tie, the default is now the axis of a level of kind 1 with unequal ends if it is among them,
-- otherwise the lowest", and "a caller may name the lowest-axis rule"
abbrev pub axis_at : ℕ → Axis
axis_at i = cond (eqb i 0) X (cond (eqb i 1) Y Z)

abbrev pub cut_by : TieRule → Option ℕ → Box → Axis
cut_by GradeAxis (Some i) = cut (axis_at i)
cut_by GradeAxis None = longest
cut_by LowestAxis a = longest

-- a level of kind 1 with unequal ends, compiled, has an axis, and no other level has
unfoldable pub cut_of : TieRule → Description → Box → Axis
cut_of rule d = cut_by rule (def_axis (compiled d.level))

-- "A box is settled when the `box_state` of demand 2, over its ends, gives inside or outside"
abbrev pub is_settled : State → Bool
is_settled Inside = true
is_settled Outside = true
is_settled Unsettled = false

abbrev pub is_inside : State → Bool
is_inside Inside = true
is_inside Outside = false
is_inside Unsettled = false

module _ (ar : Arithmetic) where
  -- "Evaluate the box, its ends n/1024 exactly."
  unfoldable pub state_at : Gyroid → Box → State
  state_at g b = box_state ar g (tick_box (lows b) (highs b))

  abbrev pub settled : Gyroid → Box → Bool
  settled g b = is_settled (state_at g b)

  abbrev pub inside : Gyroid → Box → Bool
  inside g b = is_inside (state_at g b)

  -- ---- the tree of a box to the depth D: "The root has depth 0."
  abbrev pub cells_of : Gyroid → (Box → Axis) → ℕ → Box → List Cell
  cells_of g axis D b = tree.cells (settled g) axis D 0 b

  -- "Evaluated is the number of boxes in the tree"
  abbrev pub evaluated_of : Gyroid → (Box → Axis) → ℕ → Box → ℕ
  evaluated_of g axis D b = tree.box_count (settled g) axis D b

  -- "Solid volume is the tick cubes of inside cells; open volume is the rest of the box."
  abbrev pub solid_of : Gyroid → (Box → Axis) → ℕ → Box → ℕ
  solid_of g axis D b = volume_of (inside g) (cells_of g axis D b)

  abbrev pub open_of : Gyroid → (Box → Axis) → ℕ → Box → ℕ
  open_of g axis D b = volume b - solid_of g axis D b

  -- the cells' records
  abbrev pub record_of : Gyroid → Cell → Record
  record_of g c = record { state = state_number (state_at g c.box); depth = c.depth; box = c.box }

  unfoldable pub records_of : Gyroid → List Cell → List Record
  records_of g [] = []
  records_of g (c ∷ cs) = record_of g c ∷ records_of g cs

  -- slot 0: "first cell (u32, 1), cells (u32), evaluated (u32), solid volume (u64), open volume (u64)"
  abbrev pub head_of : Gyroid → (Box → Axis) → ℕ → Box → Head
  head_of g axis D b = record {
    first = 1;
    cells = length (cells_of g axis D b);
    evaluated = evaluated_of g axis D b;
    solid = solid_of g axis D b;
    «open» = open_of g axis D b;
  }

  unfoldable pub table_of : Gyroid → (Box → Axis) → ℕ → Box → ℕ → List ℕ
  table_of g axis D b len = table_bytes len (head_of g axis D b) (records_of g (cells_of g axis D b))

-- ---- the refusals: "description and whole-number box" is one row; then the description's; then the walk's, "11: a span below 1;
-- 12: depth below 0 or above 24; 13: cells + 1 exceeds length div 32"
abbrev pub spans : List ℤ → List ℤ → Bool
spans lo hi = lt_z (at lo 0) (at hi 0) && lt_z (at lo 1) (at hi 1) && lt_z (at lo 2) (at hi 2)

abbrev pub depths : ℤ → Bool
depths D = le_z (pos 0) D && le_z D (pos 24)

-- of a description that the number n refuses
unfoldable pub entry_refusal : ℕ → List ℤ → List ℤ → ℤ → ℕ
entry_refusal n lo hi D =
    refused (not (ticks lo && ticks hi)) 1 or_else
    n or_else
    refused (not (spans lo hi)) 11 or_else
    refused (not (depths D)) 12

module _ (ar : Arithmetic) where
  unfoldable pub room_refusal : Gyroid → (Box → Axis) → ℕ → Box → ℕ → ℕ
  room_refusal g axis D b len = refused (ltb (len / 32) (length (cells_of ar g axis D b) + 1)) 13

  -- the table behind the other refusals: "13 leaves every byte zero"
  unfoldable pub room_table : Gyroid → (Box → Axis) → ℕ → Box → ℕ → List ℕ
  room_table g axis D b len = cond (eqb (room_refusal g axis D b len) 0) (table_of ar g axis D b len) (replicate len 0)

  -- what the call returns, 0 where it walks: of a table of `len` bytes
  unfoldable pub walk_number : Description → List ℤ → List ℤ → ℤ → TieRule → ℕ → ℕ
  walk_number d lo hi D rule len =
      entry_refusal (refusal d) lo hi D or_else room_refusal (leaf ar d) (cut_of rule d) (nat_abs D) (box_from lo hi) len

  -- what it leaves: "All but 13 leave the table unchanged"
  unfoldable pub walk_table : Description → List ℤ → List ℤ → ℤ → TieRule → List ℕ → List ℕ
  walk_table d lo hi D rule t =
      cond (eqb (entry_refusal (refusal d) lo hi D) 0) (room_table (leaf ar d) (cut_of rule d) (nat_abs D) (box_from lo hi) (length t)) t
