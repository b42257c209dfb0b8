-- TWO LEAVES THAT GIVE EVERY BOX THE SAME STATE ARE WALKED ALIKE: a walk takes nothing else of its leaf. Assumes nothing.
use mathlib.Core.Path.{◌≡◌, refl, ◌∙◌}
use mathlib.Core.Bool.{cond}
use mathlib.Core.List.{List, [], ◌∷◌}
use Prim.Native.Nat.{ℕ, ◌+◌, ◌-◌, ◌/◌}
use lib.Dec.{eqb, ltb}
use lib.ListN.{length, replicate}
use Rattle.interval.specs.declared.Interval.{Interval}
use Rattle.limits.specs.Refusals.{refused}
use Rattle.gyroid.specs.declared.Gyroid.{Gyroid}
use Rattle.gyroid.specs.declared.State.{State}
use Rattle.gyroid.specs.Residual.{state_number}
use Rattle.gyroid.specs.InUse.{box_state}
use Rattle.gyroid.specs.Admitted.{tick_box}
use Rattle.tree.specs.declared.Axis.{Axis}
use Rattle.tree.specs.Box.{Box, lows, highs, volume}
use Rattle.tree.specs.Tree.{Cell, cells, box_count, volume_of}
use Rattle.table.specs.Table.{Record, table_bytes}
use Rattle.walk.specs.Walk
use Rattle.walk.specs.Walk.{is_settled, is_inside}
use Rattle.walk.specs.InUse.{room_refusal, room_table}
use Rattle.walk.specs.FunctionsInUse.{state_at, cells_of, records_of}

module _ (g h : Gyroid) (same : (w : List Interval) → box_state g w ≡ box_state h w) where
  states : state_at g ≡ state_at h
  unfolding Walk.state_at
  states = λ i b. same (tick_box (lows b) (highs b)) i

  records : (cs : List Cell) → records_of g cs ≡ records_of h cs
  unfolding Walk.records_of
  records [] = refl
  records (c ∷ cs) = λ i. record { state = state_number (states i c.box); depth = c.depth; box = c.box } ∷ records cs i

  module _ (axis : Box → Axis) (D : ℕ) (b : Box) (len : ℕ) where
    -- the cells by a state of boxes, and the tick cubes of the inside ones
    abbrev cells_by : (Box → State) → List Cell
    cells_by s = cells (λ c. is_settled (s c)) axis D 0 b

    abbrev solid_by : (Box → State) → ℕ
    solid_by s = volume_of (λ c. is_inside (s c)) (cells_by s)

    pub same_refusal : room_refusal g axis D b len ≡ room_refusal h axis D b len
    unfolding Walk.room_refusal
    same_refusal = λ i. refused (ltb (len / 32) (length (cells_by (states i)) + 1)) 13

    abbrev table_by : (Box → State) → List Record → List ℕ
    table_by s rs = table_bytes len (record {
      first = 1;
      cells = length (cells_by s);
      evaluated = box_count (λ c. is_settled (s c)) axis D b;
      solid = solid_by s;
      «open» = volume b - solid_by s;
    }) rs

    pub same_table : room_table g axis D b len ≡ room_table h axis D b len
    unfolding Walk.room_table Walk.table_of
    same_table =
        (λ i. cond (eqb (same_refusal i) 0) (table_by (states i) (records_of g (cells_by (states i)))) (replicate len 0))
        ∙ (λ i. cond (eqb (room_refusal h axis D b len) 0) (table_by (state_at h) (records (cells_of h axis D b) i)) (replicate len 0))
