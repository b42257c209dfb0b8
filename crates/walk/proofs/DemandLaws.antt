-- DEMAND 3: of an accepted description, a box of whole ticks within the limits with spans of at least 1, a depth of 0 to 24, and either tie rule, the
-- bytes that the walk leaves say of the part what document 01 asks. Any rule is fair, and nothing else is asked of it. Assumes nothing.
use mathlib.Core.Path.{◌≡◌, refl, sym, ap, ◌∙◌, subst, subst⁻¹}
use mathlib.Core.Bool.{Bool, true, cond, ◌||◌}
use mathlib.Core.Logic.{◌⊎◌, inl, inr, ⊎_elim}
use mathlib.Core.List.{List, [], ◌∷◌}
use Prim.Native.Nat.{ℕ, ◌+◌, ◌*◌, ◌/◌, ◌≤◌, ◌<◌}
use native.Mathlib.Omega.{arith}
use native.Mathlib.Nat.{two-pow-succ, zero-add}
use lib.Dec.{ltb, nltb→le}
use lib.IntN.{ℤ}
use lib.ListN.{length}
use borrow.Author.Tests.{eq-eqb}
use Rattle.interval.specs.Interval.{Arithmetic}
use Rattle.limits.proofs.RefusalLaws.{none_last}
use Rattle.gyroid.specs.declared.Description.{Description}
use Rattle.gyroid.specs.declared.Gyroid.{Gyroid}
use Rattle.gyroid.specs.declared.State.{State}
use Rattle.gyroid.specs.declared.State.TheVariants.{Inside, Outside, Unsettled}
use Rattle.gyroid.specs.Fits.{Accepted}
use Rattle.gyroid.specs.Leaf.{leaf}
use Rattle.gyroid.specs.Residual.{state_number}
use Rattle.gyroid.specs.Settles.{Settles}
use Rattle.gyroid.proofs.EnclosureLaws.{state_settles}
use Rattle.tree.specs.declared.Axis.{Axis}
use Rattle.tree.specs.Box.{Box, Good, lows, highs, one_cube, volume, holds_cube, holders}
use Rattle.tree.specs.Tree.{Cell, leaves, Fair}
use Rattle.tree.specs.Cells.{All, Stopped}
use Rattle.tree.proofs.VolumeLaws.{volume_small}
use Rattle.tree.proofs.CountLaws.{length_cells, box_count_leaves, leaves_le, leaves_least, leaves_small, box_count_small}
use Rattle.tree.proofs.SolidLaws.{solid_le}
use Rattle.tree.proofs.CoverLaws.{cover}
use Rattle.tree.proofs.StoppedLaws.{stopped}
use Rattle.table.specs.declared.Head.{Head}
use Rattle.table.specs.Table.{Record, table_bytes}
use Rattle.table.specs.Read.{cells_in, evaluated_in, solid_in, records_in}
use Rattle.table.specs.Bounds.{HeadFits, Fits, AllFit}
use Rattle.table.specs.Told.{Told}
use Rattle.table.proofs.BoundLaws.{good_fits}
use Rattle.table.proofs.Written.{length_table}
use Rattle.table.proofs.ReadBack.{told}
use Rattle.sound.specs.Sound.{sound_of}
use Rattle.sound.proofs.FreshLaws.{told_sound}
use Rattle.layers.specs.Layers.{crossing}
use Rattle.walk.specs.declared.TieRule.{TieRule}
use Rattle.walk.specs.Walk.{cut_of, state_at, is_settled, settled, inside, cells_of, evaluated_of, solid_of, record_of, records_of, head_of, table_of}
use Rattle.walk.specs.Walk.{room_refusal, room_table}
use Rattle.walk.specs.Demand.{Every, Pairwise, record_boxes, AllBelowZero, AllAboveZero, Undecided, Demand}
use Rattle.walk.proofs.EndLaws.{lows_ticks, highs_ticks}
use Rattle.walk.proofs.TieLaws.{fair_of}
use Rattle.walk.proofs.SoundLaws.{sound_cells_lem, volumes_box, crossing_box}
use Rattle.walk.proofs.RecordLaws.{length_records, record_boxes_are, every, pairwise}

-- ---- a state by its number
number_inside : (s : State) → state_number s ≡ 1 → s ≡ Inside
number_inside Inside e = refl
number_inside Outside e = absurd (omega arith)
number_inside Unsettled e = absurd (omega arith)

number_outside : (s : State) → state_number s ≡ 2 → s ≡ Outside
number_outside Inside e = absurd (omega arith)
number_outside Outside e = refl
number_outside Unsettled e = absurd (omega arith)

number_unsettled : (s : State) → state_number s ≡ 3 → s ≡ Unsettled
number_unsettled Inside e = absurd (omega arith)
number_unsettled Outside e = absurd (omega arith)
number_unsettled Unsettled e = refl

number_other : (s : State) → (state_number s ≡ 3 → ⊥) → (state_number s ≡ 1) ⊎ (state_number s ≡ 2)
number_other Inside n = inl refl
number_other Outside n = inr refl
number_other Unsettled n = absurd (n refl)

number_below : (s : State) → state_number s < 256
number_below Inside = omega arith
number_below Outside = omega arith
number_below Unsettled = omega arith

-- a box that is not settled stops only as one tick cube
cube_stops : (s : State) (c : Bool) → s ≡ Unsettled → (is_settled s || c) ≡ true → c ≡ true
cube_stops s c e t = subst (λ (r : State). (is_settled r || c) ≡ true) e t

-- the room that 13 leaves
pub room_left : (ar : Arithmetic) (g : Gyroid) (axis : Box → Axis) (D : ℕ) (b : Box) (len : ℕ) → room_refusal ar g axis D b len ≡ 0
    → length (records_of ar g (cells_of ar g axis D b)) + 1 ≤ len / 32
unfolding room_refusal
room_left ar g axis D b len e =
    omega (
      arith,
      length_records ar g (cells_of ar g axis D b),
      nltb→le (len / 32) (length (cells_of ar g axis D b) + 1) (none_last (ltb (len / 32) (length (cells_of ar g axis D b) + 1)) 12 e),
    )

module _ (ar : Arithmetic) (d : Description) (accepted : Accepted d) (D : ℕ) (rule : TieRule) where
  abbrev axis : Box → Axis
  axis = cut_of rule d

  fair : Fair axis
  fair = fair_of rule d

  -- ---- of one cell of the tree
  module _ (c : Cell) (m : Stopped (settled ar (leaf ar d)) axis D c) where
    settles : Settles d (lows c.box) (highs c.box) (state_at ar (leaf ar d) c.box)
    unfolding state_at
    settles = state_settles ar d accepted (lows c.box) (highs c.box) (lows_ticks c.box m.good) (highs_ticks c.box m.good)

    below_zero : state_number (state_at ar (leaf ar d) c.box) ≡ 1 → AllBelowZero d c.box
    below_zero e = subst (Settles d (lows c.box) (highs c.box)) (number_inside (state_at ar (leaf ar d) c.box) e) settles

    above_zero : state_number (state_at ar (leaf ar d) c.box) ≡ 2 → AllAboveZero d c.box
    above_zero e = subst (Settles d (lows c.box) (highs c.box)) (number_outside (state_at ar (leaf ar d) c.box) e) settles

    undecided : state_number (state_at ar (leaf ar d) c.box) ≡ 3 → Undecided ar d D (record_of ar (leaf ar d) c)
    undecided e =
        let u = number_unsettled (state_at ar (leaf ar d) c.box) e in
        record { not_settled = u; ended = ⊎_elim (λ k. inl k) (λ s. inr (cube_stops (state_at ar (leaf ar d) c.box) (one_cube c.box) u s)) m.why }

    fits : D ≤ 24 → Fits (record_of ar (leaf ar d) c)
    fits shallow = good_fits (record_of ar (leaf ar d) c) (number_below (state_at ar (leaf ar d) c.box)) (omega (arith, m.depth_le)) m.good

  unsettled_number : (c : Cell) → Undecided ar d D (record_of ar (leaf ar d) c) → state_number (state_at ar (leaf ar d) c.box) ≡ 3
  unsettled_number c u = ap state_number u.not_settled

  -- ---- of the tree of a box
  module _ (shallow : D ≤ 24) (b : Box) (good : Good b) where
    abbrev cs : List Cell
    cs = cells_of ar (leaf ar d) axis D b

    abbrev head : Head
    head = head_of ar (leaf ar d) axis D b

    abbrev ms : List Record
    ms = records_of ar (leaf ar d) cs

    pub each : All (Stopped (settled ar (leaf ar d)) axis D) cs
    each = subst (λ (k : ℕ). All (Stopped (settled ar (leaf ar d)) axis k) cs) (zero-add D)
        (stopped (settled ar (leaf ar d)) axis fair D 0 b good)

    all_fit : (cs : List Cell) → All (Stopped (settled ar (leaf ar d)) axis D) cs → AllFit (records_of ar (leaf ar d) cs)
    unfolding records_of
    all_fit [] q = tt
    all_fit (c ∷ cs) q = (fits c q.0 shallow, all_fit cs q.1)

    cells_many : length cs ≡ leaves (settled ar (leaf ar d)) axis D b
    cells_many = length_cells (settled ar (leaf ar d)) axis D 0 b

    solid_most : solid_of ar (leaf ar d) axis D b ≤ volume b
    solid_most = solid_le (inside ar (leaf ar d)) (settled ar (leaf ar d)) axis fair D 0 b good

    pub head_fits : HeadFits head
    head_fits =
        let v = volume_small b good in
        record {
          first = omega arith;
          cells = omega (arith, cells_many, leaves_small (settled ar (leaf ar d)) axis D b shallow);
          evaluated = omega (arith, box_count_small (settled ar (leaf ar d)) axis D b shallow);
          solid = omega (arith, solid_most, v);
          «open» = omega (arith, v);
        }

    pub read : (len : ℕ) → Told (table_bytes len head ms) head ms
    read len = told len head ms head_fits (all_fit cs each) refl (sym (length_records ar (leaf ar d) cs))

    -- the tick cubes that a list of the tree's boxes holds
    covered : (x y z : ℤ) → holders x y z (record_boxes ms) ≡ cond (holds_cube x y z b) 1 0
    covered x y z = ap (holders x y z) (record_boxes_are ar (leaf ar d) cs) ∙ cover (settled ar (leaf ar d)) axis fair x y z D 0 b good

    -- ---- what a table says whose reading this is
    module _ (t : List ℕ) (room : 32 * (length ms + 1) ≤ length t) (r : Told t head ms) where
      holders_are : (x y z : ℤ) → holders x y z (record_boxes (records_in t)) ≡ cond (holds_cube x y z b) 1 0
      holders_are x y z = ap (λ (l : List Record). holders x y z (record_boxes l)) r.records_are ∙ covered x y z

      cells_read : cells_in t ≡ leaves (settled ar (leaf ar d)) axis D b
      cells_read = ap (λ (h : Head). h.cells) r.head_is ∙ cells_many

      evaluated_read : evaluated_in t ≡ evaluated_of ar (leaf ar d) axis D b
      evaluated_read = ap (λ (h : Head). h.evaluated) r.head_is

      solid_read : solid_in t ≡ solid_of ar (leaf ar d) axis D b
      solid_read = ap (λ (h : Head). h.solid) r.head_is

      cells_some : 1 ≤ length ms
      cells_some = omega (arith, length_records ar (leaf ar d) cs, cells_many, leaves_least (settled ar (leaf ar d)) axis D b)

      is_sound : sound_of t ≡ true
      is_sound = told_sound r refl (sym (length_records ar (leaf ar d) cs)) cells_some room (sound_cells_lem ar (leaf ar d) axis D shallow cs each)
          (omega (arith, volumes_box ar (leaf ar d) axis fair D b good, volume_small b good))

      says : Demand ar d b D rule t
      says = record {
        one_cell = λ x y z h. holders_are x y z ∙ rw h;
        no_cell = λ x y z h. holders_are x y z ∙ rw h;
        inside = subst⁻¹ (Every (λ m. m.state ≡ 1 → AllBelowZero d m.box)) r.records_are (every ar (leaf ar d) _ _ below_zero cs each);
        outside = subst⁻¹ (Every (λ m. m.state ≡ 2 → AllAboveZero d m.box)) r.records_are (every ar (leaf ar d) _ _ above_zero cs each);
        unsettled = subst⁻¹ (Every (λ m. (m.state ≡ 3 → Undecided ar d D m) × (Undecided ar d D m → m.state ≡ 3))) r.records_are
            (every ar (leaf ar d) _ _ (λ c m. (undecided c m, unsettled_number c)) cs each);
        walk_order = subst⁻¹ (λ (l : List Record). Pairwise (λ m c. (m.box ≡ c.box) × (m.depth ≡ c.depth)) l cs) r.records_are
            (pairwise ar (leaf ar d) _ _ (λ c m. (refl, refl)) cs each);
        marked = subst⁻¹ (Every (λ m. (m.state ≡ 3 → ⊥) → (m.state ≡ 1) ⊎ (m.state ≡ 2))) r.records_are
            (every ar (leaf ar d) _ _ (λ c m. number_other (state_at ar (leaf ar d) c.box)) cs each);
        zeros = r.zeros;
        evaluated = omega (arith, evaluated_read, cells_read, box_count_leaves (settled ar (leaf ar d)) axis D b);
        evaluated_most = omega (
          arith,
          evaluated_read,
          box_count_leaves (settled ar (leaf ar d)) axis D b,
          leaves_le (settled ar (leaf ar d)) axis D b,
          two-pow-succ D,
        );
        evaluated_tree = evaluated_read;
        first = ap (λ (h : Head). h.first) r.head_is;
        ends = r.ends cells_some;
        solid = solid_read;
        rest = omega (arith, solid_read, ap (λ (h : Head). h.«open») r.head_is, solid_most);
        sound = is_sound;
        layer_area = λ z. ap (crossing z) r.records_are ∙ crossing_box ar (leaf ar d) axis fair D b good z;
      }

    -- DEMAND 3 of what an accepted walk leaves
    pub demand : (len : ℕ) → room_refusal ar (leaf ar d) axis D b len ≡ 0 → {t : List ℕ} → t ≡ room_table ar (leaf ar d) axis D b len → Demand ar d b D rule t
    unfolding room_table table_of
    demand len room e =
        let fits : 32 * (length ms + 1) ≤ len = omega (arith, room_left ar (leaf ar d) axis D b len room) in
        let long = length_table len head ms fits in
        subst⁻¹ (Demand ar d b D rule) (e ∙ rw (eq-eqb _ 0 room)) (says _ (omega arith) (read len))
