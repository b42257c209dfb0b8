-- What a walk has tested before it walks, and what it returns and leaves. Assumes nothing.
use mathlib.Core.Path.{◌≡◌, refl, sym, ap, ◌∙◌, subst, subst⁻¹}
use mathlib.Core.Bool.{not, cond, ◌&&◌}
use mathlib.Core.List.{List}
use Prim.Native.Nat.{ℕ, ◌+◌, ◌-◌, ◌*◌, ◌/◌, ◌≤◌, ◌<◌}
use native.Mathlib.Omega.{arith}
use native.Mathlib.Nat.{sub_self}
use lib.Dec.{T, eqb, leb→le}
use lib.IntN.{ℤ, pos, negsuc, nat_abs}
use lib.ListN.{length, replicate}
use lib.Signed.{◌<ℤ◌, le_z, lt_z, non_neg, le_z_yes, lt_z_yes, yes_non_neg}
use lib.Seq.{sets}
use mir.Syntax.{w64}
use mir.Val.{to_z, of_z, Fits, SFits}
use borrow.Author.Tests.{lt-ltb, le-ltb, eq-eqb}
use Rattle.std.specs.Prelude.{Result, IsErr, IsErrAnd}
use Rattle.exact.specs.Within.{Within}
use Rattle.exact.proofs.Signed.{back, heard}
use Rattle.limits.specs.Ticks.{at, ticks}
use Rattle.limits.specs.declared.refusals.Refusal.{Refusal}
use Rattle.limits.specs.Refusals.{refused, ◌or_else◌, number, number_of}
use Rattle.limits.proofs.TickLaws.{both}
use Rattle.grade.proofs.EntryLaws.{ticks_within}
use Rattle.limits.proofs.RefusalLaws.{none_first, none_last, kept, neither, stopped, passed_on, refused_said}
use Rattle.grade.specs.InUse.{in_use}
use Rattle.gyroid.specs.declared.Description.{Description}
use Rattle.gyroid.specs.declared.Gyroid.{Gyroid}
use Rattle.gyroid.specs.Refusals.{refusal}
use Rattle.gyroid.specs.InUse.{leaf}
use Rattle.tree.specs.declared.Axis.{Axis}
use Rattle.tree.specs.Box.{Box, Good, box_from, box_of, cut, low, high}
use Rattle.tree.specs.InTicks.{InTicks}
use Rattle.tree.specs.Tree.{leaves, cells}
use Rattle.tree.proofs.HalfLaws.{by_axis}
use Rattle.tree.proofs.TickLaws.{ticks_good}
use Rattle.tree.proofs.CountLaws.{length_cells}
use Rattle.table.specs.declared.Head.{Head}
use Rattle.table.specs.Table.{Record, head_bytes, table_bytes}
use Rattle.table.specs.Placed.{placed}
use Rattle.table.proofs.PlacedLaws.{placed_cells}
use Rattle.table.proofs.Written.{written}
use Rattle.walk.specs.declared.Counted.{Counted}
use Rattle.walk.specs.declared.TieRule.{TieRule}
use Rattle.walk.specs.Walk
use Rattle.walk.specs.declared.entered.Entered.{Entered}
use Rattle.walk.specs.Entered.{Enters}
use Rattle.walk.specs.Walk.{cut_of, spans, depths, entry_refusal}
use Rattle.walk.specs.InUse.{room_refusal, room_table, walk_number, walk_table}
use Rattle.walk.specs.FunctionsInUse.{settled, cells_of, records_of}
use Rattle.walk.specs.Counted.{head_with}
use Rattle.walk.proofs.RecordLaws.{records_leaves}
use Rattle.walk.proofs.CountedLaws.{counted_cells, counted_head}
use Rattle.walk.proofs.FilledLaws.{HasRoom}

-- ---- what the refusals before 13 leave
pub record Passes (n : ℕ) (lo hi : List ℤ) (D : ℤ) : Type 0 where
  pub described : n ≡ 0
  pub box : InTicks (box_from lo hi)
  pub good : Good (box_from lo hi)
  pub depth_sign : T (non_neg D)
  pub depth_most : nat_abs D ≤ 24

pub entered : (n : ℕ) (lo hi : List ℤ) (D : ℤ) → entry_refusal n lo hi D ≡ 0 → Passes n lo hi D
unfolding entry_refusal
entered n lo hi D e =
    let (a, e1) = none_first (not (ticks lo && ticks hi)) 0 (n or_else refused (not (spans lo hi)) 11 or_else refused (not (depths D)) 12) e in
    let (z, e2) = neither n (refused (not (spans lo hi)) 11 or_else refused (not (depths D)) 12) e1 in
    let (s, e3) = none_first (not (spans lo hi)) 10 (refused (not (depths D)) 12) e2 in
    let (tl, th) = both (ticks lo) (ticks hi) (kept (ticks lo && ticks hi) a) in
    let (sxy, sz) = both (lt_z (at lo 0) (at hi 0) && lt_z (at lo 1) (at hi 1)) (lt_z (at lo 2) (at hi 2)) (kept (spans lo hi) s) in
    let (sx, sy) = both (lt_z (at lo 0) (at hi 0)) (lt_z (at lo 1) (at hi 1)) sxy in
    let (dl, dh) = both (le_z (pos 0) D) (le_z D (pos 24)) (kept (depths D) (none_last (not (depths D)) 11 e3)) in
    let l = ticks_within lo tl in
    let h = ticks_within hi th in
    let box : InTicks (box_from lo hi) = record {
      lows = by_axis (λ a. Within 1048576 (low a (box_from lo hi))) l.x l.y l.z;
      highs = by_axis
          (λ a. Within 1048576 (high a (box_from lo hi))) h.x h.y h.z;
    } in
    let sign : T (non_neg D) = yes_non_neg {z = D} (le_z_yes {a = pos 0} {b = D} dl) in
    record {
      described = z;
      box = box;
      good = ticks_good (box_from lo hi) box
          (by_axis (λ a. low a (box_from lo hi) <ℤ high a (box_from lo hi)) (lt_z_yes {a = at lo 0} {b = at hi 0} sx) (lt_z_yes {a = at lo 1} {b = at hi 1} sy)
          (lt_z_yes {a = at lo 2} {b = at hi 2} sz));
      depth_sign = sign;
      depth_most = most D sign dh;
    }
  where
    most : (D : ℤ) → T (non_neg D) → T (le_z D (pos 24)) → nat_abs D ≤ 24
    most (pos n) s t = leb→le n 24 t
    most (negsuc n) s t = absurd s

-- ---- behind them, of a table t: the first cell goes to slot 1, the others to the slots from 2 on
module _ (g : Gyroid) (axis : Box → Axis) (D : ℕ) (b : Box) (t : List ℕ) where
  -- the cells outgrow the table
  pub room_refused : {z : List ℕ} → z ≡ replicate (length t) 0 → length t / 32 + 1 < 2 + leaves (settled g) axis D b
      → (13 ≡ room_refusal g axis D b (length t)) × (z ≡ room_table g axis D b (length t))
  unfolding Walk.room_refusal Walk.room_table
  room_refused ez h =
      let e = lt-ltb (length t / 32) (length (cells_of g axis D b) + 1) (omega (arith, length_cells (settled g) axis D 0 b)) in
      (rw e, rw e ez)

  -- the writer's cells from the root on, whose depth is 0
  pub root_placed : {x : Box} {m : List ℕ} → m ≡ placed t 1 2 0 (records_of g (cells (settled g) axis D (D - D) x)) → x ≡ b
      → m ≡ placed t 1 2 0 (records_of g (cells_of g axis D b))
  root_placed e f = e ∙ (λ i. placed t 1 2 0 (records_of g (cells (settled g) axis D (sub_self D i) (f i))))

  -- the table holds them
  pub room_done : {c : Counted} {h : Head} {m z r : List ℕ} → HasRoom g axis D b 2 (length t / 32) c → m ≡ placed t 1 2 0 (records_of g (cells_of g axis D b))
      → z ≡ sets m (32 * (c.cells + 1)) (replicate (length m - 32 * (c.cells + 1)) 0) → h ≡ head_with c b → r ≡ sets z 0 (head_bytes h)
      → (0 ≡ room_refusal g axis D b (length t)) × (r ≡ room_table g axis D b (length t))
  unfolding Walk.room_refusal Walk.room_table Walk.table_of
  room_done {c} {h} room em ez eh er =
      let ms : List Record = records_of g (cells_of g axis D b) in
      let n = counted_cells g axis D b room.counted in
      let many = records_leaves in_use g axis D 0 b in
      let fits = room.fits in
      let e = le-ltb (length t / 32) (length (cells_of g axis D b) + 1) (omega (arith, length_cells (settled g) axis D 0 b)) in
      let w = written c.cells h ms t (em ∙ placed_cells t c.cells 1 ms (omega (arith, n, many))) ez er (many ∙ sym n) (omega (arith, n)) in
      (rw e, rw e (w ∙ ap (λ (x : Head). table_bytes (length t) x ms) (eh ∙ counted_head g axis D b room.counted)))

-- ---- what the call returns and leaves, by the refusals before 13
module _ (d : Description) (lo hi : List ℤ) (D : ℤ) (rule : TieRule) (t : List ℕ) where
  -- where one of them, x, refuses
  pub walk_refused : (r : Result (Unit {0}) Refusal) (x : Refusal) → IsErr r × IsErrAnd r (λ e. e ≡ x) → number x ≡ entry_refusal (refusal d) lo hi D
      → (number_of r ≡ walk_number d lo hi D rule (length t)) × (t ≡ walk_table d lo hi D rule t)
  unfolding Walk.walk_number Walk.walk_table
  walk_refused r x h e = (stopped r x _ h e, refused_said (λ _. t) (λ _. t) r x _ (λ _. refl) h e)

  -- then one does
  pub refused_one : (r : Result (Unit {0}) Refusal) (x : Refusal) → IsErr r × IsErrAnd r (λ e. e ≡ x) → number x ≡ entry_refusal (refusal d) lo hi D
      → entry_refusal (refusal d) lo hi D ≡ 0 → ⊥
  refused_one r x h e none = one (refused_said (λ _. 1) (λ _. 1) r x 0 (λ _. refl) h e ∙ ap (λ (n : ℕ). cond (eqb n 0) 0 1) none)
    where
      one : ◌≡◌ {A = ℕ} 1 0 → ⊥
      one z = omega arith

  -- where none does, and the call is held as e
  module _ (e : Entered) (enters : Enters d lo hi D rule e) (none : 0 ≡ entry_refusal (refusal d) lo hi D) where
    pub ran_number : {n : ℕ} → n ≡ room_refusal e.leaf (cut e.ties) e.depth (box_of e.b) (length t)
        → n ≡ room_refusal (leaf d) (cut_of rule d) (nat_abs D) (box_from lo hi) (length t)
    ran_number h = h ∙ (λ i. room_refusal (enters.leaf_is i) (enters.axis_is i) (enters.depth_is i) (enters.box_is i) (length t))

    pub ran_table : {u : List ℕ} → u ≡ room_table e.leaf (cut e.ties) e.depth (box_of e.b) (length t)
        → u ≡ room_table (leaf d) (cut_of rule d) (nat_abs D) (box_from lo hi) (length t)
    ran_table h = h ∙ (λ i. room_table (enters.leaf_is i) (enters.axis_is i) (enters.depth_is i) (enters.box_is i) (length t))

    pub walk_ran : {n : ℕ} {u : List ℕ} → n ≡ room_refusal e.leaf (cut e.ties) e.depth (box_of e.b) (length t)
        → u ≡ room_table e.leaf (cut e.ties) e.depth (box_of e.b) (length t)
        → (n ≡ walk_number d lo hi D rule (length t)) × (u ≡ walk_table d lo hi D rule t)
    unfolding Walk.walk_number Walk.walk_table
    walk_ran p q = (ran_number p ∙ sym (passed_on none), rw (eq-eqb _ 0 (sym none)) (ran_table q))

-- ---- as the code has them: a depth D as the machine's
module _ (d : Description) (lo hi : List ℤ) {D : ℤ} (f : SFits w64 D) where
  -- the number of the refusals before 13, and what is held of the call
  pub entry_number : {n : ℕ} → n ≡ entry_refusal (refusal d) lo hi (to_z w64 (of_z w64 D)) → n ≡ entry_refusal (refusal d) lo hi D
  entry_number e = heard (entry_refusal (refusal d) lo hi) {x = D} f e

  pub entered_by : (rule : TieRule) (e : Entered) → Enters d lo hi (to_z w64 (of_z w64 D)) rule e → Enters d lo hi D rule e
  entered_by rule e h = subst (λ (z : ℤ). Enters d lo hi z rule e) (back {x = D} f) h

  -- none of them refuses
  pub passed : 0 ≡ entry_refusal (refusal d) lo hi (to_z w64 (of_z w64 D)) → Passes (refusal d) lo hi D
  passed e = entered (refusal d) lo hi D (sym (entry_number e))

  module _ (t : Passes (refusal d) lo hi D) where
    -- the depth is one of the machine's numbers without a sign, and at most 24
    pub depth_cast : T (non_neg (to_z w64 (of_z w64 D))) × Fits w64 (nat_abs (to_z w64 (of_z w64 D)))
    depth_cast =
        subst⁻¹ (λ (z : ℤ). T (non_neg z) × Fits w64 (nat_abs z)) (back {x = D} f) (t.depth_sign, record { fits = omega (arith, t.depth_most) })

    pub depth_small : nat_abs (to_z w64 (of_z w64 D)) ≤ 24
    depth_small = subst⁻¹ (λ (z : ℤ). nat_abs z ≤ 24) (back {x = D} f) t.depth_most
