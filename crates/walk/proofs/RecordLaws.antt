-- The records of the tree's cells, one by one. Assumes nothing.
use mathlib.Core.Path.{◌≡◌, refl, sym, ap, ◌∙◌}
use mathlib.Core.List.{List, [], ◌∷◌, ◌++◌}
use Prim.Native.Nat.{ℕ, suc, ◌-◌}
use lib.ListN.{length}
use Rattle.interval.specs.Interval.{Arithmetic}
use Rattle.gyroid.specs.declared.Gyroid.{Gyroid}
use Rattle.gyroid.specs.declared.State.{State}
use Rattle.gyroid.specs.Residual.{state_number}
use Rattle.grade.specs.InUse.{in_use}
use Rattle.tree.specs.declared.Axis.{Axis}
use Rattle.tree.specs.Box.{Box, lower, upper}
use Rattle.tree.specs.Tree.{Cell, cells, leaves, cell_boxes}
use Rattle.tree.proofs.CountLaws.{length_cells}
use Rattle.tree.proofs.CoverLaws.{cell_boxes_none, cell_boxes_more}
use Rattle.tree.specs.Cells.{All}
use Rattle.table.specs.Table.{Record}
use Rattle.walk.specs.Walk
use Rattle.walk.specs.FunctionsInUse.{settled, records_of}
use Rattle.walk.specs.Demand.{Every, Pairwise, record_boxes}
use Rattle.walk.proofs.StepLaws.{AtCell, AtHalves}

module _ (ar : Arithmetic) (g : Gyroid) where
  pub length_records : (cs : List Cell) → length (Walk.records_of ar g cs) ≡ length cs
  unfolding Walk.records_of
  length_records [] = refl
  length_records (c ∷ cs) = ap suc (length_records cs)

  pub records_append : (cs ds : List Cell) → Walk.records_of ar g (cs ++ ds) ≡ Walk.records_of ar g cs ++ Walk.records_of ar g ds
  unfolding Walk.records_of
  records_append [] ds = refl
  records_append (c ∷ cs) ds = ap (λ (l : List Record). Walk.record_of ar g c ∷ l) (records_append cs ds)

  pub records_one : (c : Cell) → Walk.records_of ar g (c ∷ []) ≡ Walk.record_of ar g c ∷ []
  unfolding Walk.records_of
  records_one c = refl

  pub record_boxes_are : (cs : List Cell) → record_boxes (Walk.records_of ar g cs) ≡ cell_boxes cs
  unfolding Walk.records_of record_boxes
  record_boxes_are [] = sym cell_boxes_none
  record_boxes_are (c ∷ cs) = ap (λ (l : List Box). c.box ∷ l) (record_boxes_are cs) ∙ sym (cell_boxes_more c cs)

  -- what follows for a record from what every cell of the tree has
  pub every : (P : Record → Type 0) (Q : Cell → Type 0) → ((c : Cell) → Q c → P (Walk.record_of ar g c)) → (cs : List Cell) → All Q cs
      → Every P (Walk.records_of ar g cs)
  unfolding Walk.records_of
  every P Q f [] q = tt
  every P Q f (c ∷ cs) q = (f c q.0, every P Q f cs q.1)

  pub pairwise : (P : Record → Cell → Type 0) (Q : Cell → Type 0) → ((c : Cell) → Q c → P (Walk.record_of ar g c) c) → (cs : List Cell) → All Q cs
      → Pairwise P (Walk.records_of ar g cs) cs
  unfolding Walk.records_of
  pairwise P Q f [] q = tt
  pairwise P Q f (c ∷ cs) q = (f c q.0, pairwise P Q f cs q.1)

  pub records_leaves : (axis : Box → Axis) (d k : ℕ) (b : Box)
      → length (Walk.records_of ar g (cells (Walk.settled ar g) axis d k b)) ≡ leaves (Walk.settled ar g) axis d b
  records_leaves axis d k b = length_records (cells (Walk.settled ar g) axis d k b) ∙ length_cells (Walk.settled ar g) axis d k b

-- in use: the records of a box that is a cell, and of one that is halved
module _ (g : Gyroid) (axis : Box → Axis) where
  pub records_cell : (d k : ℕ) (b : Box) (s : State) {x : ℕ} → AtCell g axis d b s → x ≡ state_number s
      → records_of g (cells (settled g) axis d k b) ≡ record { state = x; depth = k; box = b } ∷ []
  records_cell d k b s at e =
      ap (records_of g) (at.tree.cells1 k) ∙ records_one in_use g (record { box = b; depth = k })
      ∙ (λ i. record { state = (ap state_number at.state ∙ sym e) i; depth = k; box = b } ∷ [])

  pub records_halves : (d k j : ℕ) (b l h : Box) (a : Axis) → AtHalves g axis d b a → j ≡ suc k → l ≡ lower a b → h ≡ upper a b
      → records_of g (cells (settled g) axis d k b)
      ≡ records_of g (cells (settled g) axis (d - 1) j l) ++ records_of g (cells (settled g) axis (d - 1) j h)
  records_halves d k j b l h a at s e f =
      ap (records_of g) (at.cells2 k e f)
      ∙ records_append in_use g (cells (settled g) axis (d - 1) (suc k) l) (cells (settled g) axis (d - 1) (suc k) h)
      ∙ ap (λ (i : ℕ). records_of g (cells (settled g) axis (d - 1) i l) ++ records_of g (cells (settled g) axis (d - 1) i h)) (sym s)
