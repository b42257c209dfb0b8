-- More depth keeps the tree: each cell is replaced by the cells of its own tree, and one that stops by itself. Assumes nothing.
use mathlib.Core.Path.{◌≡◌, refl, sym, ap, ◌∙◌}
use mathlib.Core.Bool.{Bool, true}
use mathlib.Core.List.{List, [], ◌∷◌, ◌++◌, append_assoc, append-nil}
use Prim.Native.Nat.{ℕ, suc, ◌+◌}
use native.Mathlib.Nat.{add-zero, add-suc}
use Rattle.tree.specs.declared.Axis.{Axis}
use Rattle.tree.specs.Box.{Box, Good}
use Rattle.tree.specs.Tree.{Cell, stops, cells, Fair}
use Rattle.tree.specs.Cells.{grown}
use Rattle.tree.proofs.StepLaws.{cell_stops}
use Rattle.tree.proofs.TreeInduction.{tree_ind}

grown_append : (f : Cell → List Cell) (cs ds : List Cell) → grown f (cs ++ ds) ≡ grown f cs ++ grown f ds
unfolding grown
grown_append f [] ds = refl
grown_append f (c ∷ cs) ds = ap (λ (l : List Cell). f c ++ l) (grown_append f cs ds) ∙ sym (append_assoc (f c) (grown f cs) (grown f ds))

grown_one : (f : Cell → List Cell) (c : Cell) → grown f (c ∷ []) ≡ f c
unfolding grown
grown_one f c = append-nil (f c)

-- e is the depth added
module _ (settled : Box → Bool) (axis : Box → Axis) (e : ℕ) where
  abbrev pub regrown : Cell → List Cell
  regrown c = cells settled axis e c.depth c.box

  pub halted : (c : Cell) → stops settled axis c.box ≡ true → regrown c ≡ c ∷ []
  halted c h = (cell_stops settled axis e c.box h).cells1 c.depth

  pub deeper : Fair axis → (d k : ℕ) (b : Box) → Good b → cells settled axis (e + d) k b ≡ grown regrown (cells settled axis d k b)
  unfolding cells
  deeper fair =
      tree_ind settled axis fair (λ d k b cs. cells settled axis (e + d) k b ≡ grown regrown cs)
      (λ k b g. ap (λ (n : ℕ). cells settled axis n k b) (add-zero e) ∙ sym (grown_one regrown (record { box = b; depth = k })))
      (λ d k b g h. (cell_stops settled axis (e + suc d) b h).cells1 k
      ∙ sym (grown_one regrown (record { box = b; depth = k }) ∙ (cell_stops settled axis e b h).cells1 k))
      (λ d k b cs ds g h p q. ap (λ (n : ℕ). cells settled axis n k b) (add-suc e d) ∙ rw h ((λ i. p i ++ q i) ∙ sym (grown_append regrown cs ds)))
