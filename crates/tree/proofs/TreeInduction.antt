-- Induction over the tree: what holds where the depth is used up and where a box stops, and passes from two halves to their box, holds of every
-- good box. Assumes nothing.
use mathlib.Core.Path.{◌≡◌, refl}
use mathlib.Core.Bool.{Bool, true, false, cond}
use mathlib.Core.List.{List, [], ◌∷◌, ◌++◌}
use Prim.Native.Nat.{ℕ, zero, suc}
use Rattle.tree.specs.declared.Axis.{Axis}
use Rattle.tree.specs.Box.{Box, Good}
use Rattle.tree.specs.Tree.{Cell, stops, lower_half, upper_half, cells, Fair}
use Rattle.tree.proofs.HalfLaws.{good_lower, good_upper}
use Rattle.tree.proofs.StepLaws.{wide}

-- P of the depth left, the box's own depth, the box, and its cells
module _ (settled : Box → Bool) (axis : Box → Axis) (fair : Fair axis) (P : ℕ → ℕ → Box → List Cell → Type 0)
    (used-up : (k : ℕ) (b : Box) → Good b → P 0 k b (record { box = b; depth = k } ∷ []))
    (stopped : (d k : ℕ) (b : Box) → Good b → stops settled axis b ≡ true → P (suc d) k b (record { box = b; depth = k } ∷ []))
    (joined : (d k : ℕ) (b : Box) (cs ds : List Cell) → Good b → stops settled axis b ≡ false → P d (suc k) (lower_half settled axis b) cs
    → P d (suc k) (upper_half settled axis b) ds → P (suc d) k b (cs ++ ds)) where
  pub tree_ind : (d k : ℕ) (b : Box) → Good b → P d k b (cells settled axis d k b)
  unfolding cells
  tree_ind zero k b g = used-up k b g
  tree_ind (suc d) k b g = by_stop (stops settled axis b) refl (tree_ind d (suc k) (lower_half settled axis b)) (tree_ind d (suc k) (upper_half settled axis b))
    where
      by_stop : (t : Bool) → stops settled axis b ≡ t
          → (Good (lower_half settled axis b) → P d (suc k) (lower_half settled axis b) (cells settled axis d (suc k) (lower_half settled axis b)))
          → (Good (upper_half settled axis b) → P d (suc k) (upper_half settled axis b) (cells settled axis d (suc k) (upper_half settled axis b)))
          → P (suc d) k b (cond t (record { box = b; depth = k } ∷ [])
          (cells settled axis d (suc k) (lower_half settled axis b) ++ cells settled axis d (suc k) (upper_half settled axis b)))
      by_stop true e l u = stopped d k b g e
      by_stop false e l u =
          let w = wide settled axis fair b e g in
          joined d k b _ _ g e (l (good_lower (axis b) b g w)) (u (good_upper (axis b) b g w))
