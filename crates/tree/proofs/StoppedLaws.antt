-- Every cell is a good box no deeper than the limit, and it isn't halved because it is at the limit, settled, or one tick cube. Assumes nothing.
use mathlib.Core.Path.{◌≡◌, subst}
use mathlib.Core.Bool.{Bool}
use mathlib.Core.List.{List, [], ◌∷◌, ◌++◌}
use mathlib.Core.Logic.{inl, inr}
use Prim.Native.Nat.{ℕ, suc, ◌+◌}
use native.Mathlib.Omega.{arith}
use Rattle.tree.specs.declared.Axis.{Axis}
use Rattle.tree.specs.Box.{Box, Good}
use Rattle.tree.specs.Tree.{Cell, cells, Fair}
use Rattle.tree.specs.Cells.{All, Stopped}
use Rattle.tree.proofs.TreeInduction.{tree_ind}

pub all_append : (P : Cell → Type 0) (cs ds : List Cell) → All P cs → All P ds → All P (cs ++ ds)
all_append P [] ds p q = q
all_append P (c ∷ cs) ds p q = (p.0, all_append P cs ds p.1 q)

pub stopped : (settled : Box → Bool) (axis : Box → Axis) → Fair axis → (d k : ℕ) (b : Box) → Good b
    → All (Stopped settled axis (k + d)) (cells settled axis d k b)
stopped settled axis fair =
    tree_ind settled axis fair (λ d k b cs. All (Stopped settled axis (k + d)) cs)
    (λ k b g. (record { good = g; depth_le = omega arith; why = inl (omega arith) }, tt))
    (λ d k b g e. (record { good = g; depth_le = omega arith; why = inr e }, tt))
    (λ d k b cs ds g e p q. let same : suc k + d ≡ k + suc d = omega arith in
    all_append (Stopped settled axis (k + suc d)) cs ds (subst (λ (n : ℕ). All (Stopped settled axis n) cs) same p)
    (subst (λ (n : ℕ). All (Stopped settled axis n) ds) same q))
