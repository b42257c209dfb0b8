-- What a box has as much of as its two halves, its cells have between them. Assumes nothing.
use mathlib.Core.Path.{◌≡◌, sym, ◌∙◌}
use mathlib.Core.Bool.{Bool}
use mathlib.Core.List.{List, [], ◌∷◌, ◌++◌}
use Prim.Native.Nat.{ℕ, ◌+◌}
use native.Mathlib.Nat.{add-zero}
use native.Mathlib.Omega.{arith}
use Rattle.tree.specs.declared.Axis.{Axis}
use Rattle.tree.specs.Box.{Box, Good, lower, upper}
use Rattle.tree.specs.Tree.{Cell, cells, Fair}
use Rattle.tree.proofs.TreeInduction.{tree_ind}

module _ (f : Box → ℕ) where
  pub sum_of : List Cell → ℕ
  sum_of [] = 0
  sum_of (c ∷ cs) = f c.box + sum_of cs

  sum_append : (cs ds : List Cell) → sum_of (cs ++ ds) ≡ sum_of cs + sum_of ds
  unfolding sum_of
  sum_append [] ds = omega arith
  sum_append (c ∷ cs) ds = omega (arith, sum_append cs ds)

  sum_one : (c : Cell) → sum_of (c ∷ []) ≡ f c.box
  unfolding sum_of
  sum_one c = add-zero (f c.box)

  pub sum_cells : ((a : Axis) (b : Box) → Good b → f b ≡ f (lower a b) + f (upper a b))
      → (settled : Box → Bool) (axis : Box → Axis) → Fair axis → (d k : ℕ) (b : Box) → Good b → sum_of (cells settled axis d k b) ≡ f b
  sum_cells halves settled axis fair =
      tree_ind settled axis fair (λ d k b cs. sum_of cs ≡ f b) (λ k b g. sum_one (record { box = b; depth = k }))
      (λ d k b g e. sum_one (record { box = b; depth = k }))
      (λ d k b cs ds g e p q. sum_append cs ds ∙ (λ i. p i + q i) ∙ sym (halves (axis b) b g))

  -- one by one
  pub sum_none : sum_of [] ≡ 0
  unfolding sum_of
  sum_none = omega arith

  pub sum_more : (c : Cell) (cs : List Cell) → sum_of (c ∷ cs) ≡ f c.box + sum_of cs
  unfolding sum_of
  sum_more c cs = omega arith
