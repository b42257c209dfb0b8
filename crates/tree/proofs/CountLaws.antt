-- The numbers of cells and of boxes: how they stand to each other, and what they are at most. Assumes nothing.
use mathlib.Core.Path.{◌≡◌, refl}
use mathlib.Core.Bool.{Bool, true, false, cond}
use mathlib.Core.List.{List, [], ◌∷◌, ◌++◌}
use Prim.Native.Nat.{ℕ, zero, suc, ◌+◌, ◌*◌, ◌^◌, ◌≤◌}
use native.Mathlib.Nat.{le_trans, two-pow-succ}
use native.Mathlib.Omega.{arith}
use lib.ListN.{length, length-append}
use lib.Pow.{pow_pos, pow_mono}
use Rattle.tree.specs.declared.Axis.{Axis}
use Rattle.tree.specs.Box.{Box}
use Rattle.tree.specs.Tree.{Cell, stops, lower_half, upper_half, cells, leaves, box_count}

module _ (settled : Box → Bool) (axis : Box → Axis) where
  pub length_cells : (d k : ℕ) (b : Box) → length (cells settled axis d k b) ≡ leaves settled axis d b
  unfolding cells leaves
  length_cells zero k b = refl
  length_cells (suc d) k b =
      both (stops settled axis b) _ (cells settled axis d (suc k) (lower_half settled axis b)) (cells settled axis d (suc k) (upper_half settled axis b)) _ _
      (length_cells d (suc k) (lower_half settled axis b)) (length_cells d (suc k) (upper_half settled axis b))
    where
      both : (t : Bool) (c : Cell) (cs ds : List Cell) (m n : ℕ) → length cs ≡ m → length ds ≡ n → length (cond t (c ∷ []) (cs ++ ds)) ≡ cond t 1 (m + n)
      both true c cs ds m n e f = refl
      both false c cs ds m n e f = rw (length-append cs ds, e, f)

  -- each box is halved or a cell, and there is one cell more than there are halved boxes
  pub box_count_leaves : (d : ℕ) (b : Box) → box_count settled axis d b + 1 ≡ 2 * leaves settled axis d b
  unfolding box_count leaves
  box_count_leaves zero b = refl
  box_count_leaves (suc d) b =
      both (stops settled axis b) _ _ _ _ (box_count_leaves d (lower_half settled axis b)) (box_count_leaves d (upper_half settled axis b))
    where
      both : (t : Bool) (m n p q : ℕ) → m + 1 ≡ 2 * p → n + 1 ≡ 2 * q → cond t 1 (1 + m + n) + 1 ≡ 2 * cond t 1 (p + q)
      both true m n p q e f = refl
      both false m n p q e f = omega arith

  pub leaves_le : (d : ℕ) (b : Box) → leaves settled axis d b ≤ 2 ^ d
  unfolding leaves
  leaves_le zero b = omega arith
  leaves_le (suc d) b = both (stops settled axis b) _ _ (leaves_le d (lower_half settled axis b)) (leaves_le d (upper_half settled axis b))
    where
      both : (t : Bool) (m n : ℕ) → m ≤ 2 ^ d → n ≤ 2 ^ d → cond t 1 (m + n) ≤ 2 ^ suc d
      both true m n p q = pow_pos (suc d)
      both false m n p q = rw (two-pow-succ d) (omega arith)

  pub leaves_least : (d : ℕ) (b : Box) → 1 ≤ leaves settled axis d b
  leaves_least d b = omega (arith, box_count_leaves d b)

  -- "depth" is at most 24
  pub leaves_small : (d : ℕ) (b : Box) → d ≤ 24 → leaves settled axis d b ≤ 16777216
  leaves_small d b h = le_trans (leaves_le d b) (pow_mono h)

  pub box_count_small : (d : ℕ) (b : Box) → d ≤ 24 → box_count settled axis d b ≤ 33554431
  box_count_small d b h = omega (arith, box_count_leaves d b, leaves_small d b h)
