-- What one step of the walk tells of the tree: a box is a cell, or the tree of the box is its two halves' trees. Over any rule for which boxes
-- are settled and any rule for the axis. Assumes nothing.
use mathlib.Core.Path.{◌≡◌, refl}
use mathlib.Core.Bool.{Bool, true, false, ◌||◌}
use mathlib.Core.List.{[], ◌∷◌, ◌++◌}
use Prim.Native.Nat.{ℕ, zero, suc, ◌+◌, ◌-◌, ◌≤◌, ◌<◌}
use native.Mathlib.Numerals.{sub-one}
use native.Mathlib.Omega.{arith}
use Rattle.tree.specs.declared.Axis.{Axis}
use Rattle.tree.specs.Box.{Box, Good, span, one_cube}
use Rattle.tree.specs.Tree.{stops, lower_half, upper_half, cells, leaves, box_count, Fair}
use Rattle.tree.proofs.HalfLaws.{good_lower, good_upper}

module _ (settled : Box → Bool) (axis : Box → Axis) where
  -- ---- a cell
  pub record IsCell (d : ℕ) (b : Box) : Type 0 where
    pub leaves1 : leaves settled axis d b ≡ 1
    pub box_count1 : box_count settled axis d b ≡ 1
    pub cells1 : (k : ℕ) → cells settled axis d k b ≡ record { box = b; depth = k } ∷ []

  pub cell_deep : (b : Box) → IsCell 0 b
  unfolding leaves box_count cells
  cell_deep b = record { leaves1 = refl; box_count1 = refl; cells1 = λ k. refl }

  pub cell_stops : (d : ℕ) (b : Box) → stops settled axis b ≡ true → IsCell d b
  unfolding leaves box_count cells
  cell_stops zero b e = record { leaves1 = refl; box_count1 = refl; cells1 = λ k. refl }
  cell_stops (suc d) b e = record { leaves1 = rw e; box_count1 = rw e; cells1 = λ k. rw e }

  -- ---- a box that is halved
  pub record IsHalved (d : ℕ) (b : Box) : Type 0 where
    pub leaves2 : leaves settled axis d b ≡ leaves settled axis (d - 1) (lower_half settled axis b) + leaves settled axis (d - 1) (upper_half settled axis b)
    pub box_count2 : box_count settled axis d b
        ≡ 1 + box_count settled axis (d - 1) (lower_half settled axis b) + box_count settled axis (d - 1) (upper_half settled axis b)
    pub cells2 : (k : ℕ)
        → cells settled axis d k b
        ≡ cells settled axis (d - 1) (suc k) (lower_half settled axis b) ++ cells settled axis (d - 1) (suc k) (upper_half settled axis b)
    pub good_lower : Good (lower_half settled axis b)
    pub good_upper : Good (upper_half settled axis b)

  -- a box that does not stop is no tick cube, so that its halves are good
  not_cube : (b : Box) → stops settled axis b ≡ false → one_cube b ≡ false
  not_cube b e = second (settled b) (one_cube b) e
    where
      second : (s t : Bool) → (s || t) ≡ false → t ≡ false
      second true t e = let z : ◌≡◌ {A = ℕ} 0 1 = cc in absurd (omega arith)
      second false t e = e

  pub wide : Fair axis → (b : Box) → stops settled axis b ≡ false → Good b → 2 ≤ span (axis b) b
  unfolding Fair
  wide fair b e g = fair b g (not_cube b e)

  pub halved : Fair axis → (d : ℕ) (b : Box) → 0 < d → stops settled axis b ≡ false → Good b → IsHalved d b
  unfolding leaves box_count cells
  halved fair zero b p e g = absurd (omega arith)
  halved fair (suc d) b p e g = record {
    leaves2 = rw (sub-one (suc d), e);
    box_count2 = rw (sub-one (suc d), e);
    cells2 = λ k. rw (sub-one (suc d), e);
    good_lower = good_lower (axis b) b g (wide fair b e g);
    good_upper = good_upper (axis b) b g (wide fair b e g);
  }
