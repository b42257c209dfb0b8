-- The tick cubes of the cells that have a property, as "solid volume" counts them: of a cell, of two halves, and never more than the box has.
-- Assumes nothing.
use mathlib.Core.Path.{◌≡◌, refl, ap, ◌∙◌}
use mathlib.Core.Bool.{Bool, true, false, cond}
use mathlib.Core.List.{List, [], ◌∷◌, ◌++◌}
use Prim.Native.Nat.{ℕ, zero, suc, ◌+◌, ◌-◌, ◌≤◌}
use native.Mathlib.Nat.{add-zero}
use native.Mathlib.Omega.{arith}
use Rattle.tree.specs.declared.Axis.{Axis}
use Rattle.tree.specs.Box.{Box, Good, volume}
use Rattle.tree.specs.Tree.{Cell, stops, lower_half, upper_half, cells, Fair, volume_of}
use Rattle.tree.proofs.StepLaws.{IsCell, IsHalved}
use Rattle.tree.proofs.TreeInduction.{tree_ind}
use Rattle.tree.proofs.VolumeLaws.{volume_halves}

module _ (inside : Box → Bool) where
  pub solid_append : (cs ds : List Cell) → volume_of inside (cs ++ ds) ≡ volume_of inside cs + volume_of inside ds
  unfolding volume_of
  solid_append [] ds = omega arith
  solid_append (c ∷ cs) ds = omega (arith, solid_append cs ds)

  solid_one : (c : Cell) → volume_of inside (c ∷ []) ≡ cond (inside c.box) (volume c.box) 0
  unfolding volume_of
  solid_one c = add-zero (cond (inside c.box) (volume c.box) 0)

  solid_one_le : (c : Cell) → volume_of inside (c ∷ []) ≤ volume c.box
  solid_one_le c = rw (solid_one c) (part (inside c.box) (volume c.box))
    where
      part : (t : Bool) (n : ℕ) → cond t n 0 ≤ n
      part true n = omega arith
      part false n = omega arith

  module _ (settled : Box → Bool) (axis : Box → Axis) where
    pub solid_cell : (d k : ℕ) (b : Box) → IsCell settled axis d b → volume_of inside (cells settled axis d k b) ≡ cond (inside b) (volume b) 0
    solid_cell d k b c = ap (volume_of inside) (c.cells1 k) ∙ solid_one (record { box = b; depth = k })

    pub solid_halves : (d k : ℕ) (b : Box) → IsHalved settled axis d b
        → volume_of inside (cells settled axis d k b)
        ≡ volume_of inside (cells settled axis (d - 1) (suc k) (lower_half settled axis b))
        + volume_of inside (cells settled axis (d - 1) (suc k) (upper_half settled axis b))
    solid_halves d k b h = ap (volume_of inside) (h.cells2 k)
        ∙ solid_append (cells settled axis (d - 1) (suc k) (lower_half settled axis b)) (cells settled axis (d - 1) (suc k) (upper_half settled axis b))

    pub solid_le : Fair axis → (d k : ℕ) (b : Box) → Good b → volume_of inside (cells settled axis d k b) ≤ volume b
    solid_le fair =
        tree_ind settled axis fair (λ d k b cs. volume_of inside cs ≤ volume b)
        (λ k b g. solid_one_le (record { box = b; depth = k })) (λ d k b g e. solid_one_le (record { box = b; depth = k }))
        (λ d k b cs ds g e p q. omega (arith, solid_append cs ds, volume_halves (axis b) b g))

    -- the depths of the cells do not count
    pub solid_any : (d k j : ℕ) (b : Box) → volume_of inside (cells settled axis d k b) ≡ volume_of inside (cells settled axis d j b)
    unfolding cells volume_of
    solid_any zero k j b = refl
    solid_any (suc d) k j b =
        by_stop (stops settled axis b) (cells settled axis d (suc k) l) (cells settled axis d (suc k) h) (cells settled axis d (suc j) l)
        (cells settled axis d (suc j) h) (solid_any d (suc k) (suc j) l) (solid_any d (suc k) (suc j) h)
      where
        l : Box
        l = lower_half settled axis b

        h : Box
        h = upper_half settled axis b

        by_stop : (t : Bool) (cs ds es fs : List Cell) → volume_of inside cs ≡ volume_of inside es → volume_of inside ds ≡ volume_of inside fs
            → volume_of inside (cond t (record { box = b; depth = k } ∷ []) (cs ++ ds))
            ≡ volume_of inside (cond t (record { box = b; depth = j } ∷ []) (es ++ fs))
        by_stop true cs ds es fs e f = refl
        by_stop false cs ds es fs e f = omega (arith, solid_append cs ds, solid_append es fs)
