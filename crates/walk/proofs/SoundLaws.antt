-- The records of a tree's cells are those of a sound table: each is a sound cell, and their volumes and their areas in a layer are the box's. Assumes
-- nothing.
use mathlib.Core.Path.{◌≡◌, sym, ◌∙◌}
use mathlib.Core.Bool.{true}
use mathlib.Core.List.{List, [], ◌∷◌}
use Prim.Native.Nat.{ℕ, ◌≤◌}
use native.Mathlib.Omega.{arith}
use lib.IntN.{ℤ}
use Rattle.interval.specs.Interval.{Arithmetic}
use Rattle.gyroid.specs.declared.Gyroid.{Gyroid}
use Rattle.gyroid.specs.declared.State.{State}
use Rattle.gyroid.specs.declared.State.TheVariants.{Inside, Outside, Unsettled}
use Rattle.gyroid.specs.Residual.{state_number}
use Rattle.tree.specs.declared.Axis.{Axis}
use Rattle.tree.specs.Box.{Box, Good, volume, area_at}
use Rattle.tree.specs.Tree.{Cell, Fair}
use Rattle.tree.specs.Cells.{All, Stopped}
use Rattle.tree.proofs.VolumeLaws.{volume_halves}
use Rattle.tree.proofs.AreaLaws.{area_halves}
use Rattle.tree.proofs.SumLaws.{sum_of, sum_cells, sum_none, sum_more}
use Rattle.sound.specs.Sound.{sound_cells, volumes}
use Rattle.sound.proofs.ChainLaws.{no_cells, one_cell_more, volumes_none, volumes_more}
use Rattle.layers.specs.Layers.{crossing}
use Rattle.layers.proofs.SumLaws.{crossing_none, crossing_more}
use Rattle.walk.specs.Walk.{state_at, settled, cells_of, record_of, records_of}

number_least : (s : State) → 1 ≤ state_number s
number_least Inside = omega arith
number_least Outside = omega arith
number_least Unsettled = omega arith

pub number_most : (s : State) → state_number s ≤ 3
number_most Inside = omega arith
number_most Outside = omega arith
number_most Unsettled = omega arith

module _ (ar : Arithmetic) (g : Gyroid) where
  pub sound_cells_lem : (axis : Box → Axis) (D : ℕ) → D ≤ 24 → (cs : List Cell) → All (Stopped (settled ar g) axis D) cs
      → sound_cells (records_of ar g cs) ≡ true
  unfolding records_of
  sound_cells_lem axis D h [] q = no_cells
  sound_cells_lem axis D h (c ∷ cs) q =
      let s = state_at ar g c.box in
      one_cell_more (record_of ar g c) (records_of ar g cs)
      (record { least = number_least s; most = number_most s; depth = omega (arith, q.0.depth_le); good = q.0.good }) (sound_cells_lem axis D h cs q.1)

  -- ---- a sum over the records is the sum over the cells
  volumes_are : (cs : List Cell) → volumes (records_of ar g cs) ≡ sum_of volume cs
  unfolding records_of
  volumes_are [] = volumes_none ∙ sym (sum_none volume)
  volumes_are (c ∷ cs) = omega (arith, volumes_more (record_of ar g c) (records_of ar g cs), volumes_are cs, sum_more volume c cs)

  crossing_is : (z : ℤ) (cs : List Cell) → crossing z (records_of ar g cs) ≡ sum_of (area_at z) cs
  unfolding records_of
  crossing_is z [] = crossing_none z ∙ sym (sum_none (area_at z))
  crossing_is z (c ∷ cs) = omega (arith, crossing_more z (record_of ar g c) (records_of ar g cs), crossing_is z cs, sum_more (area_at z) c cs)

  module _ (axis : Box → Axis) (fair : Fair axis) (D : ℕ) (b : Box) (good : Good b) where
    pub volumes_box : volumes (records_of ar g (cells_of ar g axis D b)) ≡ volume b
    volumes_box = volumes_are (cells_of ar g axis D b) ∙ sum_cells volume volume_halves (settled ar g) axis fair D 0 b good

    pub crossing_box : (z : ℤ) → crossing z (records_of ar g (cells_of ar g axis D b)) ≡ area_at z b
    crossing_box z = crossing_is z (cells_of ar g axis D b) ∙ sum_cells (area_at z) (area_halves z) (settled ar g) axis fair D 0 b good
