-- The areas of a list of cells in a layer: the three states have them all between them, and none passes the volumes. Assumes nothing.
use mathlib.Core.Path.{◌≡◌, refl}
use mathlib.Core.Bool.{Bool, true, false, cond}
use mathlib.Core.List.{List, [], ◌∷◌}
use Prim.Native.Nat.{ℕ, zero, suc, ◌+◌, ◌≤◌}
use native.Mathlib.Omega.{arith}
use lib.Dec.{eqb}
use lib.IntN.{ℤ}
use Rattle.tree.specs.Box.{area_at}
use Rattle.tree.proofs.VolumeLaws.{area_volume}
use Rattle.tree.proofs.AreaLaws.{area_at_le}
use Rattle.table.specs.Table.{Record}
use Rattle.sound.specs.Sound.{sound_cells, volumes}
use Rattle.sound.proofs.ChainLaws.{first_cell, volumes_none, volumes_more}
use Rattle.layers.specs.Layers.{area_in, crossing}

pub area_none : (s : ℕ) (z : ℤ) → area_in s z [] ≡ 0
unfolding area_in
area_none s z = refl

pub area_more : (s : ℕ) (z : ℤ) (m : Record) (ms : List Record) → area_in s z (m ∷ ms) ≡ cond (eqb s m.state) (area_at z m.box) 0 + area_in s z ms
unfolding area_in
area_more s z m ms = refl

pub crossing_none : (z : ℤ) → crossing z [] ≡ 0
unfolding crossing
crossing_none z = refl

pub crossing_more : (z : ℤ) (m : Record) (ms : List Record) → crossing z (m ∷ ms) ≡ area_at z m.box + crossing z ms
unfolding crossing
crossing_more z m ms = refl

-- ---- a state is one of three
three_of_lem : (s a : ℕ) → 1 ≤ s → s ≤ 3 → cond (eqb 1 s) a 0 + cond (eqb 2 s) a 0 + cond (eqb 3 s) a 0 ≡ a
three_of_lem zero a h k = absurd (omega arith)
three_of_lem (suc zero) a h k = omega arith
three_of_lem (suc (suc zero)) a h k = omega arith
three_of_lem (suc (suc (suc zero))) a h k = omega arith
three_of_lem (suc (suc (suc (suc s)))) a h k = absurd (omega arith)

-- "The three add up to the area of the cells crossing that layer."
pub three_states : (z : ℤ) (ms : List Record) → sound_cells ms ≡ true → area_in 1 z ms + area_in 2 z ms + area_in 3 z ms ≡ crossing z ms
unfolding area_in crossing
three_states z [] f = refl
three_states z (m ∷ ms) f =
    let (c, cs) = first_cell m ms f in
    omega (arith, three_of_lem m.state (area_at z m.box) c.least c.most, three_states z ms cs)

-- ---- a layer has no more than the volumes, and a state no more than the layer
pub crossing_le : (z : ℤ) (ms : List Record) → sound_cells ms ≡ true → crossing z ms ≤ volumes ms
unfolding crossing
crossing_le z [] f = omega (arith, volumes_none)
crossing_le z (m ∷ ms) f =
    let (c, cs) = first_cell m ms f in
    omega (arith, area_at_le z m.box, area_volume m.box c.good, crossing_le z ms cs, volumes_more m ms)

part_le : (t : Bool) (a : ℕ) → cond t a 0 ≤ a
part_le true a = omega arith
part_le false a = omega arith

pub area_le : (s : ℕ) (z : ℤ) (ms : List Record) → area_in s z ms ≤ crossing z ms
unfolding area_in crossing
area_le s z [] = omega arith
area_le s z (m ∷ ms) = omega (arith, part_le (eqb s m.state) (area_at z m.box), area_le s z ms)
