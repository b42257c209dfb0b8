-- The report of a table that a walk has left: of a layer within the box, the three numbers add up to the box's area in x and y. Assumes nothing.
use mathlib.Core.Path.{◌≡◌, ap, ◌∙◌}
use mathlib.Core.Bool.{Bool, true, cond}
use mathlib.Core.List.{List}
use Prim.Native.Nat.{ℕ, ◌+◌, ◌*◌, ◌<◌}
use lib.IntN.{ℤ, pos, ◌+ℤ◌}
use Rattle.interval.specs.Interval.{Arithmetic}
use Rattle.gyroid.specs.declared.Description.{Description}
use Rattle.tree.specs.Box.{Box, area, lies_between}
use Rattle.tree.proofs.AreaLaws.{area_at_is}
use Rattle.table.specs.Read.{u64_at}
use Rattle.layers.specs.Layers.{layers_in, Reported}
use Rattle.walk.specs.declared.TieRule.{TieRule}
use Rattle.walk.specs.Demand.{Demand}

pub box_area : (ar : Arithmetic) (d : Description) (b : Box) (D : ℕ) (rule : TieRule) (t : List ℕ) → Demand ar d b D rule t
    → (low high : ℤ) (r : List ℕ) → Reported t low high r
    → (k : ℕ) → k < layers_in low high → lies_between (low +ℤ pos k) b.lz b.hz ≡ true
    → u64_at r (24 * k) + u64_at r (24 * k + 8) + u64_at r (24 * k + 16) ≡ area b
box_area ar d b D rule t demand low high r reported k h within =
    let z : ℤ = low +ℤ pos k in
    reported.three k h ∙ demand.layer_area z ∙ area_at_is z b ∙ ap (λ (c : Bool). cond c (area b) 0) within
