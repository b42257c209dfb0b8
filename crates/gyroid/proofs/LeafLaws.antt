-- The leaf of a description, at the arithmetic in use: its fields that the layers above read. Assumes nothing.
use mathlib.Core.Path.{◌≡◌, refl, ap, ◌∙◌}
use Prim.Native.Nat.{ℕ, ◌*◌, ◌^◌, ◌≤◌, ◌<◌}
use native.Mathlib.Omega.{arith}
use lib.IntN.{pos, nat_abs}
use Rattle.exact.proofs.Size.{size_above}
use Rattle.interval.specs.Encloses.{Small}
use Rattle.interval.proofs.DoubleSizes.{nearest_small}
use Rattle.grade.specs.Exact.{compiled}
use Rattle.gyroid.specs.declared.Description.{Description}
use Rattle.gyroid.specs.declared.Gyroid.{Gyroid}
use Rattle.gyroid.specs.Leaf
use Rattle.gyroid.specs.Leaf.{surface_of}
use Rattle.gyroid.specs.InUse.{leaf}
use Rattle.gyroid.proofs.AcceptedLaws.{Passed}

-- ---- what `certified` gave: its contract says that it is the description's leaf
pub surface_is : (d : Description) {g : Gyroid} → g ≡ leaf d → g.surface ≡ surface_of d.kind
unfolding Leaf.leaf
surface_is d e = ap (λ (g : Gyroid). g.surface) e

pub leaf_grade : (d : Description) → (leaf d).grade ≡ compiled d.level
unfolding Leaf.leaf
leaf_grade d = refl

pub grade_is : (d : Description) {g : Gyroid} → g ≡ leaf d → g.grade ≡ compiled d.level
grade_is d e = ap (λ (g : Gyroid). g.grade) e ∙ leaf_grade d

-- ---- 1/a in doubles
pub turns_small : (d : Description) → Passed d → Small 10 (leaf d).fast_turns
unfolding Leaf.leaf
turns_small d p = nearest_small 10 (pos 1024) (nat_abs d.period) tt (size_above p.above) (wide (nat_abs d.period) (size_above p.above))
  where
    wide : (n : ℕ) → 0 < n → 1024 ≤ 2 ^ 10 * n
    wide n h = omega arith
