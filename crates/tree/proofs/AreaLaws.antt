-- The tick squares of a box in a layer: its halves have them between them. Assumes nothing.
use mathlib.Core.Path.{◌≡◌, refl, ap, ◌∙◌}
use mathlib.Core.Bool.{Bool, true, false, cond}
use Prim.Native.Nat.{ℕ, ◌+◌, ◌*◌, ◌≤◌}
use native.Mathlib.Nat.{add-mul, mul-add}
use native.Mathlib.Omega.{arith}
use lib.IntN.{ℤ}
use Rattle.tree.specs.declared.Axis.{Axis}
use Rattle.tree.specs.declared.Axis.TheVariants.{X, Y, Z}
use Rattle.tree.specs.Box.{Box, Good, span, lower, upper, area, lies_between, area_at}
use Rattle.tree.proofs.Spans.{spans_add}
use Rattle.tree.proofs.CoverLaws.{one, along, below, above, along_halves}

-- all of them where it crosses the layer, else none
pub area_at_is : (z : ℤ) (b : Box) → area_at z b ≡ cond (lies_between z b.lz b.hz) (area b) 0
unfolding area_at
area_at_is z b = refl

-- ---- where both halves cross what the box crosses, and where one of them does
both_cross : (t : Bool) (n l u : ℕ) → n ≡ l + u → cond t n 0 ≡ cond t l 0 + cond t u 0
both_cross true n l u e = e
both_cross false n l u e = refl

one_crosses : (s t u : Bool) (n : ℕ) → one s ≡ one t + one u → cond s n 0 ≡ cond t n 0 + cond u n 0
one_crosses true true true n e = absurd (omega arith)
one_crosses true true false n e = omega arith
one_crosses true false true n e = omega arith
one_crosses true false false n e = absurd (omega arith)
one_crosses false true u n e = absurd (by_other u e)
  where
    by_other : (u : Bool) → 0 ≡ 1 + one u → ⊥
    by_other true e = omega arith
    by_other false e = omega arith
one_crosses false false true n e = absurd (omega arith)
one_crosses false false false n e = refl

pub area_halves : (z : ℤ) (a : Axis) (b : Box) → Good b → area_at z b ≡ area_at z (lower a b) + area_at z (upper a b)
unfolding area_at lower upper
area_halves z X b g = both_cross (along z Z b) _ _ _ (ap (λ (n : ℕ). n * span Y b) (spans_add b.lx b.hx (g.spans X)) ∙ add-mul _ _ (span Y b))
area_halves z Y b g = both_cross (along z Z b) _ _ _ (ap (λ (n : ℕ). span X b * n) (spans_add b.ly b.hy (g.spans Y)) ∙ mul-add (span X b) _ _)
area_halves z Z b g = one_crosses (along z Z b) (below z Z b) (above z Z b) (area b) (along_halves z Z b g)

-- no layer has more than the box has in the layers that it crosses
pub area_at_le : (z : ℤ) (b : Box) → area_at z b ≤ area b
unfolding area_at
area_at_le z b = part (along z Z b) (area b)
  where
    part : (t : Bool) (n : ℕ) → cond t n 0 ≤ n
    part true n = omega arith
    part false n = omega arith
