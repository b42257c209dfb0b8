-- The number of tick cubes in a box: its halves have it between them, and it is at most 2^63. Assumes nothing.
use mathlib.Core.Path.{◌≡◌, ap, ◌∙◌}
use Prim.Native.Nat.{ℕ, ◌+◌, ◌*◌, ◌≤◌}
use native.Mathlib.Nat.{add-mul, mul-add, mul-le-mul, le-mul_of_pos_right}
use Rattle.tree.specs.declared.Axis.{Axis}
use Rattle.tree.specs.declared.Axis.TheVariants.{X, Y, Z}
use Rattle.tree.specs.Box.{Box, Good, low, high, span, lower, upper, volume, area}
use Rattle.tree.proofs.Spans.{spans_add, span_least, span_most}

pub volume_halves : (a : Axis) (b : Box) → Good b → volume b ≡ volume (lower a b) + volume (upper a b)
unfolding volume lower upper
volume_halves X b g =
    ap (λ (n : ℕ). n * span Y b * span Z b) (spans_add b.lx b.hx (g.spans X))
    ∙ ap (λ (n : ℕ). n * span Z b) (add-mul _ _ (span Y b)) ∙ add-mul _ _ (span Z b)
volume_halves Y b g =
    ap (λ (n : ℕ). span X b * n * span Z b) (spans_add b.ly b.hy (g.spans Y))
    ∙ ap (λ (n : ℕ). n * span Z b) (mul-add (span X b) _ _) ∙ add-mul _ _ (span Z b)
volume_halves Z b g =
    ap (λ (n : ℕ). span X b * span Y b * n) (spans_add b.lz b.hz (g.spans Z))
    ∙ mul-add (span X b * span Y b) _ _

most : {b : Box} → Good b → (a : Axis) → span a b ≤ 2097152
most {b} g a = span_most (low a b) (high a b) (g.spans a) (g.least a) (g.most a)

pub area_small : (b : Box) → Good b → area b ≤ 4398046511104
area_small b g = mul-le-mul (most g X) (most g Y)

-- a box has a layer
pub area_volume : (b : Box) → Good b → area b ≤ volume b
unfolding volume
area_volume b g = le-mul_of_pos_right (area b) (span_least b.lz b.hz (g.spans Z))

pub volume_small : (b : Box) → Good b → volume b ≤ 9223372036854775808
unfolding volume
volume_small b g = mul-le-mul (area_small b g) (most g Z)
