-- What a good box says of the numbers of the code's box that stands for it: a coordinate is kept as the whole number x + 2^20. Assumes nothing.
use mathlib.Core.Path.{◌≡◌}
use Prim.Native.Nat.{ℕ, ◌+◌, ◌-◌, ◌≤◌, ◌<◌}
use native.Mathlib.Omega.{arith}
use lib.IntN.{pos, nat_abs, ◌+ℤ◌, ◌-ℤ◌}
use lib.Signed.{◌≤ℤ◌, ◌<ℤ◌}
use Rattle.exact.proofs.IntegerOrder.{pos_part, neg_part, sum_parts, difference_parts, parts_eq, zarith}
use Rattle.tree.specs.declared.Axis.TheVariants.{X, Y, Z}
use Rattle.tree.specs.declared.ShiftedBox.{ShiftedBox}
use Rattle.tree.specs.Box.{Good, span, unshifted, box_of}
use Rattle.tree.proofs.Spans.{span_is}

-- ---- one coordinate
pub unshifted_parts : (u : ℕ) → pos_part (unshifted u) + 1048576 ≡ u + neg_part (unshifted u)
unshifted_parts u = omega (arith, difference_parts (pos u) (pos 1048576))

pub unshifted_add : (u n : ℕ) → unshifted (u + n) ≡ unshifted u +ℤ pos n
unshifted_add u n =
    parts_eq (unshifted (u + n)) (unshifted u +ℤ pos n)
    (omega (arith, unshifted_parts u, unshifted_parts (u + n), sum_parts (unshifted u) (pos n)))

-- the same numbers on one axis
record Axial (l h n : ℕ) : Type 0 where
  pub below : l < h
  pub most : h ≤ 2097152
  pub long : n ≡ h - l

axial : (l h : ℕ) → unshifted l <ℤ unshifted h → unshifted h ≤ℤ pos 1048576 → Axial l h (nat_abs (unshifted h -ℤ unshifted l))
axial l h p q =
    let below : l < h = omega (zarith, unshifted_parts l, unshifted_parts h) in
    record {
      below = below;
      most = omega (zarith, unshifted_parts h);
      long = span_is (unshifted l) (unshifted h) (h - l) (omega (arith, unshifted_parts l, unshifted_parts h));
    }

-- ---- a box
pub record GoodShifted (b : ShiftedBox) : Type 0 where
  pub below_x : b.x.low < b.x.high
  pub below_y : b.y.low < b.y.high
  pub below_z : b.z.low < b.z.high
  pub most_x : b.x.high ≤ 2097152
  pub most_y : b.y.high ≤ 2097152
  pub most_z : b.z.high ≤ 2097152
  pub span_x : span X (box_of b) ≡ b.x.high - b.x.low
  pub span_y : span Y (box_of b) ≡ b.y.high - b.y.low
  pub span_z : span Z (box_of b) ≡ b.z.high - b.z.low

pub good_shifted : (b : ShiftedBox) → Good (box_of b) → GoodShifted b
unfolding box_of
good_shifted b g =
    let x = axial b.x.low b.x.high (g.spans X) (g.most X) in
    let y = axial b.y.low b.y.high (g.spans Y) (g.most Y) in
    let z = axial b.z.low b.z.high (g.spans Z) (g.most Z) in
    record {
      below_x = x.below;
      below_y = y.below;
      below_z = z.below;
      most_x = x.most;
      most_y = y.most;
      most_z = z.most;
      span_x = x.long;
      span_y = y.long;
      span_z = z.long;
    }

-- its ends are in order
pub order_x : (b : ShiftedBox) → Good (box_of b) → b.x.low ≤ b.x.high
order_x b g = omega (arith, (good_shifted b g).below_x)

pub order_y : (b : ShiftedBox) → Good (box_of b) → b.y.low ≤ b.y.high
order_y b g = omega (arith, (good_shifted b g).below_y)

pub order_z : (b : ShiftedBox) → Good (box_of b) → b.z.low ≤ b.z.high
order_z b g = omega (arith, (good_shifted b g).below_z)

-- and it is as long on an axis as they are apart
pub x_span : (b : ShiftedBox) → Good (box_of b) → span X (box_of b) ≡ b.x.high - b.x.low
x_span b g = (good_shifted b g).span_x

pub y_span : (b : ShiftedBox) → Good (box_of b) → span Y (box_of b) ≡ b.y.high - b.y.low
y_span b g = (good_shifted b g).span_y

pub z_span : (b : ShiftedBox) → Good (box_of b) → span Z (box_of b) ≡ b.z.high - b.z.low
z_span b g = (good_shifted b g).span_z

-- what a function over the code's box needs of its sides
pub ruleset sides = (order_x, order_y, order_z, x_span, y_span, z_span)
