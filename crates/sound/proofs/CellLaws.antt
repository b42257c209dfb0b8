-- A sound cell has one of three states, a depth of at most 24 and a good box; and the other way. Assumes nothing.
use mathlib.Core.Path.{◌≡◌}
use mathlib.Core.Bool.{true, ◌&&◌}
use Prim.Native.Nat.{◌≤◌}
use lib.Dec.{leb}
use lib.IntN.{ℤ, pos, negsuc}
use lib.Signed.{le_z, lt_z, ◌≤ℤ◌, ◌<ℤ◌}
use borrow.Author.Tests.{leb-true, le-leb}
use Rattle.exact.proofs.IntegerOrder.{zarith}
use Rattle.limits.proofs.TestLaws.{two, holds, is_true}
use Rattle.limits.specs.Ticks.{side}
use Rattle.limits.proofs.TickLaws.{Sided, sided}
use Rattle.tree.specs.declared.Axis.{Axis}
use Rattle.tree.specs.declared.Axis.TheVariants.{X, Y, Z}
use Rattle.tree.specs.Box.{Box, Good, low, high}
use Rattle.tree.proofs.HalfLaws.{by_axis}
use Rattle.table.specs.Table.{Record}
use Rattle.sound.specs.Slots.{one_to}
use Rattle.sound.specs.Sound.{keeps_limits, sound_cell}

-- ---- its box
limits_good : (b : Box) → keeps_limits b ≡ true → Good b
unfolding keeps_limits
limits_good b e =
    let (xy, z) = two (side b.lx b.hx && side b.ly b.hy) (side b.lz b.hz) e in
    let (x, y) = two (side b.lx b.hx) (side b.ly b.hy) xy in
    let all =
    by_axis (λ a. Sided (low a b) (high a b)) (sided b.lx b.hx (holds x)) (sided b.ly b.hy (holds y)) (sided b.lz b.hz (holds z)) in
    record { spans = λ a. (all a).spans; least = λ a. (all a).least; most = λ a. (all a).most }

good_side : {l h : ℤ} → negsuc 1048575 ≤ℤ l → h ≤ℤ pos 1048576 → l <ℤ h → side l h ≡ true
good_side {l} {h} p q r =
    let s : l ≤ℤ pos 1048576 = omega zarith in
    let t : negsuc 1048575 ≤ℤ h = omega zarith in
    λ i. (is_true (le_z (negsuc 1048575) l) p.le i && is_true (le_z l (pos 1048576)) s.le i)
    && (is_true (le_z (negsuc 1048575) h) t.le i && is_true (le_z h (pos 1048576)) q.le i) && is_true (lt_z l h) r.lt i

good_limits : (b : Box) → Good b → keeps_limits b ≡ true
unfolding keeps_limits
good_limits b g =
    let s : (a : Axis) → side (low a b) (high a b) ≡ true = λ a. good_side (g.least a) (g.most a) (g.spans a) in
    λ i. s X i && s Y i && s Z i

-- ---- its parts
pub record IsSoundCell (m : Record) : Type 0 where
  pub least : 1 ≤ m.state
  pub most : m.state ≤ 3
  pub depth : m.depth ≤ 24
  pub good : Good m.box

pub cell_is : (m : Record) → sound_cell m ≡ true → IsSoundCell m
unfolding sound_cell
cell_is m e =
    let (w, b) = two (one_to 3 m.state && leb m.depth 24) (keeps_limits m.box) e in
    let (s, d) = two (one_to 3 m.state) (leb m.depth 24) w in
    let (p, q) = two (leb 1 m.state) (leb m.state 3) s in
    record { least = leb-true 1 m.state p; most = leb-true m.state 3 q; depth = leb-true m.depth 24 d; good = limits_good m.box b }

pub is_cell : (m : Record) → IsSoundCell m → sound_cell m ≡ true
unfolding sound_cell
is_cell m s =
    λ i. (le-leb 1 m.state s.least i && le-leb m.state 3 s.most i) && le-leb m.depth 24 s.depth i && good_limits m.box s.good i
