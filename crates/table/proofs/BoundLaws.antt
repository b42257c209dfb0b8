-- A good box has room in a slot. Assumes nothing.
use Prim.Native.Nat.{◌<◌}
use native.Mathlib.Omega.{arith}
use lib.IntN.{ℤ, pos, negsuc}
use lib.Signed.{◌≤ℤ◌, ◌<ℤ◌}
use Rattle.exact.proofs.IntegerOrder.{zarith}
use Rattle.tree.specs.Box.{Good, box_of}
use Rattle.tree.specs.declared.Axis.TheVariants.{X, Y, Z}
use Rattle.tree.specs.declared.ShiftedBox.{ShiftedBox}
use Rattle.tree.proofs.ShiftedLaws.{good_shifted}
use Rattle.table.specs.Table.{Record}
use Rattle.table.specs.Bounds.{WithinTicks, FitsI32, Fits}

-- the code's
pub within_ticks : (b : ShiftedBox) → Good (box_of b) → WithinTicks b
within_ticks b g =
    let s = good_shifted b g in
    record {
      lx = omega (arith, s.below_x, s.most_x);
      ly = omega (arith, s.below_y, s.most_y);
      lz = omega (arith, s.below_z, s.most_z);
      hx = s.most_x;
      hy = s.most_y;
      hz = s.most_z;
    }

-- a cell's
low_fits : {l h : ℤ} → l <ℤ h → negsuc 1048575 ≤ℤ l → h ≤ℤ pos 1048576 → FitsI32 l
low_fits {l} {h} p q r = record { least = omega zarith; most = omega zarith }

high_fits : {l h : ℤ} → l <ℤ h → negsuc 1048575 ≤ℤ l → h ≤ℤ pos 1048576 → FitsI32 h
high_fits {l} {h} p q r = record { least = omega zarith; most = omega zarith }

pub good_fits : (m : Record) → m.state < 256 → m.depth < 256 → Good m.box → Fits m
good_fits m h k g = record {
  state = h;
  depth = k;
  lx = low_fits (g.spans X) (g.least X) (g.most X);
  ly = low_fits (g.spans Y) (g.least Y) (g.most Y);
  lz = low_fits (g.spans Z) (g.least Z) (g.most Z);
  hx = high_fits (g.spans X) (g.least X) (g.most X);
  hy = high_fits (g.spans Y) (g.least Y) (g.most Y);
  hz = high_fits (g.spans Z) (g.least Z) (g.most Z);
}
