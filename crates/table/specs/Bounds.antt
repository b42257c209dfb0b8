-- WHAT A SLOT HAS ROOM FOR. Definitions only; assumes nothing.
use Rattle.std.specs.Prelude.{List, [], ◌∷◌, ◌≤◌, ◌<◌, ℤ, pos, negsuc, ◌≤ℤ◌}
use Rattle.tree.specs.declared.ShiftedBox.{ShiftedBox}
use Rattle.table.specs.declared.Head.{Head}
use Rattle.table.specs.Table.{Record}

-- the coordinates of the code's box are those of ticks of −2^20 to 2^20
pub record WithinTicks (b : ShiftedBox) : Type 0 where
  pub lx : b.x.low ≤ 2097152
  pub ly : b.y.low ≤ 2097152
  pub lz : b.z.low ≤ 2097152
  pub hx : b.x.high ≤ 2097152
  pub hy : b.y.high ≤ 2097152
  pub hz : b.z.high ≤ 2097152

-- slot 0: three u32 and two u64
pub record HeadFits (h : Head) : Type 0 where
  pub first : h.first < 4294967296
  pub cells : h.cells < 4294967296
  pub evaluated : h.evaluated < 4294967296
  pub solid : h.solid < 18446744073709551616
  pub «open» : h.«open» < 18446744073709551616

-- an i32
pub record FitsI32 (z : ℤ) : Type 0 where
  pub least : negsuc 2147483647 ≤ℤ z
  pub most : z ≤ℤ pos 2147483647

-- a cell's record: two bytes and six i32
pub record Fits (m : Record) : Type 0 where
  pub state : m.state < 256
  pub depth : m.depth < 256
  pub lx : FitsI32 m.box.lx
  pub ly : FitsI32 m.box.ly
  pub lz : FitsI32 m.box.lz
  pub hx : FitsI32 m.box.hx
  pub hy : FitsI32 m.box.hy
  pub hz : FitsI32 m.box.hz

-- so with every record of a list
abbrev pub AllFit : List Record → Type 0
AllFit [] = Unit {0}
AllFit (m ∷ ms) = Fits m × AllFit ms
