-- WHAT A TABLE SAYS, read from its bytes by the description of them in documents 01 and 02 alone: any list of bytes has a reading. Definitions
-- only; assumes nothing.
use Rattle.std.specs.Prelude.{◌≡◌, cond, List, [], ◌∷◌, ℕ, zero, suc, ◌+◌, ◌-◌, ◌*◌, ltb, ℤ, pos, negsuc, get_or}
use Rattle.table.specs.declared.Head.{Head}
use Rattle.table.specs.Table.{Record}

-- a byte, a u32, a u64 and an i32 at an index, "little endian"
abbrev pub u8_at : List ℕ → ℕ → ℕ
u8_at t i = get_or t i 0

abbrev pub u32_at : List ℕ → ℕ → ℕ
u32_at t i = u8_at t i + u8_at t (i + 1) * 256 + u8_at t (i + 2) * 65536 + u8_at t (i + 3) * 16777216

abbrev pub u64_at : List ℕ → ℕ → ℕ
u64_at t i = u32_at t i + u32_at t (i + 4) * 4294967296

-- 32 bits as an i32
abbrev pub twos_complement : ℕ → ℤ
twos_complement w = cond (ltb w 2147483648) (pos w) (negsuc (4294967295 - w))

abbrev pub i32_at : List ℕ → ℕ → ℤ
i32_at t i = twos_complement (u32_at t i)

-- ---- slot 0: "first cell (u32, 1), cells (u32), evaluated (u32), solid volume (u64), open volume (u64)"
abbrev pub first_in : List ℕ → ℕ
first_in t = u32_at t 0

abbrev pub cells_in : List ℕ → ℕ
cells_in t = u32_at t 4

abbrev pub evaluated_in : List ℕ → ℕ
evaluated_in t = u32_at t 8

abbrev pub solid_in : List ℕ → ℕ
solid_in t = u64_at t 12

abbrev pub open_in : List ℕ → ℕ
open_in t = u64_at t 20

abbrev pub head_in : List ℕ → Head
head_in t = record { first = first_in t; cells = cells_in t; evaluated = evaluated_in t; solid = solid_in t; «open» = open_in t }

-- ---- a cell's record: "next slot (u32, zero ends the chain)", then, by document 02's L4, "four bytes: state, depth, and two zeros", then
-- "three lows, three highs (i32)". Where these stand in its slot
abbrev pub state_offset : ℕ
state_offset = 4

abbrev pub depth_offset : ℕ
depth_offset = 5

abbrev pub zeros_offset : ℕ
zeros_offset = 6

abbrev pub coordinates_offset : ℕ
coordinates_offset = 8

abbrev pub next_in : List ℕ → ℕ → ℕ
next_in t slot = u32_at t (32 * slot)

-- the lows and highs, counted from 0
abbrev pub coordinate_in : List ℕ → ℕ → ℕ → ℤ
coordinate_in t slot i = i32_at t (32 * slot + coordinates_offset + 4 * i)

unfoldable pub record_in : List ℕ → ℕ → Record
record_in t slot = record {
  state = u8_at t (32 * slot + state_offset);
  depth = u8_at t (32 * slot + depth_offset);
  box = record {
    lx = coordinate_in t slot 0;
    ly = coordinate_in t slot 1;
    lz = coordinate_in t slot 2;
    hx = coordinate_in t slot 3;
    hy = coordinate_in t slot 4;
    hz = coordinate_in t slot 5;
  };
}

-- the state word's last two bytes
pub record TwoZeros (t : List ℕ) (slot : ℕ) : Type 0 where
  pub first : u8_at t (32 * slot + zeros_offset) ≡ 0
  pub second : u8_at t (32 * slot + zeros_offset + 1) ≡ 0

-- ---- the chain: n cells from a slot on, and the slot that the last of them names
unfoldable pub chain : ℕ → List ℕ → ℕ → List Record
chain zero t slot = []
chain (suc n) t slot = record_in t slot ∷ chain n t (next_in t slot)

unfoldable pub chain_end : ℕ → List ℕ → ℕ → ℕ
chain_end zero t slot = slot
chain_end (suc n) t slot = chain_end n t (next_in t slot)

-- the cells of a table, in the order of its chain
abbrev pub records_in : List ℕ → List Record
records_in t = chain (cells_in t) t (first_in t)
