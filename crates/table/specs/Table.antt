-- THE TABLE'S BYTES: document 01's "The walk (added)" and document 02's L4, their words in quotes: "The table is slots of 32 bytes, little
-- endian." A byte is a whole number below 256. Definitions only; assumes nothing.
use Rattle.std.specs.Prelude.{cond, List, [], ◌∷◌, ◌++◌, ℕ, suc, ◌+◌, ◌-◌, ◌*◌, ◌/◌, ◌%◌, eqb, ℤ, pos, negsuc, length, replicate}
use Rattle.tree.specs.Box.{Box}
use Rattle.table.specs.declared.Head.{Head}

-- a u32 and a u64
unfoldable pub word4 : ℕ → List ℕ
word4 x = x % 256 ∷ x / 256 % 256 ∷ x / 65536 % 256 ∷ x / 16777216 % 256 ∷ []

unfoldable pub word8 : ℕ → List ℕ
word8 x = word4 (x % 4294967296) ++ word4 (x / 4294967296)

-- the 32 bits of an i32, as a u32
abbrev pub bits : ℤ → ℕ
bits (pos n) = n
bits (negsuc n) = 4294967295 - n

-- a cell's record but for the slot that it names: the cell's state ("1 inside, 2 outside, 3 unsettled"), its depth, its "three lows, three highs"
pub record Record : Type 0 where
  pub state : ℕ
  pub depth : ℕ
  pub box : Box

-- "Slot 0: first cell (u32, 1), cells (u32), evaluated (u32), solid volume (u64), open volume (u64), zeros."
unfoldable pub head_bytes : Head → List ℕ
head_bytes h = word4 h.first ++ word4 h.cells ++ word4 h.evaluated ++ word8 h.solid ++ word8 h.«open» ++ replicate 4 0

-- L4: "The state word becomes four bytes: state, depth, and two zeros."
unfoldable pub state_word : ℕ → ℕ → List ℕ
state_word state depth = state % 256 ∷ depth % 256 ∷ replicate 2 0

-- "A cell: next slot (u32, zero ends the chain)", the state word, "three lows, three highs (i32)."
unfoldable pub cell_bytes : ℕ → Record → List ℕ
cell_bytes next m =
    word4 next ++ state_word m.state m.depth
    ++ (word4 (bits m.box.lx) ++ word4 (bits m.box.ly) ++ word4 (bits m.box.lz))
    ++ (word4 (bits m.box.hx) ++ word4 (bits m.box.hy) ++ word4 (bits m.box.hz))

-- the slot after `slot`, or zero after the last of `total` cells
abbrev pub next_slot : ℕ → ℕ → ℕ
next_slot total slot = cond (eqb slot total) 0 (slot + 1)

-- "Cells fill slots 1, 2, ... in walk order": the slots of a list of cells from `slot` on
unfoldable pub cells_bytes : ℕ → ℕ → List Record → List ℕ
cells_bytes total slot [] = []
cells_bytes total slot (m ∷ ms) = cell_bytes (next_slot total slot) m ++ cells_bytes total (suc slot) ms

-- a table of `len` bytes; "all later bytes are zero"
unfoldable pub table_bytes : ℕ → Head → List Record → List ℕ
table_bytes len h ms = head_bytes h ++ cells_bytes (length ms) 1 ms ++ replicate (len - 32 * (length ms + 1)) 0
