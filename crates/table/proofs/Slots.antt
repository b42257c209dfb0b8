-- The lengths of the table's slots. Assumes nothing.
use mathlib.Core.Path.{◌≡◌, refl, ◌∙◌}
use mathlib.Core.List.{List, [], ◌∷◌}
use Prim.Native.Nat.{ℕ, suc, ◌*◌}
use native.Mathlib.Omega.{arith}
use lib.ListN.{length, length-append}
use Rattle.table.specs.declared.Head.{Head}
use Rattle.table.specs.Table.{Record, head_bytes, state_word, cell_bytes, next_slot, cells_bytes}
use Rattle.table.proofs.Words.{length_word4, length_word8}

pub length_head : (h : Head) → length (head_bytes h) ≡ 32
unfolding head_bytes
length_head h = simp (length-append, length_word4, length_word8)

pub length_state : (state depth : ℕ) → length (state_word state depth) ≡ 4
unfolding state_word
length_state state depth = refl

pub length_cell : (next : ℕ) (m : Record) → length (cell_bytes next m) ≡ 32
unfolding cell_bytes
length_cell next m = simp (length-append, length_word4, length_state)

pub length_cells_bytes : (total slot : ℕ) (ms : List Record) → length (cells_bytes total slot ms) ≡ 32 * length ms
unfolding cells_bytes
length_cells_bytes total slot [] = refl
length_cells_bytes total slot (m ∷ ms) =
    length-append (cell_bytes (next_slot total slot) m) (cells_bytes total (suc slot) ms)
    ∙ omega (arith, length_cell (next_slot total slot) m, length_cells_bytes total (suc slot) ms)
