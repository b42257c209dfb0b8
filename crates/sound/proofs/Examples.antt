-- Worked by computation: tables of two cells, one whose chain starts in slot 2 and what is not sound beside it. Assumes nothing.
use mathlib.Core.Path.{◌≡◌, refl}
use mathlib.Core.Bool.{true, false}
use mathlib.Core.List.{List, ◌++◌}
use Prim.Native.Nat.{ℕ}
use lib.IntN.{pos, negsuc}
use Rattle.tree.specs.Box.{volume}
use Rattle.table.specs.Table.{Record, word4, word8, head_bytes, state_word, cell_bytes}
use Rattle.table.specs.Read.{chain, chain_end, record_in}
use Rattle.sound.specs.Slots.{slots_in, times, each_once}
use Rattle.sound.specs.Sound.{keeps_limits, sound_cell, sound_cells, volumes, sound_of}

-- a cell of one state and depth that is one tick cube, and one of the whole range
abbrev cube : ℕ → ℕ → Record
cube state depth = record { state = state; depth = depth; box = record { lx = negsuc 0; ly = pos 0; lz = pos 0; hx = pos 0; hy = pos 1; hz = pos 1 } }

abbrev whole : Record
whole = record {
  state = 3;
  depth = 0;
  box = record { lx = negsuc 1048575; ly = negsuc 1048575; lz = negsuc 1048575; hx = pos 1048576; hy = pos 1048576; hz = pos 1048576 };
}

-- slot 0, and the two cells with the slots that they name
abbrev table : ℕ → ℕ → Record → ℕ → Record → List ℕ
table first a m b n =
    head_bytes (record { first = first; cells = 2; evaluated = 7; solid = 7; «open» = 7 }) ++ cell_bytes a m ++ cell_bytes b n

from_second : sound_of (table 2 0 (cube 1 0) 1 (cube 3 24)) ≡ true
unfolding sound_of keeps_limits sound_cell sound_cells volumes slots_in times each_once chain chain_end record_in head_bytes cell_bytes state_word
    word8 word4 volume
from_second = refl

returns_to_a_slot : sound_of (table 1 1 (cube 1 0) 0 (cube 3 24)) ≡ false
unfolding sound_of keeps_limits sound_cell sound_cells volumes slots_in times each_once chain chain_end record_in head_bytes cell_bytes state_word
    word8 word4 volume
returns_to_a_slot = refl

too_deep : sound_of (table 2 0 (cube 1 0) 1 (cube 3 25)) ≡ false
unfolding sound_of keeps_limits sound_cell sound_cells volumes slots_in times each_once chain chain_end record_in head_bytes cell_bytes state_word
    word8 word4 volume
too_deep = refl

-- 2^64 tick cubes
twice_the_range : sound_of (table 2 0 whole 1 whole) ≡ false
unfolding sound_of keeps_limits sound_cell sound_cells volumes slots_in times each_once chain chain_end record_in head_bytes cell_bytes state_word
    word8 word4 volume
twice_the_range = refl
