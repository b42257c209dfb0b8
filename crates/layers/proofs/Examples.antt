-- Worked by computation: two inside cells that overlap, each two tick squares in one layer, and the report of the layer below them and of that one.
-- Assumes nothing.
use mathlib.Core.Path.{◌≡◌, refl}
use mathlib.Core.List.{List, [], ◌∷◌, ◌++◌}
use Prim.Native.Nat.{ℕ}
use lib.IntN.{pos, negsuc}
use lib.ListN.{replicate}
use Rattle.tree.specs.Box.{volume, area_at}
use Rattle.table.specs.Table.{Record, word4, word8, head_bytes, state_word, cell_bytes}
use Rattle.table.specs.Read.{chain, chain_end, record_in}
use Rattle.table.specs.Words.{bytes_of}
use Rattle.sound.specs.Slots.{slots_in, times, each_once}
use Rattle.sound.specs.Sound.{keeps_limits, sound_cell, sound_cells, volumes, sound_of}
use Rattle.layers.specs.Layers.{area_in, areas, report_of, layers_number, layers_report}

abbrev cell : Record
cell = record { state = 1; depth = 0; box = record { lx = negsuc 1; ly = pos 0; lz = pos 0; hx = pos 0; hy = pos 1; hz = pos 1 } }

abbrev table : List ℕ
table = head_bytes (record { first = 1; cells = 2; evaluated = 3; solid = 4; «open» = 0 }) ++ cell_bytes 2 cell ++ cell_bytes 0 cell

-- 50 bytes are lent, and 48 are the report's
overlap : layers_report table (negsuc 0) (pos 1) (replicate 50 9) ≡ replicate 24 0 ++ (4 ∷ []) ++ replicate 23 0 ++ (9 ∷ 9 ∷ [])
unfolding layers_report layers_number report_of areas area_in area_at bytes_of sound_of keeps_limits sound_cell sound_cells volumes slots_in times
    each_once chain chain_end record_in head_bytes cell_bytes state_word word8 word4 volume
overlap = refl

-- 16 though 47 bytes are too few, and 17
out_of_limits : layers_number table (pos 1048575) (pos 1048577) 47 ≡ 16
unfolding layers_number sound_of keeps_limits sound_cell sound_cells volumes slots_in times each_once chain chain_end
    record_in head_bytes cell_bytes state_word word8 word4 volume
out_of_limits = refl

too_short : layers_number table (negsuc 0) (pos 1) 47 ≡ 17
unfolding layers_number sound_of keeps_limits sound_cell sound_cells volumes slots_in times each_once chain chain_end
    record_in head_bytes cell_bytes state_word word8 word4 volume
too_short = refl
