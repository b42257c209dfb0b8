-- A SOUND TABLE: document 02's L5, its words in quotes, clause by clause. Definitions only; assumes nothing.
use Rattle.std.specs.Prelude.{Bool, true, ◌&&◌, List, [], ◌∷◌, ℕ, ◌+◌, ◌*◌, eqb, leb, length}
use Rattle.limits.specs.Ticks.{side}
use Rattle.tree.specs.Box.{Box, volume}
use Rattle.table.specs.Table.{Record}
use Rattle.table.specs.Read.{first_in, cells_in, records_in, chain_end}
use Rattle.sound.specs.Slots.{slots_in, one_to, each_once}

-- "boxes keep the coordinate limits with spans of 1 or more"
unfoldable pub keeps_limits : Box → Bool
keeps_limits b = side b.lx b.hx && side b.ly b.hy && side b.lz b.hz

-- ---- "A table is sound if it records at least one cell,
abbrev pub records_some : List ℕ → Bool
records_some t = leb 1 (cells_in t)

-- its chain from slot 0 visits exactly the slots 1 to the recorded number of cells, each once
abbrev pub visits_each : List ℕ → Bool
visits_each t = each_once (cells_in t) (slots_in (cells_in t) t (first_in t))

-- and inside the buffer,
abbrev pub inside_buffer : List ℕ → Bool
inside_buffer t = leb (32 * (cells_in t + 1)) (length t)

-- the last with next zero,
abbrev pub ends_in_zero : List ℕ → Bool
ends_in_zero t = eqb (chain_end (cells_in t) t (first_in t)) 0

-- if states are 1 to 3, depths are at most 24, boxes keep the coordinate limits with spans of 1 or more,
unfoldable pub sound_cell : Record → Bool
sound_cell m = one_to 3 m.state && leb m.depth 24 && keeps_limits m.box

unfoldable pub sound_cells : List Record → Bool
sound_cells [] = true
sound_cells (m ∷ ms) = sound_cell m && sound_cells ms

-- and their volumes add up to at most 2^63." "In all sums over a table overlapping cells each count in full."
unfoldable pub volumes : List Record → ℕ
volumes [] = 0
volumes (m ∷ ms) = volume m.box + volumes ms

-- "No other property is tested."
unfoldable pub sound_of : List ℕ → Bool
sound_of t =
    records_some t && visits_each t && inside_buffer t && ends_in_zero t && sound_cells (records_in t)
    && leb (volumes (records_in t)) 9223372036854775808
