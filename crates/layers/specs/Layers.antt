-- THE LAYER REPORT: document 02's L5, its words in quotes: what the call returns and what it leaves, for any input. Definitions only; assumes
-- nothing.
use Rattle.std.specs.Prelude.{◌≡◌, cond, not, List, [], ◌∷◌, ◌++◌, ℕ, zero, suc, ◌+◌, ◌*◌, ◌≤◌, ◌<◌, eqb, ltb, ℤ, pos, nat_abs, ◌+ℤ◌, ◌-ℤ◌, length, drop}
use Rattle.limits.specs.Refusals.{refused, ◌or_else◌}
use Rattle.limits.specs.Ticks.{side}
use Rattle.tree.specs.Box.{area_at}
use Rattle.table.specs.Table.{Record}
use Rattle.table.specs.Read.{u64_at, records_in}
use Rattle.table.specs.Words.{bytes_of}
use Rattle.sound.specs.Sound.{sound_of}

-- "the tick squares in inside, outside and unsettled cells": in the cells of a state, in the layer between z and z + 1; "overlapping cells each
-- count in full"
unfoldable pub area_in : ℕ → ℤ → List Record → ℕ
area_in state z [] = 0
area_in state z (m ∷ ms) = cond (eqb state m.state) (area_at z m.box) 0 + area_in state z ms

-- "the area of the cells crossing that layer"
unfoldable pub crossing : ℤ → List Record → ℕ
crossing z [] = 0
crossing z (m ∷ ms) = area_at z m.box + crossing z ms

-- "a run of tick layers in z": the layers low to high − 1
abbrev pub layers_in : ℤ → ℤ → ℕ
layers_in low high = nat_abs (high -ℤ low)

-- "for each layer .. three": of n layers from z on
unfoldable pub areas : ℕ → ℤ → List Record → List ℕ
areas zero z ms = []
areas (suc n) z ms = area_in 1 z ms ∷ area_in 2 z ms ∷ area_in 3 z ms ∷ areas n (z +ℤ pos 1) ms

-- "as three u64, little endian; later bytes stay": in a buffer with the bytes r
unfoldable pub report_of : List Record → ℕ → ℤ → List ℕ → List ℕ
report_of ms n z r = bytes_of (areas n z ms) ++ drop (24 * n) r

-- "15, the table isn't sound; 16, the layer run is empty or leaves the coordinate limits; 17, the report buffer holds fewer than 24 bytes a layer.
-- They are tested in this order": of a buffer of `len` bytes
unfoldable pub layers_number : List ℕ → ℤ → ℤ → ℕ → ℕ
layers_number t low high len =
    refused (not (sound_of t)) 15 or_else
    refused (not (side low high)) 16 or_else
    refused (ltb len (24 * layers_in low high)) 17

-- "and the report buffer is then unchanged"
unfoldable pub layers_report : List ℕ → ℤ → ℤ → List ℕ → List ℕ
layers_report t low high r = cond (eqb (layers_number t low high (length r)) 0) (report_of (records_in t) (layers_in low high) low r) r

-- ---- what the bytes of a report say, read number by number, of the k-th layer
pub record Reported (t : List ℕ) (low high : ℤ) (r : List ℕ) : Type 0 where
  -- they are the areas of the three states, so that no sum wraps;
  pub reads : (k s : ℕ) → k < layers_in low high → s < 3 → u64_at r (24 * k + 8 * s) ≡ area_in (suc s) (low +ℤ pos k) (records_in t)
  -- "The three add up to the area of the cells crossing that layer",
  pub three : (k : ℕ) → k < layers_in low high → u64_at r (24 * k) + u64_at r (24 * k + 8) + u64_at r (24 * k + 16) ≡ crossing (low +ℤ pos k) (records_in t)
  -- at most 2^63
  pub most : (k : ℕ) → k < layers_in low high → crossing (low +ℤ pos k) (records_in t) ≤ 9223372036854775808
