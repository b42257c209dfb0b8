-- WHAT ONE CELL DOES TO THE BYTES OF A REPORT, as the code's own functions say it. Definitions only; assumes nothing.
use Rattle.std.specs.Prelude.{List, ℕ, zero, suc, ◌+◌, ◌-◌, ◌*◌, ◌<◌}
use Rattle.std.proofs.lemmas.List.Edits.{sets}
use Rattle.table.specs.Table.{word8}
use Rattle.table.specs.Read.{u64_at}

-- v more in a column of the layer k
abbrev pub raised : ℕ → ℕ → ℕ → List ℕ → List ℕ
raised k column v r = sets r (24 * k + 8 * column) (word8 (u64_at r (24 * k + 8 * column) + v))

-- and of m layers from k on
unfoldable pub added_to : ℕ → ℕ → ℕ → ℕ → List ℕ → List ℕ
added_to zero k column v r = r
added_to (suc m) k column v r = added_to m (suc k) column v (raised k column v r)

-- no sum on the way passes 64 bits
unfoldable pub Fitting : ℕ → ℕ → ℕ → ℕ → List ℕ → Type 0
Fitting zero k column v r = Unit {0}
Fitting (suc m) k column v r = (u64_at r (24 * k + 8 * column) + v < 18446744073709551616) × Fitting m (suc k) column v (raised k column v r)

-- how many of n layers from low on lie below z
abbrev pub layers_below : ℕ → ℕ → ℕ → ℕ
layers_below z low n = n - (n - (z - low))
