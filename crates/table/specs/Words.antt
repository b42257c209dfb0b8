-- A LIST OF NUMBERS AS BYTES, each a u64, "little endian". Definitions only; assumes nothing.
use Rattle.std.specs.Prelude.{List, [], ◌∷◌, ◌++◌, ℕ}
use Rattle.table.specs.Table.{word8}

unfoldable pub bytes_of : List ℕ → List ℕ
bytes_of [] = []
bytes_of (w ∷ ws) = word8 w ++ bytes_of ws
