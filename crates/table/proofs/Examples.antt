-- Worked by computation: a table of three slots and four spare bytes, for a box that is halved once on x. Assumes nothing.
use mathlib.Core.Path.{◌≡◌, refl}
use mathlib.Core.List.{List, [], ◌∷◌, ◌++◌}
use Prim.Native.Nat.{ℕ}
use lib.IntN.{pos, negsuc}
use Rattle.table.specs.declared.Head.{Head}
use Rattle.table.specs.Table.{Record, word4, word8, head_bytes, state_word, cell_bytes, cells_bytes, table_bytes}
use Rattle.table.specs.Read.{head_in, records_in, chain, record_in}

lower : Record
lower = record { state = 1; depth = 1; box = record { lx = negsuc 1; ly = pos 0; lz = pos 0; hx = negsuc 0; hy = pos 1; hz = pos 1 } }

upper : Record
upper = record { state = 3; depth = 1; box = record { lx = negsuc 0; ly = pos 0; lz = pos 0; hx = pos 0; hy = pos 1; hz = pos 1 } }

bytes : List ℕ
bytes =
    (1 ∷ 0 ∷ 0 ∷ 0 ∷ 2 ∷ 0 ∷ 0 ∷ 0 ∷ 3 ∷ 0 ∷ 0 ∷ 0 ∷ 1 ∷ 0 ∷ 0 ∷ 0 ∷ [])
    ++ (0 ∷ 0 ∷ 0 ∷ 0 ∷ 1 ∷ 0 ∷ 0 ∷ 0 ∷ 0 ∷ 0 ∷ 0 ∷ 0 ∷ 0 ∷ 0 ∷ 0 ∷ 0 ∷ [])
    ++ (2 ∷ 0 ∷ 0 ∷ 0 ∷ 1 ∷ 1 ∷ 0 ∷ 0 ∷ 254 ∷ 255 ∷ 255 ∷ 255 ∷ 0 ∷ 0 ∷ 0 ∷ 0 ∷ [])
    ++ (0 ∷ 0 ∷ 0 ∷ 0 ∷ 255 ∷ 255 ∷ 255 ∷ 255 ∷ 1 ∷ 0 ∷ 0 ∷ 0 ∷ 1 ∷ 0 ∷ 0 ∷ 0 ∷ [])
    ++ (0 ∷ 0 ∷ 0 ∷ 0 ∷ 3 ∷ 1 ∷ 0 ∷ 0 ∷ 255 ∷ 255 ∷ 255 ∷ 255 ∷ 0 ∷ 0 ∷ 0 ∷ 0 ∷ [])
    ++ (0 ∷ 0 ∷ 0 ∷ 0 ∷ 0 ∷ 0 ∷ 0 ∷ 0 ∷ 1 ∷ 0 ∷ 0 ∷ 0 ∷ 1 ∷ 0 ∷ 0 ∷ 0 ∷ [])
    ++ (0 ∷ 0 ∷ 0 ∷ 0 ∷ [])

head : Head
head = record { first = 1; cells = 2; evaluated = 3; solid = 1; «open» = 1 }

written_bytes : table_bytes 100 head (lower ∷ upper ∷ []) ≡ bytes
unfolding table_bytes head_bytes cells_bytes cell_bytes state_word word8 word4 head lower upper bytes
written_bytes = refl

read_head : head_in bytes ≡ head
unfolding head bytes
read_head = refl

read_cells : records_in bytes ≡ lower ∷ upper ∷ []
unfolding chain record_in lower upper bytes
read_cells = refl
