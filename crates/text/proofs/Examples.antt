-- Lines that are read and lines that are not, numbers in decimal, and document 01's listing, worked by computation. Assumes nothing.
use mathlib.Core.Path.{◌≡◌, refl, ap, ◌∙◌}
use mathlib.Core.List.{List, [], ◌∷◌, ◌++◌}
use Prim.Native.Nat.{ℕ}
use native.Mathlib.Omega.{arith}
use lib.IntN.{ℤ, pos, negsuc}
use lib.ListN.{get_or}
use Rattle.table.specs.declared.Head.{Head}
use Rattle.table.specs.Table.{Record}
use Rattle.table.specs.Told.{Told}
use Rattle.text.specs.Ascii.{ascii}
use Rattle.std.specs.Prelude.{Some, None}
use Rattle.text.specs.Line.{digits_at, number_at, line_from, line_of}
use Rattle.text.specs.Decimal.{digits_within, decimal, signed_decimal}
use Rattle.text.specs.Listing.{refused_text, head_line, corner_text, cell_line, cell_lines, listing}
use Rattle.text.specs.Appended.{Appended}
use Rattle.text.proofs.FitLaws.{listing_told}

abbrev numbers : List ℕ → List ℤ
numbers [] = []
numbers (n ∷ ns) = pos n ∷ numbers ns

-- ---- what is read
document_line : line_of (ascii "10240 0 0 0 0 0 0 0 2048 0 0 0 0 1024 1024 1024 1\n")
    ≡ Some (numbers (10240 ∷ 0 ∷ 0 ∷ 0 ∷ 0 ∷ 0 ∷ 0 ∷ 0 ∷ 2048 ∷ 0 ∷ 0 ∷ 0 ∷ 0 ∷ 1024 ∷ 1024 ∷ 1024 ∷ 1 ∷ []))
unfolding line_of line_from number_at digits_at
document_line = refl

-- a minus before 0, zeros in front, seven digits
zeros_and_signs : line_of (ascii "-0 0001024 -0000000 0 0 0 0 0 -9999999 0 0 0 0 1024 1024 1024 9999999\n")
    ≡ Some
    (pos 0 ∷ pos 1024 ∷ pos 0 ∷ pos 0 ∷ pos 0 ∷ pos 0 ∷ pos 0 ∷ pos 0 ∷ negsuc 9999998 ∷ numbers
    (0 ∷ 0 ∷ 0 ∷ 0 ∷ 1024 ∷ 1024 ∷ 1024 ∷ 9999999 ∷ []))
unfolding line_of line_from number_at digits_at
zeros_and_signs = refl

-- ---- what is not
no_newline : line_of (ascii "1 2 3 4 5 6 7 8 9 10 11 12 13 14 15 16 17") ≡ None
unfolding line_of line_from number_at digits_at
no_newline = refl

byte_after : line_of (ascii "1 2 3 4 5 6 7 8 9 10 11 12 13 14 15 16 17\n\n") ≡ None
unfolding line_of line_from number_at digits_at
byte_after = refl

carriage_return : line_of (ascii "1 2 3 4 5 6 7 8 9 10 11 12 13 14 15 16 17\r\n") ≡ None
unfolding line_of line_from number_at digits_at
carriage_return = refl

eight_digits : line_of (ascii "00000001 2 3 4 5 6 7 8 9 10 11 12 13 14 15 16 17\n") ≡ None
unfolding line_of line_from number_at digits_at
eight_digits = refl

two_spaces : line_of (ascii "1  2 3 4 5 6 7 8 9 10 11 12 13 14 15 16 17\n") ≡ None
unfolding line_of line_from number_at digits_at
two_spaces = refl

space_before : line_of (ascii " 1 2 3 4 5 6 7 8 9 10 11 12 13 14 15 16 17\n") ≡ None
unfolding line_of line_from number_at digits_at
space_before = refl

plus : line_of (ascii "+1 2 3 4 5 6 7 8 9 10 11 12 13 14 15 16 17\n") ≡ None
unfolding line_of line_from number_at digits_at
plus = refl

minus_alone : line_of (ascii "1 - 3 4 5 6 7 8 9 10 11 12 13 14 15 16 17\n") ≡ None
unfolding line_of line_from number_at digits_at
minus_alone = refl

sixteen_numbers : line_of (ascii "1 2 3 4 5 6 7 8 9 10 11 12 13 14 15 16\n") ≡ None
unfolding line_of line_from number_at digits_at
sixteen_numbers = refl

empty : line_of [] ≡ None
unfolding line_of line_from number_at digits_at
empty = refl

-- ---- what is printed
a_volume : decimal 536870912 ≡ ascii "536870912"
unfolding decimal digits_within
a_volume = refl

a_zero : decimal 0 ≡ ascii "0"
unfolding decimal digits_within
a_zero = refl

below_zero : signed_decimal (negsuc 1048575) ≡ ascii "-1048576"
unfolding signed_decimal decimal digits_within
below_zero = refl

refused-13 : refused_text 13 ≡ ascii "refused 13\n"
unfolding refused_text decimal digits_within
refused-13 = refl

-- ---- how it is written: a writer that touches a byte behind its text breaks its promise
byte_behind : (p : ℕ × ℕ) (g : ℕ) → Appended (record { out = record { ref_ptr = p; ghost_name = g; now = 0 ∷ 0 ∷ [] }; at = 0 }) (7 ∷ [])
    (record { out = record { ref_ptr = p; ghost_name = g; now = 7 ∷ 255 ∷ [] }; at = 1 }) → ⊥
byte_behind p g a = differ (ap (λ (l : List ℕ). get_or l 1 0) a.written)
  where
    differ : ◌≡◌ {A = ℕ} 255 0 → ⊥
    differ e = omega arith

-- document 01's cells
cells : List Record
cells =
    record { state = 1; depth = 1; box = record { lx = pos 0; ly = pos 0; lz = pos 0; hx = pos 512; hy = pos 1024; hz = pos 1024 } }
    ∷ record { state = 3; depth = 1; box = record { lx = pos 512; ly = pos 0; lz = pos 0; hx = pos 1024; hy = pos 1024; hz = pos 1024 } }
    ∷ []

head : Head
head = record { first = 1; cells = 2; evaluated = 3; solid = 536870912; «open» = 536870912 }

lines : head_line head ++ cell_lines cells
    ≡ ascii "2 3 536870912 536870912\n1 0 0 0 512 1024 1024\n3 512 0 0 1024 1024 1024\n"
unfolding cells head head_line cell_lines cell_line corner_text signed_decimal decimal digits_within
lines = refl

document_listing : (t : List ℕ) → Told t head cells
    → listing t ≡ ascii "2 3 536870912 536870912\n1 0 0 0 512 1024 1024\n3 512 0 0 1024 1024 1024\n"
unfolding cells head
document_listing t h = listing_told t head cells h ∙ lines
