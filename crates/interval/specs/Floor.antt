-- The floor, the quarter number that rests on it and its remainder by 4. proofs/FloorLaws.antt shows that `floor` is what the word says.
-- Definitions only; assumes nothing.
use Rattle.std.specs.Prelude.{ℕ, ◌+◌, ◌-◌, ◌*◌, ◌/◌, ◌%◌, true, false, ℤ, pos, negsuc, neg_ℤ, Float}
use Rattle.std.specs.Float.{nan, inf, fin, binary64}
use Rattle.std.specs.Float.Ieee.{add, mul, up, down}
use Rattle.interval.specs.Step.{b64}

-- the greatest whole number that is at most x, where x is finite: below zero its size is rounded up
abbrev pub floor : Float → ℤ
floor nan = pos 0
floor (inf s) = pos 0
floor (fin false m e) = pos (m * up e / down e)
floor (fin true m e) = neg_ℤ (pos ((m * up e + (down e - 1)) / down e))

-- "Its quarter number is the floor of mid × 4 + 0.5", of a turn t
unfoldable pub quarter_number : Float → ℤ
quarter_number t = floor (add binary64 (mul binary64 t (b64 0x4010_0000_0000_0000)) (b64 0x3fe0_0000_0000_0000))

-- q mod 4, from 0 to 3
abbrev pub mod_four : ℤ → ℕ
mod_four (pos n) = n % 4
mod_four (negsuc n) = 3 - n % 4
