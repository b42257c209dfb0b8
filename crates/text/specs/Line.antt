-- THE LINE THAT PROGRAM `cells` READS: document 01's words in quotes, "17 decimal numbers (a minus or none, 1 to 7 digits), single spaces,
-- newline, and no byte after it". A text is a list of bytes, in ASCII. Definitions only; assumes nothing.
use Rattle.std.specs.Prelude.{Bool, true, false, cond, ◌&&◌, List, [], ◌∷◌, ◌++◌, ℕ, zero, suc, ◌+◌, ◌-◌, ◌*◌, eqb, leb, ℤ, pos, neg_ℤ, length, get_or}
use Rattle.std.specs.Prelude.{Option, Some, None, option_and_then}
use Rattle.text.specs.Ascii.{minus, space, newline, nought, nine}
use Rattle.text.specs.declared.parse.Read.{Read}

-- the byte at an index; 0, which stands in no line, past the text's end
abbrev pub byte_at : List ℕ → ℕ → ℕ
byte_at t i = get_or t i 0

-- `0` to `9`
abbrev pub is_digit : ℕ → Bool
is_digit b = leb nought b && leb b nine

-- the digits from index i on, `most` at most, after digits of the value v: the value with them, and the index after them
unfoldable pub digits_at : ℕ → ℕ → List ℕ → ℕ → Read ℕ
digits_at zero v t i = record { value = v; next = i }
digits_at (suc most) v t i =
    cond (is_digit (byte_at t i))
    (digits_at most (10 * v + (byte_at t i - nought)) t (i + 1))
    (record { value = v; next = i })

-- "a minus or none"
abbrev pub with_minus : Bool → ℕ → ℤ
with_minus below v = cond below (neg_ℤ (pos v)) (pos v)

-- the digits from index i on, one at least, with their sign
abbrev pub some_digits : Bool → ℕ → Read ℕ → Option (Read ℤ)
some_digits below i d = cond (eqb d.next i) None (Some (record { value = with_minus below d.value; next = d.next }))

-- "a minus or none, 1 to 7 digits": an eighth digit is neither the space nor the newline that has to follow
unfoldable pub number_at : List ℕ → ℕ → Option (Read ℤ)
number_at t i =
    cond (eqb (byte_at t i) minus)
    (some_digits true (i + 1) (digits_at 7 0 t (i + 1)))
    (some_digits false i (digits_at 7 0 t i))

-- what stands after a number that `left` others follow: "single spaces, newline"
abbrev pub separator : ℕ → ℕ
separator left = cond (eqb left 0) newline space

-- the line that has the numbers `ns` and then, from index i on, so many others, "and no byte after it"
unfoldable pub line_from : ℕ → List ℤ → List ℕ → ℕ → Option (List ℤ)
line_from zero ns t i = cond (eqb i (length t)) (Some ns) None
line_from (suc left) ns t i =
    option_and_then
    (λ n. cond (eqb (byte_at t n.next) (separator left)) (line_from left (ns ++ (n.value ∷ [])) t (n.next + 1)) None)
    (number_at t i)

-- a line's numbers; none where the text is no line
unfoldable pub line_of : List ℕ → Option (List ℤ)
line_of t = line_from 17 [] t 0
