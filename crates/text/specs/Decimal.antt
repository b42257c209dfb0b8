-- A NUMBER IN DECIMAL, as bytes in ASCII. Definitions only; assumes nothing.
use Rattle.std.specs.Prelude.{true, false, cond, List, [], ◌∷◌, ◌++◌, ℕ, zero, suc, ◌+◌, ◌/◌, ◌%◌, ltb, ℤ, pos, nat_abs}
use Rattle.std.specs.Int.Signed.{lt_z}
use Rattle.text.specs.Ascii.{minus, nought}

-- the digits of a number that has `most` at most, the most significant first
unfoldable pub digits_within : ℕ → ℕ → List ℕ
digits_within zero n = []
digits_within (suc most) n = elim (ltb n 10) [ true ↦ (nought + n) ∷ [] | false ↦ digits_within most (n / 10) ++ ((nought + n % 10) ∷ []) ]

-- n has n + 1 digits at most
unfoldable pub decimal : ℕ → List ℕ
decimal n = digits_within (suc n) n

-- with a minus before a number below 0
unfoldable pub signed_decimal : ℤ → List ℕ
signed_decimal z = cond (lt_z z (pos 0)) (minus ∷ decimal (nat_abs z)) (decimal (nat_abs z))
