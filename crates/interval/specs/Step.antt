-- "The next double above" and "the next double below": IEEE 754's nextUp and nextDown on binary64, by the bit pattern.
-- proofs/Rank.antt shows that they are what the words say: `next_above`, `next_above_greatest`, `next_below`. Definitions only; assumes nothing.
use Rattle.std.specs.Prelude.{ℕ, ◌+◌, ◌-◌, cond, ◌==◌, from_bits, is_nan, nat_lt, to_bits, Float}
use Rattle.std.specs.Float.{binary64}
use Rattle.std.specs.Float.Ieee.{neg}

-- the double with these bits
abbrev pub b64 : ℕ → Float
b64 n = from_bits binary64 n

-- the double above the one with the pattern n: the infinity stays, either zero goes to the least double above it, and any other
-- goes away from zero where its sign is clear and toward it where its sign is set
unfoldable pub up_from : ℕ → Float → Float
up_from n x =
    cond (n == 0x7ff0_0000_0000_0000) x
    (cond (n == 0) (b64 1)
    (cond (n == 0x8000_0000_0000_0000) (b64 1)
    (cond (nat_lt n 0x8000_0000_0000_0000) (b64 (n + 1)) (b64 (n - 1)))))

-- "the next double above" (`next_above`); above the greatest double stands the infinity (`next_above_greatest`), and a NaN stays
unfoldable pub next_up : Float → Float
unfolding up_from
next_up x = cond (is_nan x) x (up_from (to_bits binary64 x) x)

-- "the next double below" (`next_below`)
unfoldable pub next_down : Float → Float
unfolding next_up
next_down x = neg (next_up (neg x))
