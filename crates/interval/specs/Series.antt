-- "Series have nine terms, through 1/17! and 1/16!; tails are (4/5)^19/19! and (4/5)^18/18!, nearest double stepped up."
-- The exact fractions, and the intervals and doubles that they become. Definitions only; assumes nothing.
use Rattle.std.specs.Prelude.{ℕ, zero, suc, ◌+◌, ◌*◌, ◌^◌, ◌<◌, List, [], ◌∷◌, ℤ, pos, neg_ℤ, Float}
use Rattle.std.proofs.Common.{mul-pos, zero-lt-suc, lit<}
use Rattle.std.proofs.Math.Nat.{one-le-pow}
use Rattle.exact.specs.Fraction.{Fraction, ratio}
use Rattle.interval.specs.declared.Interval.{Interval}
use Rattle.interval.specs.Step.{next_up}
use Rattle.interval.specs.Nearest.{nearest, from_rational}

abbrev pub factorial : ℕ → ℕ
factorial zero = 1
factorial (suc n) = suc n * factorial n

pub factorial_pos : (n : ℕ) → 0 < factorial n
factorial_pos zero = lit< tt
factorial_pos (suc n) = mul-pos (zero-lt-suc n) (factorial_pos n)

-- 1, -1, 1, ..
abbrev pub alternating : ℕ → ℤ
alternating zero = pos 1
alternating (suc i) = neg_ℤ (alternating i)

-- the coefficient of u²ⁱ in sin u / u, and in cos u
abbrev pub sine_term : ℕ → Fraction
sine_term i = ratio (alternating i) (factorial (i + i + 1)) (factorial_pos (i + i + 1))

abbrev pub cosine_term : ℕ → Fraction
cosine_term i = ratio (alternating i) (factorial (i + i)) (factorial_pos (i + i))

-- a term as an interval, and the first nine
abbrev pub term : (ℕ → Fraction) → ℕ → Interval
term f i = from_rational (f i).num (f i).den

abbrev pub nine : (ℕ → Fraction) → List Interval
nine f = term f 0 ∷ term f 1 ∷ term f 2 ∷ term f 3 ∷ term f 4 ∷ term f 5 ∷ term f 6 ∷ term f 7 ∷ term f 8 ∷ []

-- (4/5)^n / n!, and its "nearest double stepped up"
abbrev pub tail : ℕ → Fraction
tail n = ratio (pos (4 ^ n)) (5 ^ n * factorial n) (mul-pos (one-le-pow n 5 (zero-lt-suc 4)) (factorial_pos n))

abbrev pub tail_up : ℕ → Float
tail_up n = next_up (nearest (tail n).num (tail n).den)

-- ---- a term as its nearest double, and the first nine: what `fast_distance` reads
abbrev pub near_term : (ℕ → Fraction) → ℕ → Float
near_term f i = nearest (f i).num (f i).den

abbrev pub nine_nearest : (ℕ → Fraction) → List Float
nine_nearest f = near_term f 0 ∷ near_term f 1 ∷ near_term f 2 ∷ near_term f 3 ∷ near_term f 4 ∷ near_term f 5 ∷ near_term f 6 ∷ near_term f 7 ∷ near_term f 8 ∷ []
