-- The quarters of a turn are at most eight times as large; so those of a turn below 2 ^ 50 have a floor that is found. Assumes nothing.
use Rattle.std.proofs.Common.{ℕ, suc, ◌+◌, ◌≤◌, T, leb, zero-le, arith, lit≤, leb→le}
use lib.Ieee.{Float, binary64, add, mul, of_bits}
use Rattle.interval.specs.Step.{b64}
use Rattle.interval.specs.Encloses.{Small}
use Rattle.interval.proofs.Small.{small_more}
use Rattle.interval.proofs.Candidates.{sum_candidate, product_candidate}

abbrev four : Float
four = b64 0x4010_0000_0000_0000

abbrev half : Float
half = b64 0x3fe0_0000_0000_0000

four_small : Small 2 four
unfolding of_bits
four_small = lit≤ tt

half_small : Small 0 half
unfolding of_bits
half_small = lit≤ tt

pub quarter_small : (k : ℕ) (t : Float) → T (leb (suc (k + 2)) 1022) → Small k t → Small (suc (k + 2)) (add binary64 (mul binary64 t four) half)
quarter_small k t u h =
    let K = leb→le (suc (k + 2)) 1022 u in
    (sum_candidate (k + 2) K (mul binary64 t four) half (product_candidate k 2 (less (k + 2) K) t four h four_small).small (small_more 0 (k + 2) half zero-le half_small)).small
  where
    less : (n : ℕ) → suc n ≤ 1022 → n ≤ 1022
    less n h = omega arith
