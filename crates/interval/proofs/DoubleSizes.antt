-- Sizes of single doubles: a product's, a middle's, a fraction's nearest; and of a floor and a quarter number. A rounding and a floor keep a
-- bound 2 ^ k. Assumes nothing.
use Rattle.std.proofs.Common.{ℕ, suc, ◌+◌, ◌-◌, ◌*◌, ◌/◌, ◌^◌, ◌<◌, ◌≤◌, true, false, T, leb, ℤ, pos, nat_abs, subst, add-zero, div-lt_iff_lt-mul, arith, lit≤, leb→le}
use lib.Ieee.{Float, nan, inf, fin, binary64, add, mul, of_bits, up, down}
use lib.Ieee.Fits.{down_pos}
use Rattle.exact.specs.Fraction.{ratio}
use Rattle.exact.specs.Within.{Within}
use Rattle.exact.proofs.Size.{within_neg}
use Rattle.interval.specs.declared.Interval.{Interval}
use Rattle.interval.specs.Step.{b64}
use Rattle.interval.specs.Interval.{mid}
use Rattle.interval.specs.Nearest.{nearest}
use Rattle.interval.specs.Floor.{floor, quarter_number}
use Rattle.interval.specs.Encloses.{Small}
use Rattle.interval.proofs.Rounding.{rounds_fits}
use Rattle.interval.proofs.Small.{abs_ratio}
use Rattle.interval.proofs.Operations.{nearest_rounds}
use Rattle.interval.proofs.QuarterCode.{quarter_small}
use Rattle.interval.proofs.Candidates.{candidate, sum_candidate, product_candidate}

pub product_small : (j k : ℕ) (x y : Float) → T (leb (j + k) 1022) → Small j x → Small k y → Small (j + k) (mul binary64 x y)
product_small j k x y t a b = (product_candidate j k (leb→le (j + k) 1022 t) x y a b).small

abbrev half : Float
half = b64 0x3fe0_0000_0000_0000

half_small : Small 0 half
unfolding of_bits
half_small = lit≤ tt

pub mid_small : (k : ℕ) (X : Interval) → T (leb (suc k) 1022) → T (leb (k + 0) 1022) → Small k X.lo → Small k X.hi → Small (suc k) (mid X)
unfolding mid
mid_small k X t u a b = (sum_candidate k (leb→le (suc k) 1022 t) (mul binary64 X.lo half) (mul binary64 X.hi half) (halved X.lo a) (halved X.hi b)).small
  where
    halved : (x : Float) → Small k x → Small k (mul binary64 x half)
    halved x h = subst (λ (n : ℕ). Small n (mul binary64 x half)) (add-zero k) (product_small k 0 x half u h half_small)

pub nearest_small : (k : ℕ) (z : ℤ) (d : ℕ) → T (leb k 1022) → 0 < d → nat_abs z ≤ 2 ^ k * d → Small k (nearest z d)
nearest_small k z d t D h =
    let r = nearest_rounds z d D in
    (candidate k (leb→le k 1022 t) r (rounds_fits r) (abs_ratio k (ratio z d D) h)).small

-- ---- the floor keeps a bound 2 ^ k, and the quarter number with it
div_most : (p n d : ℕ) → 0 < d → n < (p + 1) * d → n / d ≤ p
div_most p n d D h = less (n / d) ((div-lt_iff_lt-mul D).1 h)
  where
    less : (m : ℕ) → m < p + 1 → m ≤ p
    less m h = omega arith

pub floor_small : (k : ℕ) (x : Float) → Small k x → Within (2 ^ k) (floor x)
floor_small k nan h = absurd h
floor_small k (inf s) h = absurd h
floor_small k (fin false m e) h = record { abs = div_most (2 ^ k) (m * up e) (down e) (down_pos e) (room (2 ^ k) (m * up e) (down e) (down_pos e) h) }
  where
    room : (p a d : ℕ) → 0 < d → a ≤ p * d → a < (p + 1) * d
    room p a d D h = omega arith
floor_small k (fin true m e) h = within_neg {a = pos ((m * up e + (down e - 1)) / down e)} (record { abs = div_most (2 ^ k) (m * up e + (down e - 1)) (down e) (down_pos e) (room (2 ^ k) (m * up e) (down e) (down_pos e) h) })
  where
    room : (p a d : ℕ) → 0 < d → a ≤ p * d → a + (d - 1) < (p + 1) * d
    room p a d D h = omega arith

pub quarter_within : (k : ℕ) (t : Float) → T (leb (suc (k + 2)) 1022) → Small k t → Within (2 ^ suc (k + 2)) (quarter_number t)
unfolding quarter_number
quarter_within k t u h = floor_small (suc (k + 2)) (add binary64 (mul binary64 t (b64 0x4010_0000_0000_0000)) (b64 0x3fe0_0000_0000_0000)) (quarter_small k t u h)
