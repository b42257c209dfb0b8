-- "An interval is two doubles, low ≤ high": its operations, each an expression of IEEE 754 operations on binary64. Document 01's words stand
-- in quotes. Definitions only; assumes nothing.
use Rattle.std.specs.Prelude.{Bool, cond, ◌&&◌, Float}
use Rattle.std.specs.Float.{binary64}
use Rattle.std.specs.Float.Ieee.{neg, add, sub, mul, div, lt, le}
use Rattle.std.specs.Float.Ieee.Scale.{finite}
use Rattle.exact.specs.Fraction.{Fraction, ◌+F◌, ◌-F◌, equal_f}
use Rattle.interval.specs.declared.Interval.{Interval}
use Rattle.interval.specs.Step.{b64, next_up, next_down}
use Rattle.interval.specs.Encloses.{value}

-- "low ≤ high". It fails where an end is a NaN or the low one is above the high one, and nowhere else (`le_is`); every operation keeps it
-- (proofs/Ordered.antt)
abbrev pub ordered : Interval → Bool
ordered x = le x.lo x.hi

-- an interval that is one double
abbrev pub point : Float → Interval
point x = record { lo = x; hi = x }

-- the lesser and the greater of two doubles. "Zeros of either sign are alike in all comparisons": of two zeros it is the first
abbrev pub least : Float → Float → Float
least a b = cond (lt b a) b a

abbrev pub greatest : Float → Float → Float
greatest a b = cond (lt a b) b a

-- "the least is stepped to the next double below and the greatest to the next above, always": of a product, a quotient and a fraction's own
-- interval; of a sum and a difference where document 02 (L2, below) does not except it
abbrev pub outward : Float → Float → Interval
outward low high = record { lo = next_down low; hi = next_up high }

-- "all four" candidates
abbrev pub least4 : Float → Float → Float → Float → Float
least4 a b c d = least (least a b) (least c d)

abbrev pub greatest4 : Float → Float → Float → Float → Float
greatest4 a b c d = greatest (greatest a b) (greatest c d)

abbrev pub around : Float → Float → Float → Float → Interval
around a b c d = outward (least4 a b c d) (greatest4 a b c d)

-- ---- the arithmetics: two, which differ in sums and differences alone
pub data Arithmetic : Type 0 where
  -- document 01's: an end is stepped "always"
  Wide : Arithmetic
  -- document 02's, L2: "A sum or difference whose rounded end equals the exact end is no longer stepped at that end."
  Narrow : Arithmetic

-- the double v equals the fraction q; no infinity and no NaN equals one
abbrev pub is_fraction : Float → Fraction → Bool
is_fraction v q = finite v && equal_f (value v) q

-- "whose rounded end equals the exact end"
unfoldable pub exact_sum : Float → Float → Bool
exact_sum x y = finite x && finite y && is_fraction (add binary64 x y) (value x +F value y)

unfoldable pub exact_difference : Float → Float → Bool
exact_difference x y = finite x && finite y && is_fraction (sub binary64 x y) (value x -F value y)

-- the low end v and the high end v, exact where e says so
abbrev pub step_down : Arithmetic → Bool → Float → Float
step_down Wide e v = next_down v
step_down Narrow e v = cond e v (next_down v)

abbrev pub step_up : Arithmetic → Bool → Float → Float
step_up Wide e v = next_up v
step_up Narrow e v = cond e v (next_up v)

-- both rounded ends, c and e saying whether the low and the high one are exact
abbrev pub stepped : Arithmetic → Float → Bool → Float → Bool → Interval
stepped ar low c high e = record { lo = step_down ar c low; hi = step_up ar e high }

-- ---- "Sum, difference, product, quotient": a sum's and a difference's two candidates are in order where the intervals are (`sum_in_order`)
unfoldable pub sum : Arithmetic → Interval → Interval → Interval
sum ar x y =
    stepped ar (add binary64 x.lo y.lo) (exact_sum x.lo y.lo)
    (add binary64 x.hi y.hi) (exact_sum x.hi y.hi)

unfoldable pub difference : Arithmetic → Interval → Interval → Interval
difference ar x y =
    stepped ar (sub binary64 x.lo y.hi) (exact_difference x.lo y.hi)
    (sub binary64 x.hi y.lo) (exact_difference x.hi y.lo)

unfoldable pub product : Interval → Interval → Interval
product x y = around (mul binary64 x.lo y.lo) (mul binary64 x.lo y.hi) (mul binary64 x.hi y.lo) (mul binary64 x.hi y.hi)

unfoldable pub quotient : Interval → Interval → Interval
quotient x y = around (div binary64 x.lo y.lo) (div binary64 x.lo y.hi) (div binary64 x.hi y.lo) (div binary64 x.hi y.hi)

-- "Negation swaps and is exact."
unfoldable pub negation : Interval → Interval
negation x = record { lo = neg x.hi; hi = neg x.lo }

-- "A square is the product with itself."
unfoldable pub square : Interval → Interval
unfolding product
square x = product x x

-- "`mid` is lo × 0.5 + hi × 0.5."
unfoldable pub mid : Interval → Float
mid x = add binary64 (mul binary64 x.lo (b64 0x3fe0_0000_0000_0000)) (mul binary64 x.hi (b64 0x3fe0_0000_0000_0000))

-- "`two_pi` has the bits 401921FB54442D18 and 401921FB54442D19 (hexadecimal), which lie either side of 2π."
abbrev pub two_pi : Interval
two_pi = record { lo = b64 0x4019_21fb_5444_2d18; hi = b64 0x4019_21fb_5444_2d19 }

-- ---- what the original takes of an interval besides: the larger size of its ends, the lesser and the greater of two, and one held to 0..1
abbrev pub abs : Float → Float
abs x = cond (lt x (b64 0)) (neg x) x

unfoldable pub magnitude : Interval → Float
magnitude x = greatest (abs x.lo) (abs x.hi)

unfoldable pub imin : Interval → Interval → Interval
imin x y = record { lo = least x.lo y.lo; hi = least x.hi y.hi }

unfoldable pub imax : Interval → Interval → Interval
imax x y = record { lo = greatest x.lo y.lo; hi = greatest x.hi y.hi }

unfoldable pub clamp01 : Interval → Interval
unfolding imin imax
clamp01 x = imin (imax x (point (b64 0))) (point (b64 0x3ff0_0000_0000_0000))
