-- `turn`: sine and cosine of one turn coordinate, in the original's order of operations. Document 01's words stand in quotes. What adds is
-- stated of either arithmetic. Definitions only; assumes nothing.
use Rattle.std.specs.Prelude.{Bool, cond, not, ◌&&◌, ◌||◌, List, ℕ, zero, suc, ◌-◌, eqb, ℤ, Float, Option, Some, None}
use Rattle.std.specs.Float.Ieee.{neg, lt}
use Rattle.interval.specs.declared.Interval.{Interval}
use Rattle.interval.specs.Step.{b64}
use Rattle.interval.specs.Interval.{Arithmetic, point, sum, difference, product, negation, square, mid}
use Rattle.interval.specs.Nearest.{nearest}
use Rattle.interval.specs.Floor.{quarter_number, mod_four}
use Rattle.grade.specs.Intervals.{box_at}
use Rattle.gyroid.specs.declared.Gyroid.{Gyroid}
use Rattle.gyroid.specs.declared.Circle.{Circle}

-- 2^40
abbrev pub largest_turn : Float
largest_turn = b64 0x4270_0000_0000_0000

-- "none when either end of the turns is 2^40 or more in size": what is less; a NaN is not
abbrev pub reducible : Interval → Bool
reducible t = lt (neg largest_turn) t.lo && lt t.lo largest_turn && lt (neg largest_turn) t.hi && lt t.hi largest_turn

-- "Its quarter number is the floor of mid × 4 + 0.5."
abbrev pub quarter_of : Interval → ℤ
quarter_of t = quarter_number (mid t)

-- "when u.lo < −0.8 or when u.hi > 0.8"
abbrev pub beyond : Interval → Bool
beyond u = lt u.lo (neg (b64 0x3fe9_9999_9999_999a)) || lt (b64 0x3fe9_9999_9999_999a) u.hi

-- from the negative of x to x
abbrev pub symmetric : Float → Interval
symmetric x = record { lo = neg x; hi = x }

-- "turned by q mod 4"
unfoldable pub turned : ℕ → Circle → Circle
turned m c =
    cond (eqb m 0) c
    (cond (eqb m 1) (record { sine = c.cosine; cosine = negation c.sine })
    (cond (eqb m 2) (record { sine = negation c.sine; cosine = negation c.cosine })
    (record { sine = negation c.cosine; cosine = c.sine })))

-- ---- what adds
module _ (ar : Arithmetic) where
  -- the quarter number taken off, as an angle; each product of points steps
  unfoldable pub reduced : Interval → ℤ → Interval → Interval
  reduced t q two_pi = product (difference ar t (product (point (nearest q 1)) (point (b64 0x3fd0_0000_0000_0000)))) two_pi

  -- Horner's rule from the last of nine coefficients: n steps
  unfoldable pub horner : List Interval → Interval → ℕ → Interval
  horner c x zero = box_at c 8
  horner c x (suc n) = sum ar (product (horner c x n) x) (box_at c (7 - n))

  -- "Series have nine terms", and the tail on both sides
  unfoldable pub sine_at : Gyroid → Interval → Interval
  sine_at g u = sum ar (product (horner g.sine (square u) 8) u) (symmetric g.tail_sine)

  unfoldable pub cosine_at : Gyroid → Interval → Interval
  cosine_at g u = sum ar (horner g.cosine (square u) 8) (symmetric g.tail_cosine)

  unfoldable pub circle_at : Gyroid → Interval → Circle
  circle_at g u = record { sine = sine_at g u; cosine = cosine_at g u }

  unfoldable pub turn : Gyroid → Interval → Option Circle
  turn g t =
      let q = quarter_of t in
      let u = reduced t q g.two_pi in
      cond (not (reducible t)) None (cond (beyond u) None (Some (turned (mod_four q) (circle_at g u))))
