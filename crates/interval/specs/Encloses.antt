-- What it is for an interval to hold a fraction, to lie in another interval, and for a double to be small. A fraction's order is multiplied
-- out over whole numbers. Definitions only; assumes nothing.
use Rattle.std.specs.Prelude.{ℕ, ◌*◌, ◌^◌, ◌≤◌, Bool, true, false, not, T, ℤ, pos, neg_ℤ, Float}
use Rattle.std.specs.Float.{nan, inf, fin}
use Rattle.std.specs.Float.Ieee.{up, down, le}
use Rattle.std.specs.Float.Ieee.Fits.{down_pos}
use Rattle.exact.specs.Fraction.{Fraction, ratio, zero_f, ◌≤F◌}
use Rattle.interval.specs.declared.Interval.{Interval}

-- n with the sign s
abbrev pub signed : Bool → ℕ → ℤ
signed false n = pos n
signed true n = neg_ℤ (pos n)

-- the fraction that a finite double is; zero stands in for what is none
abbrev pub value : Float → Fraction
value nan = zero_f
value (inf s) = zero_f
value (fin s m e) = ratio (signed s (m * up e)) (down e) (down_pos e)

-- q is at most x, and at least x: an infinity bounds nothing on its own side, and a NaN bounds nothing
abbrev pub AtMost : Fraction → Float → Type 0
AtMost q nan = ⊥
AtMost q (inf s) = T (not s)
AtMost q (fin s m e) = q ≤F value (fin s m e)

abbrev pub AtLeast : Fraction → Float → Type 0
AtLeast q nan = ⊥
AtLeast q (inf s) = T s
AtLeast q (fin s m e) = value (fin s m e) ≤F q

infix 4 ◌∈◌
-- the interval i holds the fraction q: lo ≤ q ≤ hi
pub record ◌∈◌ (q : Fraction) (i : Interval) : Type 0 where
  pub above : AtLeast q i.lo
  pub below : AtMost q i.hi

infix 4 ◌⊑◌
-- the interval i lies in the interval j: its low end is no lower, and its high end no higher
pub record ◌⊑◌ (i j : Interval) : Type 0 where
  pub lower : T (le j.lo i.lo)
  pub upper : T (le i.hi j.hi)

-- x is finite and at most 2 ^ k in size
abbrev pub Small : ℕ → Float → Type 0
Small k nan = ⊥
Small k (inf s) = ⊥
Small k (fin s m e) = m * up e ≤ 2 ^ k * down e
