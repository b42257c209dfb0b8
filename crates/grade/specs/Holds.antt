-- What the answers say of every rational point of a box: the statements that proofs/ proves. Definitions only; assumes nothing.
use Rattle.std.specs.Prelude.{◌≡◌, ◌⊎◌, Option, Some, None, List, ℕ, ◌<◌, T, ℤ, nat_abs, ◌≤ℤ◌, Float}
use Rattle.std.specs.Float.Ieee.Scale.{finite}
use Rattle.exact.specs.Fraction.{Fraction, whole, ◌/F◌, ◌≤F◌, ◌≈F◌}
use Rattle.interval.specs.declared.Interval.{Interval}
use Rattle.interval.specs.Encloses.{value}
use Rattle.grade.specs.declared.Grade.{Grade}
use Rattle.grade.specs.declared.Bounds.{Bounds}
use Rattle.grade.specs.declared.Piece.TheVariants.{Start, Ramp, End}
use Rattle.grade.specs.declared.Piece.{Piece}
use Rattle.limits.specs.Ticks.{at}
use Rattle.grade.specs.Grade.{Point, t, ramp_level, level}
use Rattle.grade.specs.Intervals.{box_at}

-- ---- a rational point of a box of whole ticks, its faces included
pub record InBox (lo hi : List ℤ) (p : Point) : Type 0 where
  pub above : (i : ℕ) → i < 3 → whole (at lo i) ≤F p i
  pub below : (i : ℕ) → i < 3 → p i ≤F whole (at hi i)

-- ---- a box of doubles whose ends, in millimetres, are those of whole ticks: a zero among them may have either sign, for "zeros of either
-- sign are alike"
pub record AtTick (x : Float) (n : ℤ) : Type 0 where
  pub finite : T (finite x)
  pub value : value x ≈F whole n /F 1024

pub record OfTicks (lo hi : List ℤ) (w : List Interval) : Type 0 where
  pub lows : (i : ℕ) → i < 3 → AtTick (box_at w i).lo (at lo i)
  pub highs : (i : ℕ) → i < 3 → AtTick (box_at w i).hi (at hi i)

-- ---- "`range` is ordered, holds the level of every rational box point and takes both bounds at corners."
-- q is the level at a corner of the box
pub record Taken (g : Grade) (lo hi : List ℤ) (q : Fraction) : Type 0 where
  pub corner : List ℤ
  pub ends : (i : ℕ) → i < 3 → (at corner i ≡ at lo i) ⊎ (at corner i ≡ at hi i)
  pub value : level g (λ i. whole (at corner i)) ≈F q

-- a numerator over the bounds' denominator
abbrev pub fraction : Bounds → ℤ → Fraction
fraction b z = whole z /F nat_abs b.over

pub record RangeHolds (g : Grade) (lo hi : List ℤ) (b : Bounds) : Type 0 where
  pub ordered : b.low ≤ℤ b.high
  pub holds : (p : Point) → InBox lo hi p → (fraction b b.low ≤F level g p) × (level g p ≤F fraction b b.high)
  pub low_taken : Taken g lo hi (fraction b b.low)
  pub high_taken : Taken g lo hi (fraction b b.high)

-- ---- what a piece says of the level
abbrev pub SaysLevel : Grade → Point → Option Piece → Type 0
SaysLevel g p (Some Start) = level g p ≈F whole g.start
SaysLevel g p (Some Ramp) = level g p ≈F ramp_level g (t g p)
SaysLevel g p (Some End) = level g p ≈F whole g.end
SaysLevel g p None = Unit {0}
