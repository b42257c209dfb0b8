-- Ends and spans on one axis, over the whole numbers: how far a high is above its low, and where the middle lies. Assumes nothing.
use mathlib.Core.Path.{◌≡◌}
use Prim.Native.Nat.{ℕ, ◌+◌, ◌-◌, ◌/◌, ◌≤◌}
use native.Mathlib.Omega.{arith}
use lib.IntN.{ℤ, pos, negsuc, nat_abs, ◌+ℤ◌, ◌-ℤ◌}
use lib.Signed.{◌≤ℤ◌, ◌<ℤ◌}
use Rattle.exact.proofs.IntegerOrder.{pos_part, neg_part, sum_parts, difference_parts, zarith}

-- a high is its low and the span, by parts, as `omega` reads whole numbers
pub span_parts : (l h : ℤ) → l ≤ℤ h → pos_part h + neg_part l ≡ pos_part l + neg_part h + nat_abs (h -ℤ l)
span_parts l h p = by_sign (h -ℤ l) (difference_parts h l)
  where
    by_sign : (z : ℤ) → pos_part z + (neg_part h + pos_part l) ≡ pos_part h + neg_part l + neg_part z
        → pos_part h + neg_part l ≡ pos_part l + neg_part h + nat_abs z
    by_sign (pos n) e = omega zarith
    by_sign (negsuc n) e = omega zarith

-- the span is the number that the low is raised by to make the high
pub span_is : (l h : ℤ) (n : ℕ) → pos_part h + neg_part l ≡ pos_part l + neg_part h + n → nat_abs (h -ℤ l) ≡ n
span_is l h n e = by_sign (h -ℤ l) (difference_parts h l)
  where
    by_sign : (z : ℤ) → pos_part z + (neg_part h + pos_part l) ≡ pos_part h + neg_part l + neg_part z → nat_abs z ≡ n
    by_sign (pos m) f = omega arith
    by_sign (negsuc m) f = omega arith

-- ---- between two ends, "at low + span div 2"
module _ (l h : ℤ) (p : l <ℤ h) where
  abbrev half : ℕ
  half = nat_abs (h -ℤ l) / 2

  abbrev mid : ℤ
  mid = l +ℤ pos half

  pub middle_least : l ≤ℤ mid
  middle_least = omega (zarith, sum_parts l (pos half))

  pub middle_above : 2 ≤ nat_abs (h -ℤ l) → l <ℤ mid
  middle_above t = omega (zarith, sum_parts l (pos half))

  pub middle_below : mid <ℤ h
  middle_below = omega (zarith, sum_parts l (pos half), span_parts l h (omega zarith))

  pub span_below : nat_abs (mid -ℤ l) ≡ half
  span_below = span_is l mid half (omega (zarith, sum_parts l (pos half)))

  pub span_above : nat_abs (h -ℤ mid) ≡ nat_abs (h -ℤ l) - half
  span_above = span_is mid h (nat_abs (h -ℤ l) - half) (omega (zarith, sum_parts l (pos half), span_parts l h (omega zarith)))

  -- the two halves have the whole span
  pub spans_add : nat_abs (h -ℤ l) ≡ nat_abs (mid -ℤ l) + nat_abs (h -ℤ mid)
  spans_add = omega (arith, span_below, span_above)

  -- a low below its high, by at least 1; and a span within the limits
  pub span_least : 1 ≤ nat_abs (h -ℤ l)
  span_least = omega (zarith, span_parts l h (omega zarith))

  pub span_most : negsuc 1048575 ≤ℤ l → h ≤ℤ pos 1048576 → nat_abs (h -ℤ l) ≤ 2097152
  span_most q r = omega (zarith, span_parts l h (omega zarith))
