-- How code finds the floor: it cuts toward zero, and goes one lower where the cut number is above x. The cut number is less than 1 away
-- from x, and only one whole number is at most x with the next one above it. Assumes nothing.
use Rattle.std.proofs.Common.{◌≡◌, ℕ, suc, ◌+◌, ◌-◌, ◌*◌, ◌/◌, ◌^◌, ◌<◌, ◌≤◌, min, Bool, true, false, cond, not, ◌||◌, T, ℤ, pos, negsuc, ◌+ℤ◌, ◌-ℤ◌, neg_ℤ, ◌≤ℤ◌, ◌<ℤ◌, sym, ap, subst, le_trans, le_of_eq, mul_comm, div-mul-le_self, arith, lit<, lit≤, lt→ltb, w64, SFits}
use native.Mathlib.Nat.{lt-div-mul-add, div-le_of_le-mul}
use lib.IntN.{ -ℤ-+ℤ_cancel}
use lib.Ieee.{Float, nan, inf, fin, binary64, round, of_int, to_signed, lt, le, eq, up, down}
use lib.Ieee.Fits.{down_pos}
use lib.Ieee.Back.{round_whole}
use lib.Ieee.Scale.{finite}
use Rattle.exact.specs.Fraction.{Fraction, whole, ◌≤F◌, ◌<F◌, ◌≈F◌}
use Rattle.exact.specs.Within.{Within}
use Rattle.exact.proofs.IntegerOrder.{zarith, sum_parts, difference_parts, ≤ℤ_antisym}
use Rattle.exact.proofs.Size.{within_fits, within_sub, within_neg, within_self}
use Rattle.exact.proofs.Fraction.{≤F_trans, ≤F-<F_trans, <F-≤F_trans, ≈F_le, ≈F_ge, same_den_le, same_den_lt, lt_same_den}
use Rattle.interval.specs.Floor.{floor}
use Rattle.interval.specs.Encloses.{signed, value, Small}
use Rattle.interval.proofs.Signs.{signed_add, le_ratio}
use Rattle.interval.proofs.Compare.{lt_value, nlt_value}
use Rattle.interval.proofs.Exact.{has_value}
use Rattle.interval.proofs.FloorLaws.{floor_below, floor_above}

-- ---- what the cast asks: x is between -2 ^ 63 and 2 ^ 63
or_left : (a b : Bool) → T a → T (a || b)
or_left true b t = tt
or_left false b t = absurd t

under : (a d : ℕ) → a ≤ 2 ^ 53 * d → 0 < d → a * 1 < 1 * 2 ^ 63 * d
under a d h D = omega arith

apart : (a d : ℕ) → 0 < d → 0 < 1 * 2 ^ 63 * d + a * 1
apart a d D = omega arith

apart' : (a d : ℕ) → 0 < d → 0 < a * 1 + 1 * 2 ^ 63 * d
apart' a d D = omega arith

pub in_low : (x : Float) → Small 53 x → T (le (fin true 1 (pos 63)) x)
unfolding le lt
in_low nan h = absurd h
in_low (inf s) h = absurd h
in_low (fin true m e) h = or_left (lt (fin true 1 (pos 63)) (fin true m e)) (eq (fin true 1 (pos 63)) (fin true m e)) (lt→ltb (m * up e * 1) (1 * 2 ^ 63 * down e) (under (m * up e) (down e) h (down_pos e)))
in_low (fin false m e) h = or_left (lt (fin true 1 (pos 63)) (fin false m e)) (eq (fin true 1 (pos 63)) (fin false m e)) (lt→ltb 0 (1 * 2 ^ 63 * down e + m * up e * 1) (apart (m * up e) (down e) (down_pos e)))

pub in_high : (x : Float) → Small 53 x → T (lt x (fin false 1 (pos 63)))
unfolding lt
in_high nan h = absurd h
in_high (inf s) h = absurd h
in_high (fin true m e) h = lt→ltb 0 (m * up e * 1 + 1 * 2 ^ 63 * down e) (apart' (m * up e) (down e) (down_pos e))
in_high (fin false m e) h = lt→ltb (m * up e * 1) (1 * 2 ^ 63 * down e) (under (m * up e) (down e) h (down_pos e))

-- ---- the cut number: the size's whole part, with the sign
cut_le : (a d : ℕ) → a ≤ 2 ^ 53 * d → a / d ≤ 2 ^ 53
cut_le a d h = div-le_of_le-mul d (le_trans h (le_of_eq (mul_comm (2 ^ 53) d)))

uncapped : (q c : ℕ) → q ≤ 2 ^ 53 → 2 ^ 53 ≤ c → min q c ≡ q
uncapped q c h k = omega arith

cut_is : (s : Bool) (m : ℕ) (e : ℤ) → Small 53 (fin s m e) → to_signed 63 (fin s m e) ≡ signed s (m * up e / down e)
unfolding to_signed
cut_is true m e h = ap (λ (k : ℕ). neg_ℤ (pos k)) (uncapped (m * up e / down e) (2 ^ 63) (cut_le (m * up e) (down e) h) (lit≤ tt))
cut_is false m e h = ap pos (uncapped (m * up e / down e) (2 ^ 63 - 1) (cut_le (m * up e) (down e) h) (lit≤ tt))

-- it is less than 1 away from x
pub record Cut (x : Float) (k : ℤ) : Type 0 where
  pub size : Within 0x20_0000_0000_0000 k
  pub below : whole (k -ℤ pos 1) ≤F value x
  pub above : value x <F whole (k +ℤ pos 1)

one_less : (k : ℤ) → (k -ℤ pos 1) ≤ℤ k
one_less k = omega (zarith, difference_parts k (pos 1))

one_more : (k : ℤ) → k <ℤ (k +ℤ pos 1)
one_more k = omega (zarith, sum_parts k (pos 1))

pub cut : (x : Float) → Small 53 x → Cut x (to_signed 63 x)
cut nan h = absurd h
cut (inf s) h = absurd h
cut (fin false m e) h = subst (Cut (fin false m e)) (sym (cut_is false m e h)) (record {
  size = record { abs = cut_le (m * up e) (down e) h };
  below = ≤F_trans (same_den_le (one_less (pos (m * up e / down e)))) (floor_below (fin false m e) tt);
  above = floor_above (fin false m e) tt;
})
cut (fin true m e) h = subst (Cut (fin true m e)) (sym (cut_is true m e h)) (record {
  size = within_neg {a = pos n} (record { abs = cut_le (m * up e) (down e) h });
  below = subst (λ (z : ℤ). whole z ≤F value (fin true m e)) (sym (signed_add true true true n 1 (n + 1) (omega arith))) (le_ratio true true (n + 1) 1 (m * up e) (down e) (low (m * up e) (down e) n (lt-div-mul-add (down_pos e))));
  above = ≤F-<F_trans (le_ratio true true (m * up e) (down e) n 1 (high (m * up e) (n * down e) (div-mul-le_self (m * up e) (down e)))) (same_den_lt (one_more (neg_ℤ (pos n))));
})
  where
    n : ℕ
    n = m * up e / down e

    low : (a d n : ℕ) → a < n * d + d → 0 + a * 1 ≤ 0 + (n + 1) * d
    low a d n h = omega arith

    high : (a b : ℕ) → b ≤ a → 0 + b ≤ 0 + a * 1
    high a b h = omega arith

-- the number one lower fits too
pub lower_fits : {x : Float} {k : ℤ} → Cut x k → SFits w64 (k -ℤ pos 1)
lower_fits c = within_fits tt (within_sub c.size (within_self (pos 1)))

-- ---- only one whole number is at most v, with the next one above it
one_floor : {v : Fraction} (z w : ℤ) → whole z ≤F v → v <F whole (z +ℤ pos 1) → whole w ≤F v → v <F whole (w +ℤ pos 1) → z ≡ w
one_floor z w a b c d = ≤ℤ_antisym (le z w (lt_same_den (≤F-<F_trans a d))) (le w z (lt_same_den (≤F-<F_trans c b)))
  where
    le : (z w : ℤ) → z <ℤ (w +ℤ pos 1) → z ≤ℤ w
    le z w h = omega (zarith, sum_parts w (pos 1))

whole_value : (z : ℤ) → Within 0x20_0000_0000_0000 z → T (finite (of_int binary64 z)) × (value (of_int binary64 z) ≈F whole z)
unfolding of_int
whole_value (pos n) h = has_value (round binary64 false n 1) false n 1 (lit< tt) (round_whole binary64 false n h.abs)
whole_value (negsuc n) h = has_value (round binary64 true (suc n) 1) true (suc n) 1 (lit< tt) (round_whole binary64 true (suc n) h.abs)

pub floor_is : (x : Float) (k : ℤ) (u : Bool) → T (finite x) → Cut x k → lt x (of_int binary64 k) ≡ u → floor x ≡ cond u (k -ℤ pos 1) k
floor_is x k true f c e =
    let (g, v) = whole_value k c.size in
    one_floor (floor x) (k -ℤ pos 1) (floor_below x f) (floor_above x f) c.below
    (subst (λ (z : ℤ). value x <F whole z) (sym (-ℤ-+ℤ_cancel k (pos 1))) (<F-≤F_trans (lt_value x (of_int binary64 k) f g (subst T (sym e) tt)) (≈F_le v)))
floor_is x k false f c e =
    let (g, v) = whole_value k c.size in
    one_floor (floor x) k (floor_below x f) (floor_above x f) (≤F_trans (≈F_ge v) (nlt_value x (of_int binary64 k) f g (subst (λ (b : Bool). T (not b)) (sym e) tt))) c.above
