-- "The floor": `floor x` is at most x, and the whole number after it is above x; and the remainder by 4. Assumes nothing.
use Rattle.std.proofs.Common.{◌≡◌, ℕ, zero, suc, ◌+◌, ◌-◌, ◌*◌, ◌/◌, ◌%◌, ◌<◌, ◌≤◌, true, false, T, ℤ, pos, negsuc, ◌+ℤ◌, ◌*ℤ◌, neg_ℤ, sym, ap, subst, div-mul-le_self, arith}
use native.Mathlib.Nat.{lt-div-mul-add}
use lib.Ieee.{Float, nan, inf, fin, up, down}
use lib.Ieee.Fits.{down_pos}
use lib.Ieee.Scale.{finite}
use Rattle.exact.specs.Fraction.{whole, ◌≤F◌, ◌<F◌}
use Rattle.interval.specs.Floor.{floor, mod_four}
use Rattle.interval.specs.Encloses.{value}
use Rattle.interval.proofs.Signs.{signed_add, le_ratio, lt_ratio}

pub floor_below : (x : Float) → T (finite x) → whole (floor x) ≤F value x
floor_below nan f = absurd f
floor_below (inf s) f = absurd f
floor_below (fin false m e) f = le_ratio false false (m * up e / down e) 1 (m * up e) (down e) (plain (m * up e / down e * down e) (m * up e) (div-mul-le_self (m * up e) (down e)))
  where
    plain : (b a : ℕ) → b ≤ a → b + 0 ≤ a * 1 + 0
    plain b a h = omega arith
floor_below (fin true m e) f = le_ratio true true ((m * up e + (down e - 1)) / down e) 1 (m * up e) (down e) (plain (m * up e) (down e) ((m * up e + (down e - 1)) / down e * down e) (down_pos e) (lt-div-mul-add (down_pos e)))
  where
    plain : (a d c : ℕ) → 0 < d → a + (d - 1) < c + d → 0 + a * 1 ≤ 0 + c
    plain a d c D h = omega arith

pub floor_above : (x : Float) → T (finite x) → value x <F whole (floor x +ℤ pos 1)
floor_above nan f = absurd f
floor_above (inf s) f = absurd f
floor_above (fin false m e) f = lt_ratio false false (m * up e) (down e) (m * up e / down e + 1) 1 (plain (m * up e) (down e) (m * up e / down e) (lt-div-mul-add (down_pos e)))
  where
    plain : (a d n : ℕ) → a < n * d + d → a * 1 + 0 < (n + 1) * d + 0
    plain a d n h = omega arith
floor_above (fin true m e) f = go ((m * up e + (down e - 1)) / down e) (div-mul-le_self (m * up e + (down e - 1)) (down e))
  where
    small : (a d : ℕ) → 0 < d → 0 + 0 < 1 * d + a * 1
    small a d D = omega arith

    large : (a d c : ℕ) → 0 < d → suc c * d ≤ a + (d - 1) → 0 + c * d < 0 + a * 1
    large a d c D h = omega arith

    go : (c : ℕ) → c * down e ≤ m * up e + (down e - 1) → value (fin true m e) <F whole (neg_ℤ (pos c) +ℤ pos 1)
    go zero h = lt_ratio true false (m * up e) (down e) 1 1 (small (m * up e) (down e) (down_pos e))
    go (suc c) h = subst (λ (z : ℤ). value (fin true m e) <F whole z) (sym (signed_add true false true (suc c) 1 c (omega arith))) (lt_ratio true true (m * up e) (down e) c 1 (large (m * up e) (down e) c (down_pos e) h))

-- "q mod 4": q is a multiple of 4 and a number from 0 to 3
pub remainder_below : (q : ℤ) → mod_four q < 4
remainder_below (pos n) = omega arith
remainder_below (negsuc n) = omega arith

pub remainder_is : (q : ℤ) → (k : ℤ) × (q ≡ k *ℤ pos 4 +ℤ pos (mod_four q))
remainder_is (pos n) = (pos (n / 4), ap pos (whole_part n))
  where
    whole_part : (n : ℕ) → n ≡ n / 4 * 4 + n % 4
    whole_part n = omega arith
remainder_is (negsuc n) = (negsuc (n / 4), sym (signed_add true false true (suc (n / 4) * 4) (3 - n % 4) (suc n) (omega arith)))
