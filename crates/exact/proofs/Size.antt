-- Sizes of whole numbers: how the bounds of sums and products grow, and that a bounded number fits 64 bits. Assumes nothing.
use Prim.Native.Nat.{ℕ, suc, ◌+◌, ◌*◌, ◌^◌, ◌≤◌, ◌<◌}
use native.Mathlib.Nat.{mul-le-mul, le_refl, le_trans, add-le-add}
use native.Mathlib.Omega.{arith}
use mathlib.Core.Path.{◌≡◌}
use lib.Dec.{T, ltb, leb, leb→le, ltb→lt}
use lib.IntN.{ℤ, pos, negsuc, neg_ℤ, nat_abs, ◌+ℤ◌, ◌-ℤ◌, ◌*ℤ◌}
use lib.Signed.{mag, ◌≤ℤ◌, ◌<ℤ◌}
use mir.Syntax.{w64}
use mir.Val.{SFits}
use Rattle.exact.specs.Within.{Within}
use Rattle.exact.proofs.IntegerOrder.{pos_part, neg_part, sum_parts, negation_parts, zarith}

pub abs_parts : (z : ℤ) → nat_abs z ≡ pos_part z + neg_part z
abs_parts (pos n) = omega arith
abs_parts (negsuc n) = omega arith

abs_mul : (a b : ℤ) → nat_abs (a *ℤ b) ≤ nat_abs a * nat_abs b
abs_mul (pos a) (pos b) = omega arith
abs_mul (pos a) (negsuc b) = omega (arith, abs_parts (neg_ℤ (pos (a * suc b))), negation_parts (pos (a * suc b)))
abs_mul (negsuc a) (pos b) = omega (arith, abs_parts (neg_ℤ (pos (suc a * b))), negation_parts (pos (suc a * b)))
abs_mul (negsuc a) (negsuc b) = omega arith

abs_add : (a b : ℤ) → nat_abs (a +ℤ b) ≤ nat_abs a + nat_abs b
abs_add a b = go (a +ℤ b) (sum_parts a b)
  where
    go : (z : ℤ) → pos_part z + (neg_part a + neg_part b) ≡ pos_part a + pos_part b + neg_part z → nat_abs z ≤ nat_abs a + nat_abs b
    go (pos n) h = omega (arith, abs_parts a, abs_parts b)
    go (negsuc n) h = omega (arith, abs_parts a, abs_parts b)

pub within_add : {m n : ℕ} {a b : ℤ} → Within m a → Within n b → Within (m + n) (a +ℤ b)
within_add {a} {b} h k = record { abs = le_trans (abs_add a b) (add-le-add h.abs k.abs) }

pub within_neg : {n : ℕ} {a : ℤ} → Within n a → Within n (neg_ℤ a)
within_neg {a} h = record { abs = omega (arith, abs_parts (neg_ℤ a), abs_parts a, negation_parts a, h.abs) }

pub within_sub : {m n : ℕ} {a b : ℤ} → Within m a → Within n b → Within (m + n) (a -ℤ b)
within_sub h k = within_add h (within_neg k)

pub within_mul : {m n : ℕ} {a b : ℤ} → Within m a → Within n b → Within (m * n) (a *ℤ b)
within_mul {a} {b} h k = record { abs = le_trans (abs_mul a b) (mul-le-mul h.abs k.abs) }

pub within_more : {m n : ℕ} {a : ℤ} → T (leb m n) → Within m a → Within n a
within_more {m} {n} t h = record { abs = le_trans h.abs (leb→le m n t) }

mag_abs : (z : ℤ) → mag z ≤ nat_abs z
mag_abs (pos n) = omega arith
mag_abs (negsuc n) = omega arith

pub within_fits : {n : ℕ} {a : ℤ} → T (ltb n (2 ^ 63)) → Within n a → SFits w64 a
within_fits {n} {a} t h = record { sfits = le_trans (suc_le (le_trans (mag_abs a) h.abs)) (ltb→lt n (2 ^ 63) t) }
  where
    suc_le : {m k : ℕ} → m ≤ k → suc m ≤ suc k
    suc_le h = omega arith

-- from two bounds and back
pub within_of_bounds : (n : ℕ) {a : ℤ} → neg_ℤ (pos n) ≤ℤ a → a ≤ℤ pos n → Within n a
within_of_bounds n {a = pos a} h k = record { abs = omega zarith }
within_of_bounds n {a = negsuc a} h k = record { abs = omega (zarith, negation_parts (pos n)) }

pub within_high : {n : ℕ} {a : ℤ} → Within n a → a ≤ℤ pos n
within_high {n} {a} h = omega (zarith, abs_parts a, h.abs)

pub within_low : {n : ℕ} {a : ℤ} → Within n a → neg_ℤ (pos n) ≤ℤ a
within_low {n} {a} h = omega (zarith, abs_parts a, negation_parts (pos n), h.abs)

pub within_self : (z : ℤ) → Within (nat_abs z) z
within_self z = record { abs = le_refl (nat_abs z) }

pub within_zero : (n : ℕ) → Within n (pos 0)
within_zero n = record { abs = omega arith }

-- the size of a number above 0
pub size_above : {z : ℤ} → pos 0 <ℤ z → 0 < nat_abs z
size_above {z = pos n} h = ltb→lt 0 n h.lt
size_above {z = negsuc n} h = absurd h.lt
