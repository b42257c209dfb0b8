-- The order of the whole numbers, read by `omega` through the two parts of a number, and the order's laws for sums and products.
-- Assumes nothing.
use mathlib.Core.Path.{◌≡◌, refl, ap, ◌∙◌, subst}
use mathlib.Core.Logic.{◌⊎◌, inl, inr}
use Prim.Native.Nat.{ℕ, zero, suc, ◌+◌, ◌*◌, ◌-◌, ◌≤◌, ◌<◌}
use native.Mathlib.Nat as NatL
use native.Mathlib.Omega.{arith}
use lib.Dec.{ltb, ltb→lt, nltb→le, leb→le, le→leb, lt→ltb}
use lib.IntN.{ℤ, pos, negsuc, neg_ℤ, sub_ℕ, ◌+ℤ◌, ◌-ℤ◌, ◌*ℤ◌}
use lib.Signed.{◌≤ℤ◌, ◌<ℤ◌, le_z_yes, lt_z_yes}
use Rattle.exact.proofs.Choice.{choose}
use Rattle.exact.proofs.Integer.{*ℤ_distr, neg-*ℤ, *ℤ_neg}

-- ---- the positive and the negative part: z is their difference, and one of them is 0. omega reads ℕ, so a fact on ℤ is handed to it by parts
abbrev pub pos_part : ℤ → ℕ
pos_part (pos n) = n
pos_part (negsuc n) = 0

abbrev pub neg_part : ℤ → ℕ
neg_part (pos n) = 0
neg_part (negsuc n) = suc n

sub_parts : (a b : ℕ) → pos_part (sub_ℕ a b) + b ≡ a + neg_part (sub_ℕ a b)
sub_parts a b = choose (ltb a b) (negsuc (b - suc a)) (pos (a - b)) (λ z. pos_part z + b ≡ a + neg_part z)
    (λ t. lt_case a b (ltb→lt a b t)) (λ t. le_case a b (nltb→le a b t))
  where
    lt_case : (a b : ℕ) → a < b → 0 + b ≡ a + suc (b - suc a)
    lt_case a b h = omega arith

    le_case : (a b : ℕ) → b ≤ a → a - b + b ≡ a + 0
    le_case a b h = omega arith

pub sum_parts : (a b : ℤ) → pos_part (a +ℤ b) + (neg_part a + neg_part b) ≡ pos_part a + pos_part b + neg_part (a +ℤ b)
sum_parts (pos a) (pos b) = omega arith
sum_parts (pos a) (negsuc b) = omega (arith, sub_parts a (suc b))
sum_parts (negsuc a) (pos b) = omega (arith, sub_parts b (suc a))
sum_parts (negsuc a) (negsuc b) = omega arith

neg_pos_part : (a : ℤ) → pos_part (neg_ℤ a) ≡ neg_part a
neg_pos_part (pos zero) = refl
neg_pos_part (pos (suc n)) = refl
neg_pos_part (negsuc n) = refl

neg_neg_part : (a : ℤ) → neg_part (neg_ℤ a) ≡ pos_part a
neg_neg_part (pos zero) = refl
neg_neg_part (pos (suc n)) = refl
neg_neg_part (negsuc n) = refl

pub negation_parts : (a : ℤ) → (pos_part (neg_ℤ a) ≡ neg_part a) × (neg_part (neg_ℤ a) ≡ pos_part a)
negation_parts a = (neg_pos_part a, neg_neg_part a)

pub difference_parts : (a b : ℤ) → pos_part (a -ℤ b) + (neg_part a + pos_part b) ≡ pos_part a + neg_part b + neg_part (a -ℤ b)
difference_parts a b = omega (arith, sum_parts a (neg_ℤ b), neg_pos_part b, neg_neg_part b)

pub product_parts : (a b : ℤ) → pos_part (a *ℤ b) + (pos_part a * neg_part b + neg_part a * pos_part b) ≡ pos_part a * pos_part b + neg_part a * neg_part b + neg_part (a *ℤ b)
product_parts (pos a) (pos b) = omega arith
product_parts (pos a) (negsuc b) = omega (arith, neg_pos_part (pos (a * suc b)), neg_neg_part (pos (a * suc b)))
product_parts (negsuc a) (pos b) = omega (arith, neg_pos_part (pos (suc a * b)), neg_neg_part (pos (suc a * b)))
product_parts (negsuc a) (negsuc b) = omega arith

-- ---- the order, by parts, both ways
pub le_parts : {a b : ℤ} → a ≤ℤ b → pos_part a + neg_part b ≤ pos_part b + neg_part a
le_parts {a = pos a} {b = pos b} h = omega (arith, leb→le a b h.le)
le_parts {a = pos a} {b = negsuc b} h = absurd h.le
le_parts {a = negsuc a} {b = pos b} h = omega arith
le_parts {a = negsuc a} {b = negsuc b} h = omega (arith, leb→le b a h.le)

pub parts_le : {a b : ℤ} → pos_part a + neg_part b ≤ pos_part b + neg_part a → a ≤ℤ b
parts_le {a = pos a} {b = pos b} h = le_z_yes (le→leb a b (omega arith))
parts_le {a = pos a} {b = negsuc b} h = absurd (bad h)
  where
    bad : a + suc b ≤ 0 + 0 → ⊥
    bad h = omega arith
parts_le {a = negsuc a} {b = pos b} h = le_z_yes tt
parts_le {a = negsuc a} {b = negsuc b} h = le_z_yes (le→leb b a (omega arith))

pub lt_parts : {a b : ℤ} → a <ℤ b → pos_part a + neg_part b < pos_part b + neg_part a
lt_parts {a = pos a} {b = pos b} h = omega (arith, ltb→lt a b h.lt)
lt_parts {a = pos a} {b = negsuc b} h = absurd h.lt
lt_parts {a = negsuc a} {b = pos b} h = omega arith
lt_parts {a = negsuc a} {b = negsuc b} h = omega (arith, ltb→lt b a h.lt)

pub parts_lt : {a b : ℤ} → pos_part a + neg_part b < pos_part b + neg_part a → a <ℤ b
parts_lt {a = pos a} {b = pos b} h = lt_z_yes (lt→ltb a b (omega arith))
parts_lt {a = pos a} {b = negsuc b} h = absurd (bad h)
  where
    bad : a + suc b < 0 + 0 → ⊥
    bad h = omega arith
parts_lt {a = negsuc a} {b = pos b} h = lt_z_yes tt
parts_lt {a = negsuc a} {b = negsuc b} h = lt_z_yes (lt→ltb b a (omega arith))

pub eq_parts : {a b : ℤ} → a ≡ b → pos_part a + neg_part b ≡ pos_part b + neg_part a
eq_parts {a} {b} e = subst (λ (z : ℤ). pos_part a + neg_part z ≡ pos_part z + neg_part a) e refl

pub parts_eq : (a b : ℤ) → pos_part a + neg_part b ≡ pos_part b + neg_part a → a ≡ b
parts_eq (pos a) (pos b) h = ap pos (omega arith)
parts_eq (pos a) (negsuc b) h = absurd (bad h)
  where
    bad : a + suc b ≡ 0 + 0 → ⊥
    bad h = omega arith
parts_eq (negsuc a) (pos b) h = absurd (bad h)
  where
    bad : 0 + 0 ≡ b + suc a → ⊥
    bad h = omega arith
parts_eq (negsuc a) (negsuc b) h = ap negsuc (omega arith)

-- omega over ℤ: the orders are read and proved by parts. A sum, difference or product inside wants its own fact in the list, as sum_parts a b
pub ruleset zarith = (arith, le_parts, parts_le, lt_parts, parts_lt)

pub ≤ℤ_trans : {a b c : ℤ} → a ≤ℤ b → b ≤ℤ c → a ≤ℤ c
≤ℤ_trans {a} {b} {c} h k = omega zarith

pub <ℤ_trans : {a b c : ℤ} → a <ℤ b → b <ℤ c → a <ℤ c
<ℤ_trans {a} {b} {c} h k = omega zarith

pub ≤ℤ-<ℤ_trans : {a b c : ℤ} → a ≤ℤ b → b <ℤ c → a <ℤ c
≤ℤ-<ℤ_trans {a} {b} {c} h k = omega zarith

pub <ℤ_le : {a b : ℤ} → a <ℤ b → a ≤ℤ b
<ℤ_le {a} {b} h = omega zarith

pub ≤ℤ_antisym : {a b : ℤ} → a ≤ℤ b → b ≤ℤ a → a ≡ b
≤ℤ_antisym {a} {b} h k = parts_eq a b (omega zarith)

pub add_mono : {a b c d : ℤ} → a ≤ℤ b → c ≤ℤ d → (a +ℤ c) ≤ℤ (b +ℤ d)
add_mono {a} {b} {c} {d} h k = omega (zarith, sum_parts a c, sum_parts b d)

pub add_mono_lt : {a b c d : ℤ} → a <ℤ b → c ≤ℤ d → (a +ℤ c) <ℤ (b +ℤ d)
add_mono_lt {a} {b} {c} {d} h k = omega (zarith, sum_parts a c, sum_parts b d)

pub neg_mono : {a b : ℤ} → a ≤ℤ b → neg_ℤ b ≤ℤ neg_ℤ a
neg_mono {a} {b} h = omega (zarith, negation_parts a, negation_parts b)

pub neg_mono_lt : {a b : ℤ} → a <ℤ b → neg_ℤ b <ℤ neg_ℤ a
neg_mono_lt {a} {b} h = omega (zarith, negation_parts a, negation_parts b)

pub sub_nonneg : {a b : ℤ} → a ≤ℤ b → pos 0 ≤ℤ (b -ℤ a)
sub_nonneg {a} {b} h = omega (zarith, difference_parts b a)

pub nonneg_sub : {a b : ℤ} → pos 0 ≤ℤ (b -ℤ a) → a ≤ℤ b
nonneg_sub {a} {b} h = omega (zarith, difference_parts b a)

pub sub_pos : {a b : ℤ} → a <ℤ b → pos 0 <ℤ (b -ℤ a)
sub_pos {a} {b} h = omega (zarith, difference_parts b a)

pub pos_sub : {a b : ℤ} → pos 0 <ℤ (b -ℤ a) → a <ℤ b
pos_sub {a} {b} h = omega (zarith, difference_parts b a)

pub le_or_lt : (a b : ℤ) → (a ≤ℤ b) ⊎ (b <ℤ a)
le_or_lt a b = pick (NatL.eq-zero-or-pos (pos_part a + neg_part b - (pos_part b + neg_part a)))
  where
    pick : (pos_part a + neg_part b - (pos_part b + neg_part a) ≡ 0) ⊎ (0 < pos_part a + neg_part b - (pos_part b + neg_part a)) → (a ≤ℤ b) ⊎ (b <ℤ a)
    pick (inl e) = inl (omega zarith)
    pick (inr l) = inr (omega zarith)

-- ---- products: signs and monotonicity
pub mul_nonneg : {a b : ℤ} → pos 0 ≤ℤ a → pos 0 ≤ℤ b → pos 0 ≤ℤ (a *ℤ b)
mul_nonneg {a = pos a} {b = pos b} h k = le_z_yes (le→leb 0 (a * b) (omega arith))
mul_nonneg {a = pos a} {b = negsuc b} h k = absurd k.le
mul_nonneg {a = negsuc a} {b = b} h k = absurd h.le

pub mul_pos : {a b : ℤ} → pos 0 <ℤ a → pos 0 <ℤ b → pos 0 <ℤ (a *ℤ b)
mul_pos {a = pos a} {b = pos b} h k = lt_z_yes (lt→ltb 0 (a * b) (NatL.mul-pos (ltb→lt 0 a h.lt) (ltb→lt 0 b k.lt)))
mul_pos {a = pos a} {b = negsuc b} h k = absurd k.lt
mul_pos {a = negsuc a} {b = b} h k = absurd h.lt

sub_mul : (a b c : ℤ) → (b -ℤ a) *ℤ c ≡ b *ℤ c -ℤ a *ℤ c
sub_mul a b c = *ℤ_distr b (neg_ℤ a) c ∙ ap (λ x. b *ℤ c +ℤ x) (neg-*ℤ a c)

pub mul_mono : {a b c : ℤ} → pos 0 ≤ℤ c → a ≤ℤ b → (a *ℤ c) ≤ℤ (b *ℤ c)
mul_mono {a} {b} {c} hc h = nonneg_sub (subst (λ (z : ℤ). pos 0 ≤ℤ z) (sub_mul a b c) (mul_nonneg (sub_nonneg h) hc))

pub mul_mono_lt : {a b c : ℤ} → pos 0 <ℤ c → a <ℤ b → (a *ℤ c) <ℤ (b *ℤ c)
mul_mono_lt {a} {b} {c} hc h = pos_sub (subst (λ (z : ℤ). pos 0 <ℤ z) (sub_mul a b c) (mul_pos (sub_pos h) hc))

pub mul_anti : {a b c : ℤ} → c ≤ℤ pos 0 → a ≤ℤ b → (b *ℤ c) ≤ℤ (a *ℤ c)
mul_anti {a} {b} {c} hc h = nonneg_sub (subst (λ (z : ℤ). pos 0 ≤ℤ z) flip (mul_nonneg (sub_nonneg h) neg))
  where
    neg : pos 0 ≤ℤ neg_ℤ c
    neg = omega (zarith, negation_parts c)

    flip : (b -ℤ a) *ℤ neg_ℤ c ≡ a *ℤ c -ℤ b *ℤ c
    flip = *ℤ_neg (b -ℤ a) c ∙ ap neg_ℤ (sub_mul a b c) ∙ parts_eq (neg_ℤ (b *ℤ c -ℤ a *ℤ c)) (a *ℤ c -ℤ b *ℤ c) (omega (zarith, negation_parts (b *ℤ c -ℤ a *ℤ c), difference_parts (b *ℤ c) (a *ℤ c), difference_parts (a *ℤ c) (b *ℤ c)))

-- squares
pub square_nonnegℤ : (z : ℤ) → pos 0 ≤ℤ (z *ℤ z)
square_nonnegℤ (pos n) = le_z_yes (le→leb 0 (n * n) (omega arith))
square_nonnegℤ (negsuc n) = le_z_yes (le→leb 0 (suc n * suc n) (omega arith))

pub square_pos : (z : ℤ) → (z ≡ pos 0 → ⊥) → pos 0 <ℤ (z *ℤ z)
square_pos (pos zero) h = absurd (h refl)
square_pos (pos (suc n)) h = lt_z_yes (lt→ltb 0 (suc n * suc n) (omega arith))
square_pos (negsuc n) h = lt_z_yes (lt→ltb 0 (suc n * suc n) (omega arith))

pub sub_zero : {a b : ℤ} → b -ℤ a ≡ pos 0 → a ≡ b
sub_zero {a} {b} e = parts_eq a b (omega (zarith, difference_parts b a, eq_parts e))

-- what is multiplied by a positive number can be divided by it
pub mul_cancel_le : {a b c : ℤ} → pos 0 <ℤ c → (a *ℤ c) ≤ℤ (b *ℤ c) → a ≤ℤ b
mul_cancel_le {a} {b} {c} hc h = pick (le_or_lt a b)
  where
    pick : (a ≤ℤ b) ⊎ (b <ℤ a) → a ≤ℤ b
    pick (inl l) = l
    pick (inr g) = absurd (clash h (mul_mono_lt hc g))
      where
        clash : (a *ℤ c) ≤ℤ (b *ℤ c) → (b *ℤ c) <ℤ (a *ℤ c) → ⊥
        clash h k = omega zarith

pub mul_cancel_lt : {a b c : ℤ} → pos 0 <ℤ c → (a *ℤ c) <ℤ (b *ℤ c) → a <ℤ b
mul_cancel_lt {a} {b} {c} hc h = pick (le_or_lt b a)
  where
    pick : (b ≤ℤ a) ⊎ (a <ℤ b) → a <ℤ b
    pick (inr l) = l
    pick (inl g) = absurd (clash h (mul_mono (<ℤ_le hc) g))
      where
        clash : (a *ℤ c) <ℤ (b *ℤ c) → (b *ℤ c) ≤ℤ (a *ℤ c) → ⊥
        clash h k = omega zarith
