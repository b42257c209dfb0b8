-- A sign and a size as a whole number: its products, its sums and its order, and the order of fractions made so. Assumes nothing.
use Rattle.std.proofs.Common.{◌≡◌, ℕ, zero, suc, ◌+◌, ◌*◌, ◌<◌, ◌≤◌, Bool, true, false, cond, not, ℤ, pos, ◌+ℤ◌, ◌*ℤ◌, neg_ℤ, ◌≤ℤ◌, ◌<ℤ◌, sym, refl, ap, ◌∙◌, subst, arith}
use lib.IntN.{neg_ℤ-neg_ℤ}
use lib.Ieee.{unlike}
use Rattle.exact.specs.Fraction.{ratio, ◌≤F◌, ◌<F◌}
use Rattle.exact.proofs.Integer.{neg-*ℤ, *ℤ_neg}
use Rattle.exact.proofs.IntegerOrder.{pos_part, neg_part, sum_parts, le_parts, parts_le, lt_parts, parts_lt, parts_eq}
use Rattle.interval.specs.Encloses.{signed}

pub pos_part_signed : (s : Bool) (n : ℕ) → pos_part (signed s n) ≡ cond s 0 n
pos_part_signed true zero = refl
pos_part_signed true (suc n) = refl
pos_part_signed false n = refl

pub neg_part_signed : (s : Bool) (n : ℕ) → neg_part (signed s n) ≡ cond s n 0
neg_part_signed true zero = refl
neg_part_signed true (suc n) = refl
neg_part_signed false n = refl

pub signed_not : (s : Bool) (n : ℕ) → signed (not s) n ≡ neg_ℤ (signed s n)
signed_not true n = sym (neg_ℤ-neg_ℤ (pos n))
signed_not false n = refl

-- ---- products
pub signed_times : (s : Bool) (a d : ℕ) → signed s a *ℤ pos d ≡ signed s (a * d)
signed_times true a d = neg-*ℤ (pos a) (pos d)
signed_times false a d = refl

pub signed_mul : (s t : Bool) (a b : ℕ) → signed s a *ℤ signed t b ≡ signed (unlike s t) (a * b)
signed_mul false false a b = refl
signed_mul false true a b = *ℤ_neg (pos a) (pos b)
signed_mul true false a b = neg-*ℤ (pos a) (pos b)
signed_mul true true a b = neg-*ℤ (pos a) (neg_ℤ (pos b)) ∙ ap neg_ℤ (*ℤ_neg (pos a) (pos b)) ∙ neg_ℤ-neg_ℤ (pos a *ℤ pos b)

-- ---- a sum of two, where the result's sign and size are known
pub signed_add : (s t u : Bool) (a b c : ℕ) → cond s 0 a + cond t 0 b + cond u c 0 ≡ cond u 0 c + (cond s a 0 + cond t b 0) → signed s a +ℤ signed t b ≡ signed u c
signed_add s t u a b c h = parts_eq (signed s a +ℤ signed t b) (signed u c)
    (omega (arith, sum_parts (signed s a) (signed t b), pos_part_signed s a, neg_part_signed s a, pos_part_signed t b, neg_part_signed t b, pos_part_signed u c, neg_part_signed u c))

-- ---- the order, multiplied out: ±a / c against ±b / d
abbrev pub Le : Bool → ℕ → Bool → ℕ → Type 0
Le s a t b = cond s 0 a + cond t b 0 ≤ cond t 0 b + cond s a 0

abbrev pub Lt : Bool → ℕ → Bool → ℕ → Type 0
Lt s a t b = cond s 0 a + cond t b 0 < cond t 0 b + cond s a 0

pub le_signed : (s t : Bool) (a b : ℕ) → Le s a t b → signed s a ≤ℤ signed t b
le_signed s t a b h = parts_le (rw (pos_part_signed s a, neg_part_signed t b, pos_part_signed t b, neg_part_signed s a) h)

pub signed_le : (s t : Bool) (a b : ℕ) → signed s a ≤ℤ signed t b → Le s a t b
signed_le s t a b h = rw (pos_part_signed s a, neg_part_signed t b, pos_part_signed t b, neg_part_signed s a) at (le_parts h)

lt_signed : (s t : Bool) (a b : ℕ) → Lt s a t b → signed s a <ℤ signed t b
lt_signed s t a b h = parts_lt (rw (pos_part_signed s a, neg_part_signed t b, pos_part_signed t b, neg_part_signed s a) h)

signed_lt : (s t : Bool) (a b : ℕ) → signed s a <ℤ signed t b → Lt s a t b
signed_lt s t a b h = rw (pos_part_signed s a, neg_part_signed t b, pos_part_signed t b, neg_part_signed s a) at (lt_parts h)

module _ (s t : Bool) (a c b d : ℕ) {C : 0 < c} {D : 0 < d} where
  pub le_ratio : Le s (a * d) t (b * c) → ratio (signed s a) c C ≤F ratio (signed t b) d D
  le_ratio h = record { le = subst (λ (z : ℤ). z ≤ℤ (signed t b *ℤ pos c)) (sym (signed_times s a d)) (subst (λ (z : ℤ). signed s (a * d) ≤ℤ z) (sym (signed_times t b c)) (le_signed s t (a * d) (b * c) h)) }

  pub ratio_le : ratio (signed s a) c C ≤F ratio (signed t b) d D → Le s (a * d) t (b * c)
  ratio_le h = signed_le s t (a * d) (b * c) (subst (λ (z : ℤ). signed s (a * d) ≤ℤ z) (signed_times t b c) (subst (λ (z : ℤ). z ≤ℤ (signed t b *ℤ pos c)) (signed_times s a d) h.le))

  pub lt_ratio : Lt s (a * d) t (b * c) → ratio (signed s a) c C <F ratio (signed t b) d D
  lt_ratio h = record { lt = subst (λ (z : ℤ). z <ℤ (signed t b *ℤ pos c)) (sym (signed_times s a d)) (subst (λ (z : ℤ). signed s (a * d) <ℤ z) (sym (signed_times t b c)) (lt_signed s t (a * d) (b * c) h)) }

  pub ratio_lt : ratio (signed s a) c C <F ratio (signed t b) d D → Lt s (a * d) t (b * c)
  ratio_lt h = signed_lt s t (a * d) (b * c) (subst (λ (z : ℤ). signed s (a * d) <ℤ z) (signed_times t b c) (subst (λ (z : ℤ). z <ℤ (signed t b *ℤ pos c)) (signed_times s a d) h.lt))
