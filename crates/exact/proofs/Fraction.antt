-- Fractions as an ordered ring: the order, equality as a congruence, sums and products in the order. Assumes nothing.
use mathlib.Core.Path.{◌≡◌, refl, sym, ap, ◌∙◌, subst, subst₂}
use mathlib.Core.Logic.{◌⊎◌, inl, inr}
use mathlib.Core.List.{[], ◌∷◌}
use Prim.Native.Nat.{ℕ, zero, suc, ◌*◌, ◌<◌}
use native.Mathlib.Nat as NatL
use lib.Dec.{lt→ltb, lit<}
use lib.IntN.{ℤ, pos, negsuc, neg_ℤ, ◌+ℤ◌, ◌-ℤ◌, ◌*ℤ◌, *ℤ_comm, zero-*ℤ}
use lib.Signed.{◌≤ℤ◌, ◌<ℤ◌, lt_z_yes, le_z_yes, ≤ℤ_refl, <ℤ-≤ℤ_trans, <ℤ_irrefl}
use Rattle.exact.specs.Fraction.{Fraction, den_z, ratio, whole, zero_f, one_f, ◌+F◌, ◌-F◌, ◌*F◌, ◌/F◌, neg_f, ◌≤F◌, ◌<F◌, ◌≈F◌}
use Rattle.exact.proofs.Integer.{one-*ℤ, neg-*ℤ}
use Rattle.exact.proofs.IntegerOrder.{≤ℤ_trans, ≤ℤ-<ℤ_trans, <ℤ_le, ≤ℤ_antisym, le_or_lt, add_mono, neg_mono_lt, mul_mono, mul_mono_lt, mul_anti, mul_nonneg, mul_cancel_le, mul_cancel_lt}
use Rattle.exact.proofs.Ring.{lit, ◌⊕◌, ◌⊖◌, ◌⊗◌, ⊝◌, ring}
use Rattle.exact.proofs.FractionRing.{ring_f}

den_above : (a : Fraction) → pos 0 <ℤ den_z a
den_above a = lt_z_yes (lt→ltb 0 a.den a.den_pos)

den_nonneg : (a : Fraction) → pos 0 ≤ℤ den_z a
den_nonneg a = <ℤ_le (den_above a)

swap_last : (x y z : ℤ) → x *ℤ y *ℤ z ≡ x *ℤ z *ℤ y
swap_last x y z = ring 3 (λ x y z. x ⊗ y ⊗ z) (λ x y z. x ⊗ z ⊗ y) tt (x ∷ y ∷ z ∷ [])

-- ---- the order
pub ≤F_refl : (a : Fraction) → a ≤F a
≤F_refl a = record { le = ≤ℤ_refl (a.num *ℤ den_z a) }

-- a comparison, both sides times a third denominator
times_den : {a b : Fraction} (c : Fraction) → a ≤F b → (a.num *ℤ den_z c *ℤ den_z b) ≤ℤ (b.num *ℤ den_z c *ℤ den_z a)
times_den {a} {b} c h = subst₂ (λ (x y : ℤ). x ≤ℤ y) (swap_last a.num (den_z b) (den_z c)) (swap_last b.num (den_z a) (den_z c)) (mul_mono (den_nonneg c) h.le)

pub ≤F_trans : {a b c : Fraction} → a ≤F b → b ≤F c → a ≤F c
≤F_trans {a} {b} {c} h k = record { le = mul_cancel_le (den_above b) (≤ℤ_trans (times_den c h) two) }
  where
    two : (b.num *ℤ den_z c *ℤ den_z a) ≤ℤ (c.num *ℤ den_z a *ℤ den_z b)
    two = subst (λ (y : ℤ). (b.num *ℤ den_z c *ℤ den_z a) ≤ℤ y) (swap_last c.num (den_z b) (den_z a)) (mul_mono (den_nonneg a) k.le)

pub ≤F-<F_trans : {a b c : Fraction} → a ≤F b → b <F c → a <F c
≤F-<F_trans {a} {b} {c} h k = record { lt = mul_cancel_lt (den_above b) (≤ℤ-<ℤ_trans (times_den c h) two) }
  where
    two : (b.num *ℤ den_z c *ℤ den_z a) <ℤ (c.num *ℤ den_z a *ℤ den_z b)
    two = subst (λ (y : ℤ). (b.num *ℤ den_z c *ℤ den_z a) <ℤ y) (swap_last c.num (den_z b) (den_z a)) (mul_mono_lt (den_above a) k.lt)

pub <F-≤F_trans : {a b c : Fraction} → a <F b → b ≤F c → a <F c
<F-≤F_trans {a} {b} {c} h k = record { lt = mul_cancel_lt (den_above b) (<ℤ-≤ℤ_trans one (times_den a k)) }
  where
    one : (a.num *ℤ den_z c *ℤ den_z b) <ℤ (b.num *ℤ den_z a *ℤ den_z c)
    one = subst (λ (x : ℤ). x <ℤ (b.num *ℤ den_z a *ℤ den_z c)) (swap_last a.num (den_z b) (den_z c)) (mul_mono_lt (den_above c) h.lt)

pub <F_irrefl : {a b : Fraction} → a <F b → b ≤F a → ⊥
<F_irrefl h k = <ℤ_irrefl (<ℤ-≤ℤ_trans h.lt k.le)

-- over one denominator the numerators are compared
pub same_den_le : {z w : ℤ} {d : ℕ} {D : 0 < d} → z ≤ℤ w → ratio z d D ≤F ratio w d D
same_den_le {d} {D} h = record { le = mul_mono (den_nonneg (ratio (pos 0) d D)) h }

pub same_den_lt : {z w : ℤ} {d : ℕ} {D : 0 < d} → z <ℤ w → ratio z d D <F ratio w d D
same_den_lt {d} {D} h = record { lt = mul_mono_lt (den_above (ratio (pos 0) d D)) h }

pub lt_same_den : {z w : ℤ} {d : ℕ} {D : 0 < d} → ratio z d D <F ratio w d D → z <ℤ w
lt_same_den {d} {D} h = mul_cancel_lt (den_above (ratio (pos 0) d D)) h.lt

pub <F_le : {a b : Fraction} → a <F b → a ≤F b
<F_le h = record { le = <ℤ_le h.lt }

pub le_or_lt_f : (a b : Fraction) → (a ≤F b) ⊎ (b <F a)
le_or_lt_f a b = elim (le_or_lt (a.num *ℤ den_z b) (b.num *ℤ den_z a)) [ inl h ↦ inl (record { le = h }) | inr h ↦ inr (record { lt = h }) ]

-- ---- equality
pub ≈F_refl : (a : Fraction) → a ≈F a
≈F_refl a = record { eq = refl }

pub ≈F_sym : {a b : Fraction} → a ≈F b → b ≈F a
≈F_sym e = record { eq = sym e.eq }

pub ≈F_le : {a b : Fraction} → a ≈F b → a ≤F b
≈F_le {a} {b} e = record { le = subst (λ (z : ℤ). (a.num *ℤ den_z b) ≤ℤ z) e.eq (≤ℤ_refl (a.num *ℤ den_z b)) }

pub ≈F_ge : {a b : Fraction} → a ≈F b → b ≤F a
≈F_ge e = ≈F_le (≈F_sym e)

pub ≤F_antisym : {a b : Fraction} → a ≤F b → b ≤F a → a ≈F b
≤F_antisym h k = record { eq = ≤ℤ_antisym h.le k.le }

pub ≈F_trans : {a b c : Fraction} → a ≈F b → b ≈F c → a ≈F c
≈F_trans p q = ≤F_antisym (≤F_trans (≈F_le p) (≈F_le q)) (≤F_trans (≈F_ge q) (≈F_ge p))

-- ---- the operations by numerator and denominator
pub add_ratio : (a b : Fraction) (E : 0 < a.den * b.den) → a +F b ≈F ratio (a.num *ℤ den_z b +ℤ b.num *ℤ den_z a) (a.den * b.den) E
unfolding ◌+F◌
add_ratio a b E = record { eq = refl }

pub mul_ratio : (a b : Fraction) (E : 0 < a.den * b.den) → a *F b ≈F ratio (a.num *ℤ b.num) (a.den * b.den) E
unfolding ◌*F◌
mul_ratio a b E = record { eq = refl }

pub sub_ratio : (a b : Fraction) (E : 0 < a.den * b.den) → a -F b ≈F ratio (a.num *ℤ den_z b -ℤ b.num *ℤ den_z a) (a.den * b.den) E
unfolding ◌-F◌
sub_ratio a b E = record { eq = refl }

pub neg_ratio : (a : Fraction) → neg_f a ≈F ratio (neg_ℤ a.num) a.den a.den_pos
unfolding neg_f
neg_ratio a = record { eq = refl }

-- ---- sums
pub add_mono_f : {a b c d : Fraction} → a ≤F b → c ≤F d → a +F c ≤F b +F d
unfolding ◌+F◌
add_mono_f {a} {b} {c} {d} h k = record {
  le =
      subst₂ (λ (x y : ℤ). x ≤ℤ y)
      (ring 6 (λ p q r s t u. (p ⊗ q) ⊗ (r ⊗ s) ⊕ (t ⊗ s) ⊗ (q ⊗ u)) (λ p q r s t u. (p ⊗ r ⊕ t ⊗ u) ⊗ (q ⊗ s)) tt (a.num ∷ den_z b ∷ den_z c ∷ den_z d ∷ c.num ∷ den_z a ∷ []))
      (ring 6 (λ p q r s t u. (p ⊗ q) ⊗ (r ⊗ s) ⊕ (t ⊗ r) ⊗ (u ⊗ q)) (λ p q r s t u. (p ⊗ s ⊕ t ⊗ u) ⊗ (q ⊗ r)) tt (b.num ∷ den_z a ∷ den_z c ∷ den_z d ∷ d.num ∷ den_z b ∷ []))
      (add_mono (mul_mono (mul_nonneg (den_nonneg c) (den_nonneg d)) h.le) (mul_mono (mul_nonneg (den_nonneg b) (den_nonneg a)) k.le));
}

-- ---- products, by the sign of what is multiplied by
scaled : (p q r s : ℤ) → (p *ℤ q) *ℤ (r *ℤ s) ≡ (r *ℤ p) *ℤ (s *ℤ q)
scaled p q r s = ring 4 (λ p q r s. (p ⊗ q) ⊗ (r ⊗ s)) (λ p q r s. (r ⊗ p) ⊗ (s ⊗ q)) tt (p ∷ q ∷ r ∷ s ∷ [])

pub mul_mono_f : {a b : Fraction} (c : Fraction) → pos 0 ≤ℤ c.num → a ≤F b → c *F a ≤F c *F b
unfolding ◌*F◌
mul_mono_f {a} {b} c hc h = record {
  le = subst₂ (λ (x y : ℤ). x ≤ℤ y) (scaled a.num (den_z b) c.num (den_z c)) (scaled b.num (den_z a) c.num (den_z c)) (mul_mono (mul_nonneg hc (den_nonneg c)) h.le);
}

pub mul_anti_f : {a b : Fraction} (c : Fraction) → c.num ≤ℤ pos 0 → a ≤F b → c *F b ≤F c *F a
unfolding ◌*F◌
mul_anti_f {a} {b} c hc h = record {
  le = subst₂ (λ (x y : ℤ). x ≤ℤ y) (scaled b.num (den_z a) c.num (den_z c)) (scaled a.num (den_z b) c.num (den_z c)) (mul_anti negative h.le);
}
  where
    negative : (c.num *ℤ den_z c) ≤ℤ pos 0
    negative = subst (λ (z : ℤ). (c.num *ℤ den_z c) ≤ℤ z) (zero-*ℤ (den_z c)) (mul_mono (den_nonneg c) hc)

pub comm_f : (a b : Fraction) → a *F b ≈F b *F a
comm_f a b = ring_f 2 (λ a b. a ⊗ b) (λ a b. b ⊗ a) tt (a ∷ b ∷ [])

-- The product of two fractions between bounds: what is at most each of the four corner products is at most the product, and so above.
module _ (a m n y : Fraction) (h : m ≤F y) (k : y ≤F n) where
  side_low : (L : Fraction) → L ≤F a *F m → L ≤F a *F n → L ≤F a *F y
  side_low L p q = elim (le_or_lt a.num (pos 0)) [ inl s ↦ ≤F_trans q (mul_anti_f a s k) | inr s ↦ ≤F_trans p (mul_mono_f a (<ℤ_le s) h) ]

  side_high : (U : Fraction) → a *F m ≤F U → a *F n ≤F U → a *F y ≤F U
  side_high U p q = elim (le_or_lt a.num (pos 0)) [ inl s ↦ ≤F_trans (mul_anti_f a s h) p | inr s ↦ ≤F_trans (mul_mono_f a (<ℤ_le s) k) q ]

module _ (l h m n x y : Fraction) (lx : l ≤F x) (xh : x ≤F h) (my : m ≤F y) (yn : y ≤F n) where
  pub product_low : (L : Fraction) → L ≤F l *F m → L ≤F l *F n → L ≤F h *F m → L ≤F h *F n → L ≤F x *F y
  product_low L p₁ p₂ p₃ p₄ =
      ≤F_trans (side_low y l h x lx xh L (≤F_trans (side_low l m n y my yn L p₁ p₂) (≈F_le (comm_f l y))) (≤F_trans (side_low h m n y my yn L p₃ p₄) (≈F_le (comm_f h y)))) (≈F_le (comm_f y x))

  pub product_high : (U : Fraction) → l *F m ≤F U → l *F n ≤F U → h *F m ≤F U → h *F n ≤F U → x *F y ≤F U
  product_high U p₁ p₂ p₃ p₄ =
      ≤F_trans (≈F_le (comm_f x y)) (side_high y l h x lx xh U (≤F_trans (≈F_le (comm_f y l)) (side_high l m n y my yn U p₁ p₂)) (≤F_trans (≈F_le (comm_f y h)) (side_high h m n y my yn U p₃ p₄)))

-- ---- negation and differences
pub neg_mono_f : {a b : Fraction} → a ≤F b → neg_f b ≤F neg_f a
neg_mono_f {a} {b} h = ≤F_trans (≈F_le (as_product b)) (≤F_trans (mul_anti_f (whole (negsuc 0)) (le_z_yes tt) h) (≈F_ge (as_product a)))
  where
    as_product : (a : Fraction) → neg_f a ≈F whole (negsuc 0) *F a
    as_product a = ring_f 1 (λ a. ⊝ a) (λ a. lit (negsuc 0) ⊗ a) tt (a ∷ [])

pub neg_lt : {a b : Fraction} → a <F b → neg_f b <F neg_f a
unfolding neg_f
neg_lt {a} {b} h = record { lt = subst₂ (λ (x y : ℤ). x <ℤ y) (sym (neg-*ℤ b.num (den_z a))) (sym (neg-*ℤ a.num (den_z b))) (neg_mono_lt h.lt) }

pub neg_neg_f : (a : Fraction) → neg_f (neg_f a) ≈F a
neg_neg_f a = ring_f 1 (λ a. ⊝ (⊝ a)) (λ a. a) tt (a ∷ [])

-- a difference is a sum with the negation
pub sub_is_add : (a b : Fraction) → a -F b ≈F a +F neg_f b
sub_is_add a b = ring_f 2 (λ a b. a ⊖ b) (λ a b. a ⊕ ⊝ b) tt (a ∷ b ∷ [])

pub sub_mono_f : {a b c d : Fraction} → a ≤F b → d ≤F c → a -F c ≤F b -F d
sub_mono_f {a} {b} {c} {d} h k = ≤F_trans (≈F_le (sub_is_add a c)) (≤F_trans (add_mono_f h (neg_mono_f k)) (≈F_ge (sub_is_add b d)))

-- ---- equality goes through the operations
pub add_cong_f : {a b c d : Fraction} → a ≈F b → c ≈F d → a +F c ≈F b +F d
add_cong_f p q = ≤F_antisym (add_mono_f (≈F_le p) (≈F_le q)) (add_mono_f (≈F_ge p) (≈F_ge q))

pub sub_cong_f : {a b c d : Fraction} → a ≈F b → c ≈F d → a -F c ≈F b -F d
sub_cong_f p q = ≤F_antisym (sub_mono_f (≈F_le p) (≈F_ge q)) (sub_mono_f (≈F_ge p) (≈F_le q))

pub neg_cong_f : {a b : Fraction} → a ≈F b → neg_f a ≈F neg_f b
neg_cong_f p = ≤F_antisym (neg_mono_f (≈F_ge p)) (neg_mono_f (≈F_le p))

mul_left : {a b : Fraction} (c : Fraction) → a ≈F b → c *F a ≈F c *F b
unfolding ◌*F◌
mul_left {a} {b} c p = record { eq = sym (scaled a.num (den_z b) c.num (den_z c)) ∙ ap (λ z. z *ℤ (c.num *ℤ den_z c)) p.eq ∙ scaled b.num (den_z a) c.num (den_z c) }

pub mul_cong_f : {a b c d : Fraction} → a ≈F b → c ≈F d → a *F c ≈F b *F d
mul_cong_f {a} {b} {c} {d} p q = ≈F_trans (mul_left a q) (≈F_trans (comm_f a d) (≈F_trans (mul_left d p) (comm_f d b)))

-- ---- against zero: the numerator's sign
num_one : (z : ℤ) → z *ℤ pos 1 ≡ z
num_one z = *ℤ_comm z (pos 1) ∙ one-*ℤ z

pub nonneg_num : {a : Fraction} → zero_f ≤F a → pos 0 ≤ℤ a.num
nonneg_num {a} h = subst₂ (λ (x y : ℤ). x ≤ℤ y) (zero-*ℤ (den_z a)) (num_one a.num) h.le

pub num_nonneg : {a : Fraction} → pos 0 ≤ℤ a.num → zero_f ≤F a
num_nonneg {a} h = record { le = subst₂ (λ (x y : ℤ). x ≤ℤ y) (sym (zero-*ℤ (den_z a))) (sym (num_one a.num)) h }

pub num_above : {a : Fraction} → pos 0 <ℤ a.num → zero_f <F a
num_above {a} h = record { lt = subst₂ (λ (x y : ℤ). x <ℤ y) (sym (zero-*ℤ (den_z a))) (sym (num_one a.num)) h }

pub num_below : {a : Fraction} → a.num <ℤ pos 0 → a <F zero_f
num_below {a} h = record { lt = subst₂ (λ (x y : ℤ). x <ℤ y) (sym (num_one a.num)) (sym (zero-*ℤ (den_z a))) h }

-- ---- what is divided by a whole number
pub over_is : (a : Fraction) {n : ℕ} (N : 0 < n) → a /F n ≈F a *F ratio (pos 1) n N
unfolding ◌/F◌ ◌*F◌
over_is a {n = zero} N = elim N [ ]
over_is a {n = suc n} N = record { eq = ring 2 (λ z d. z ⊗ d) (λ z d. z ⊗ lit (pos 1) ⊗ d) tt (a.num ∷ pos (a.den * suc n) ∷ []) }

pub over_mono : {a b : Fraction} {n : ℕ} → 0 < n → a ≤F b → a /F n ≤F b /F n
over_mono {a} {b} {n} N h = ≤F_trans (≈F_le (≈F_trans (over_is a N) (comm_f a (ratio (pos 1) n N)))) (≤F_trans (mul_mono_f (ratio (pos 1) n N) (le_z_yes tt) h) (≈F_ge (≈F_trans (over_is b N) (comm_f b (ratio (pos 1) n N)))))

pub over_cong : {a b : Fraction} {n : ℕ} → 0 < n → a ≈F b → a /F n ≈F b /F n
over_cong N e = ≤F_antisym (over_mono N (≈F_le e)) (over_mono N (≈F_ge e))

pub over_self : {n : ℕ} → 0 < n → whole (pos n) /F n ≈F one_f
unfolding ◌/F◌
over_self {n = zero} N = elim N [ ]
over_self {n = suc n} N = record { eq = ring 1 (λ n. n ⊗ lit (pos 1)) (λ n. lit (pos 1) ⊗ (lit (pos 1) ⊗ n)) tt (pos (suc n) ∷ []) }

pub over_zero : {n : ℕ} → 0 < n → zero_f /F n ≈F zero_f
over_zero {n} N = ≈F_trans (over_is zero_f N) (ring_f 1 (λ o. lit (pos 0) ⊗ o) (λ o. lit (pos 0)) tt (ratio (pos 1) n N ∷ []))

pub over_one : (a : Fraction) → a /F 1 ≈F a
over_one a = ≈F_trans (over_is a (lit< tt)) (ring_f 1 (λ a. a ⊗ lit (pos 1)) (λ a. a) tt (a ∷ []))

pub over_add : (a b : Fraction) {n : ℕ} → 0 < n → (a +F b) /F n ≈F a /F n +F b /F n
over_add a b {n} N = ≈F_trans (over_is (a +F b) N) (≈F_trans (ring_f 3 (λ a b o. (a ⊕ b) ⊗ o) (λ a b o. a ⊗ o ⊕ b ⊗ o) tt (a ∷ b ∷ ratio (pos 1) n N ∷ [])) (add_cong_f (≈F_sym (over_is a N)) (≈F_sym (over_is b N))))

pub over_sub : (a b : Fraction) {n : ℕ} → 0 < n → (a -F b) /F n ≈F a /F n -F b /F n
over_sub a b {n} N = ≈F_trans (over_is (a -F b) N) (≈F_trans (ring_f 3 (λ a b o. (a ⊖ b) ⊗ o) (λ a b o. a ⊗ o ⊖ b ⊗ o) tt (a ∷ b ∷ ratio (pos 1) n N ∷ [])) (sub_cong_f (≈F_sym (over_is a N)) (≈F_sym (over_is b N))))

pub over_mul : (a b : Fraction) {n : ℕ} → 0 < n → (a *F b) /F n ≈F a /F n *F b
over_mul a b {n} N = ≈F_trans (over_is (a *F b) N) (≈F_trans (ring_f 3 (λ a b o. a ⊗ b ⊗ o) (λ a b o. a ⊗ o ⊗ b) tt (a ∷ b ∷ ratio (pos 1) n N ∷ [])) (mul_cong_f (≈F_sym (over_is a N)) (≈F_refl b)))

pub over_product : (a b : Fraction) {m n : ℕ} → 0 < m → 0 < n → a /F m *F (b /F n) ≈F (a *F b) /F (m * n)
over_product a b {m} {n} M N = ≈F_trans (mul_cong_f (over_is a M) (over_is b N))
    (≈F_trans (ring_f 4 (λ a b o u. a ⊗ o ⊗ (b ⊗ u)) (λ a b o u. a ⊗ b ⊗ (o ⊗ u)) tt (a ∷ b ∷ ratio (pos 1) m M ∷ ratio (pos 1) n N ∷ []))
    (≈F_trans (mul_cong_f (≈F_refl (a *F b)) (mul_ratio (ratio (pos 1) m M) (ratio (pos 1) n N) (NatL.mul-pos M N))) (≈F_sym (over_is (a *F b) (NatL.mul-pos M N)))))

-- over n and times n again
pub over_times : (a : Fraction) {n : ℕ} → 0 < n → a /F n *F whole (pos n) ≈F a
unfolding ◌/F◌ ◌*F◌
over_times a {n = zero} N = elim N [ ]
over_times a {n = suc n} N = record { eq = ring 3 (λ z d n. z ⊗ n ⊗ d) (λ z d n. z ⊗ (d ⊗ n ⊗ lit (pos 1))) tt (a.num ∷ den_z a ∷ pos (suc n) ∷ []) }

pub over_whole : (z : ℤ) {n : ℕ} (N : 0 < n) → whole z /F n ≈F ratio z n N
unfolding ◌/F◌
over_whole z {n = zero} N = elim N [ ]
over_whole z {n = suc n} N = record { eq = ring 2 (λ z n. z ⊗ n) (λ z n. z ⊗ (lit (pos 1) ⊗ n)) tt (z ∷ pos (suc n) ∷ []) }

pub over_over : (a : Fraction) {m n : ℕ} → 0 < m → 0 < n → a /F m /F n ≈F a /F (m * n)
over_over a {m} {n} M N = ≈F_trans (over_is (a /F m) N) (≈F_trans (mul_cong_f (≈F_refl (a /F m)) (≈F_sym (over_whole (pos 1) N)))
    (≈F_trans (over_product a one_f M N) (over_cong (NatL.mul-pos M N) (ring_f 1 (λ a. a ⊗ lit (pos 1)) (λ a. a) tt (a ∷ [])))))

pub over_neg : (a : Fraction) {n : ℕ} → 0 < n → neg_f (a /F n) ≈F neg_f a /F n
over_neg a {n} N = ≈F_trans (neg_cong_f (over_is a N)) (≈F_trans (ring_f 2 (λ a o. ⊝ (a ⊗ o)) (λ a o. ⊝ a ⊗ o) tt (a ∷ ratio (pos 1) n N ∷ [])) (≈F_sym (over_is (neg_f a) N)))

-- ---- whole numbers among the fractions
pub whole_le : {z w : ℤ} → z ≤ℤ w → whole z ≤F whole w
whole_le h = same_den_le h

pub whole_add : (z w : ℤ) → whole z +F whole w ≈F whole (z +ℤ w)
unfolding ◌+F◌
whole_add z w = record { eq = ring 2 (λ z w. (z ⊗ lit (pos 1) ⊕ w ⊗ lit (pos 1)) ⊗ lit (pos 1)) (λ z w. (z ⊕ w) ⊗ lit (pos 1)) tt (z ∷ w ∷ []) }

pub whole_sub : (z w : ℤ) → whole z -F whole w ≈F whole (z -ℤ w)
unfolding ◌-F◌
whole_sub z w = record { eq = ring 2 (λ z w. (z ⊗ lit (pos 1) ⊖ w ⊗ lit (pos 1)) ⊗ lit (pos 1)) (λ z w. (z ⊖ w) ⊗ lit (pos 1)) tt (z ∷ w ∷ []) }

pub whole_mul : (z w : ℤ) → whole z *F whole w ≈F whole (z *ℤ w)
unfolding ◌*F◌
whole_mul z w = record { eq = refl }
