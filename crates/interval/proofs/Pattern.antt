-- The bit patterns of binary64: what number each stands for, in quanta of the least double above zero, 2 ^ -1074. A larger pattern stands
-- for a larger number. Assumes nothing.
use Rattle.std.proofs.Common.{◌≡◌, ℕ, zero, suc, ◌+◌, ◌-◌, ◌*◌, ◌/◌, ◌%◌, ◌^◌, ◌<◌, ◌≤◌, Bool, true, false, cond, not, T, eqb, ltb, leb, sym, refl, ap, ◌∙◌, subst, inl, inr, lt_trans, le_refl, lt_of_lt_of_le, le_of_lt, lt_irrefl, mul_assoc, eq-or-lt_of_le, mul-lt-mul_of_pos_right, not-le_of_lt, arith, lit<, le→leb, eqb→eq, ltb→lt, leb→le, nltb→le, pow_pos, pow_mono, shl_lt}
use native.Mathlib.Nat.{pow-succ', eq_of_mul-eq-mul_right}
use lib.Dec.{nleb→lt, not_T}
use lib.Arith.{lt→nleb}
use lib.Ieee.{Float, nan, inf, fin, binary64, odd, of_fields, of_bits, to_bits, nan_bits, is_nan, fits, up, down}
use lib.Ieee.Bits.{is_true, is_false, cond_no, of_bits-to_bits, to_bits-lt, nan_bits_is, nan_bits_above}
use lib.Ieee.Fits.{down_pos}
use lib.Ieee.Exact.{HasValue, odd_sign}
use lib.Ieee.Scale.{finite}

-- how many quanta are 1
abbrev pub quantum : ℕ
quantum = 2 ^ 1074

-- from here on a value is an infinity
abbrev pub over : ℕ
over = 2 ^ 2098

-- x has the sign s and is `a` quanta in size; an infinity counts as `over`
abbrev pub Quanta : Float → Bool → ℕ → Type 0
Quanta nan s a = ⊥
Quanta (inf t) s a = (t ≡ s) × (a ≡ over)
Quanta (fin t m e) s a = (t ≡ s) × (m * up e * quantum ≡ a * down e) × (a < over)

pub quanta_of_value : (x : Float) (s : Bool) (a : ℕ) → a < over → HasValue x s a quantum → Quanta x s a
quanta_of_value nan s a h v = v
quanta_of_value (inf t) s a h v = absurd v
quanta_of_value (fin t m e) s a h v = (v.0, v.1, h)

pub quanta_unique : (x : Float) (s t : Bool) (a b : ℕ) → Quanta x s a → Quanta x t b → a ≡ b
quanta_unique nan s t a b p q = absurd p
quanta_unique (inf u) s t a b p q = p.1 ∙ sym q.1
quanta_unique (fin u m e) s t a b p q = eq_of_mul-eq-mul_right (down e) (down_pos e) a b (sym p.1 ∙ q.1)

-- ---- the digits and the shift of an exponent's field x and digits t
abbrev pub digits : ℕ → ℕ → ℕ
digits zero t = t
digits (suc x) t = 0x10_0000_0000_0000 + t

abbrev pub shift : ℕ → ℕ
shift zero = 0
shift (suc x) = x

abbrev pub val : ℕ → ℕ
val b = digits (b / 0x10_0000_0000_0000) (b % 0x10_0000_0000_0000) * 2 ^ shift (b / 0x10_0000_0000_0000)

not_ones : (x : ℕ) → suc x < 2047 → suc x ≡ 2047 → ⊥
not_ones x h e = omega arith

fields_is : (s : Bool) (x t : ℕ) → x < 2047 → of_fields binary64 s x t ≡ odd 53 s (digits x t) (shift x) 1074
unfolding of_fields
fields_is s zero t h = refl
fields_is s (suc x) t h = cond_no (eqb (suc x) 2047) (cond (eqb t 0) (inf s) nan) (odd 53 s (0x10_0000_0000_0000 + t) x 1074) (not_T (eqb (suc x) 2047) (λ (u : T (eqb (suc x) 2047)). not_ones x h (eqb→eq (suc x) 2047 u)))

inf_is : (s : Bool) → of_fields binary64 s 2047 0 ≡ inf s
unfolding of_fields
inf_is s = refl

digits_lt : (x t : ℕ) → t < 0x10_0000_0000_0000 → digits x t < 2 ^ 53
digits_lt zero t h = omega arith
digits_lt (suc x) t h = omega arith

shift_le : (x : ℕ) → x < 2047 → shift x ≤ 2045
shift_le zero h = omega arith
shift_le (suc x) h = omega arith

small_mod : (b : ℕ) → b % 0x10_0000_0000_0000 < 0x10_0000_0000_0000
small_mod b = omega arith

pub val_lt : (b : ℕ) → b < 0x7ff0_0000_0000_0000 → val b < over
val_lt b h =
    lt_of_lt_of_le (shl_lt 53 (shift (b / 0x10_0000_0000_0000)) (digits_lt (b / 0x10_0000_0000_0000) (b % 0x10_0000_0000_0000) (small_mod b)))
    (pow_mono (room (shift (b / 0x10_0000_0000_0000)) (shift_le (b / 0x10_0000_0000_0000) (field b h))))
  where
    field : (b : ℕ) → b < 0x7ff0_0000_0000_0000 → b / 0x10_0000_0000_0000 < 2047
    field b h = omega arith

    room : (k : ℕ) → k ≤ 2045 → 53 + k ≤ 2098
    room k h = omega arith

-- ---- a pattern is its sign's bit and the rest
plain_field : (b : ℕ) → b ≤ 0x7ff0_0000_0000_0000 → (0 + b) % 0x8000_0000_0000_0000 / 0x10_0000_0000_0000 ≡ b / 0x10_0000_0000_0000
plain_field b h = omega arith

signed_field : (b : ℕ) → b ≤ 0x7ff0_0000_0000_0000 → (0x8000_0000_0000_0000 + b) % 0x8000_0000_0000_0000 / 0x10_0000_0000_0000 ≡ b / 0x10_0000_0000_0000
signed_field b h = omega arith

signed_digits : (b : ℕ) → (0x8000_0000_0000_0000 + b) % 0x10_0000_0000_0000 ≡ b % 0x10_0000_0000_0000
signed_digits b = omega arith

plain_digits : (b : ℕ) → (0 + b) % 0x10_0000_0000_0000 ≡ b % 0x10_0000_0000_0000
plain_digits b = omega arith

plain_lt : (b : ℕ) → b ≤ 0x7ff0_0000_0000_0000 → 0 + b < 0x8000_0000_0000_0000
plain_lt b h = omega arith

signed_le : (b : ℕ) → 0x8000_0000_0000_0000 ≤ 0x8000_0000_0000_0000 + b
signed_le b = omega arith

abbrev pub with_sign : Bool → ℕ → ℕ
with_sign s b = cond s 0x8000_0000_0000_0000 0 + b

of_bits_is : (n : ℕ) → of_bits binary64 n ≡ of_fields binary64 (leb 0x8000_0000_0000_0000 n) (n % 0x8000_0000_0000_0000 / 0x10_0000_0000_0000) (n % 0x10_0000_0000_0000)
unfolding of_bits
of_bits_is n = refl

pub read : (s : Bool) (b : ℕ) → b ≤ 0x7ff0_0000_0000_0000 → of_bits binary64 (with_sign s b) ≡ of_fields binary64 s (b / 0x10_0000_0000_0000) (b % 0x10_0000_0000_0000)
read true b h =
    of_bits_is (0x8000_0000_0000_0000 + b)
    ∙ ap (λ (s : Bool). of_fields binary64 s ((0x8000_0000_0000_0000 + b) % 0x8000_0000_0000_0000 / 0x10_0000_0000_0000) ((0x8000_0000_0000_0000 + b) % 0x10_0000_0000_0000)) (is_true (leb 0x8000_0000_0000_0000 (0x8000_0000_0000_0000 + b)) (le→leb 0x8000_0000_0000_0000 (0x8000_0000_0000_0000 + b) (signed_le b)))
    ∙ ap (λ (x : ℕ). of_fields binary64 true x ((0x8000_0000_0000_0000 + b) % 0x10_0000_0000_0000)) (signed_field b h)
    ∙ ap (λ (x : ℕ). of_fields binary64 true (b / 0x10_0000_0000_0000) x) (signed_digits b)
read false b h =
    of_bits_is (0 + b)
    ∙ ap (λ (s : Bool). of_fields binary64 s ((0 + b) % 0x8000_0000_0000_0000 / 0x10_0000_0000_0000) ((0 + b) % 0x10_0000_0000_0000)) (is_false (leb 0x8000_0000_0000_0000 (0 + b)) (lt→nleb 0x8000_0000_0000_0000 (0 + b) (plain_lt b h)))
    ∙ ap (λ (x : ℕ). of_fields binary64 false x ((0 + b) % 0x10_0000_0000_0000)) (plain_field b h)
    ∙ ap (λ (x : ℕ). of_fields binary64 false (b / 0x10_0000_0000_0000) x) (plain_digits b)

finite_field : (b : ℕ) → b < 0x7ff0_0000_0000_0000 → b / 0x10_0000_0000_0000 < 2047
finite_field b h = omega arith

-- the value of a pattern below the infinity's is a value that the format holds
pub val_exact : (b : ℕ) → b < 0x7ff0_0000_0000_0000 → digits (b / 0x10_0000_0000_0000) (b % 0x10_0000_0000_0000) < 2 ^ 53
val_exact b h = digits_lt (b / 0x10_0000_0000_0000) (b % 0x10_0000_0000_0000) (small_mod b)

pub bits_value : (s : Bool) (b : ℕ) → b < 0x7ff0_0000_0000_0000 → HasValue (of_bits binary64 (with_sign s b)) s (val b) quantum
bits_value s b h =
    let x = b / 0x10_0000_0000_0000 in
    let t = b % 0x10_0000_0000_0000 in
    subst (λ (v : Float). HasValue v s (val b) quantum) (sym (read s b (le_of_lt h) ∙ fields_is s x t (finite_field b h))) (odd_sign 53 s (digits x t) (shift x) 1074)

pub bits_inf : (s : Bool) → of_bits binary64 (with_sign s 0x7ff0_0000_0000_0000) ≡ inf s
bits_inf s = read s 0x7ff0_0000_0000_0000 (le_refl 0x7ff0_0000_0000_0000) ∙ inf_is s

pub val_inf : val 0x7ff0_0000_0000_0000 ≡ over
val_inf = refl

pub bits_quanta : (s : Bool) (b : ℕ) → b ≤ 0x7ff0_0000_0000_0000 → Quanta (of_bits binary64 (with_sign s b)) s (val b)
bits_quanta s b h = elim (eq-or-lt_of_le h) [
  | inl e ↦ subst (λ (k : ℕ). Quanta (of_bits binary64 (with_sign s k)) s (val k)) (sym e) (subst (λ (v : Float). Quanta v s (val 0x7ff0_0000_0000_0000)) (sym (bits_inf s)) (refl, val_inf))
  | inr l ↦ quanta_of_value (of_bits binary64 (with_sign s b)) s (val b) (val_lt b l) (bits_value s b l)
]

-- ---- a larger pattern stands for a larger number
same_field : (b : ℕ) → b % 0x10_0000_0000_0000 < 0xf_ffff_ffff_ffff → (b + 1) / 0x10_0000_0000_0000 ≡ b / 0x10_0000_0000_0000
same_field b h = omega arith

next_digit : (b : ℕ) → b % 0x10_0000_0000_0000 < 0xf_ffff_ffff_ffff → (b + 1) % 0x10_0000_0000_0000 ≡ suc (b % 0x10_0000_0000_0000)
next_digit b h = omega arith

next_field : (b : ℕ) → b % 0x10_0000_0000_0000 ≡ 0xf_ffff_ffff_ffff → (b + 1) / 0x10_0000_0000_0000 ≡ suc (b / 0x10_0000_0000_0000)
next_field b h = omega arith

no_digit : (b : ℕ) → b % 0x10_0000_0000_0000 ≡ 0xf_ffff_ffff_ffff → (b + 1) % 0x10_0000_0000_0000 ≡ 0
no_digit b h = omega arith

more : (x t : ℕ) → digits x t < digits x (suc t)
more zero t = omega arith
more (suc x) t = omega arith

carry : (x : ℕ) → digits x 0xf_ffff_ffff_ffff * 2 ^ shift x < 0x10_0000_0000_0000 * 2 ^ x
carry zero = lit< tt
carry (suc x) =
    subst (λ (k : ℕ). 0x1f_ffff_ffff_ffff * 2 ^ x < k) (mul_assoc 0x10_0000_0000_0000 2 (2 ^ x) ∙ ap (λ (k : ℕ). 0x10_0000_0000_0000 * k) (sym (pow-succ' 2 x)))
    (mul-lt-mul_of_pos_right (lit< tt) (pow_pos x))

last : (b : ℕ) → b % 0x10_0000_0000_0000 ≤ 0xf_ffff_ffff_ffff
last b = omega arith

pub val_step : (b : ℕ) → val b < val (b + 1)
val_step b =
    let x = b / 0x10_0000_0000_0000 in
    let t = b % 0x10_0000_0000_0000 in
    elim (eq-or-lt_of_le (last b)) [
      | inl e ↦
          subst (λ (y : ℕ). val b < digits y ((b + 1) % 0x10_0000_0000_0000) * 2 ^ shift y) (sym (next_field b e))
          (subst (λ (u : ℕ). val b < (0x10_0000_0000_0000 + u) * 2 ^ x) (sym (no_digit b e))
          (subst (λ (u : ℕ). digits x u * 2 ^ shift x < (0x10_0000_0000_0000 + 0) * 2 ^ x) (sym e) (carry x)))
      | inr l ↦
          subst (λ (y : ℕ). val b < digits y ((b + 1) % 0x10_0000_0000_0000) * 2 ^ shift y) (sym (same_field b l))
          (subst (λ (u : ℕ). val b < digits x u * 2 ^ shift x) (sym (next_digit b l)) (mul-lt-mul_of_pos_right (more x t) (pow_pos (shift x))))
    ]

val_grow : (b d : ℕ) → val b < val (b + suc d)
val_grow b zero = val_step b
val_grow b (suc d) = lt_trans (val_grow b d) (subst (λ (k : ℕ). val (b + suc d) < val k) (next b d) (val_step (b + suc d)))
  where
    next : (b d : ℕ) → b + suc d + 1 ≡ b + suc (suc d)
    next b d = omega arith

pub val_mono : (b c : ℕ) → b < c → val b < val c
val_mono b c h = subst (λ (k : ℕ). val b < val k) (reach b c h) (val_grow b (c - suc b))
  where
    reach : (b c : ℕ) → b < c → b + suc (c - suc b) ≡ c
    reach b c h = omega arith

-- ---- the patterns of a NaN
pub bits_lt : (x : Float) → T (fits binary64 x) → to_bits binary64 x < 0x1_0000_0000_0000_0000
bits_lt x h = to_bits-lt binary64 x h

-- without its sign a pattern that is no NaN's is at most the infinity's
pub bits_cap : (x : Float) → T (fits binary64 x) → T (not (is_nan x)) → to_bits binary64 x % 0x8000_0000_0000_0000 ≤ 0x7ff0_0000_0000_0000
bits_cap x h k =
    nltb→le 0x7ff0_0000_0000_0000 (to_bits binary64 x % 0x8000_0000_0000_0000)
    (subst (λ (b : Bool). T (not b)) (nan_bits_above binary64 (to_bits binary64 x))
    (subst (λ (b : Bool). T (not b)) (sym (nan_bits_is binary64 (to_bits binary64 x)))
    (subst (λ (v : Float). T (not (is_nan v))) (sym (of_bits-to_bits binary64 x h)) k)))

pub no_nan_bits : (n : ℕ) → n % 0x8000_0000_0000_0000 ≤ 0x7ff0_0000_0000_0000 → T (not (nan_bits binary64 n))
no_nan_bits n h = subst (λ (b : Bool). T (not b)) (sym (nan_bits_above binary64 n)) (not_T (ltb 0x7ff0_0000_0000_0000 (n % 0x8000_0000_0000_0000)) (λ t. not-le_of_lt (ltb→lt 0x7ff0_0000_0000_0000 (n % 0x8000_0000_0000_0000) t) h))

-- ---- every value that is no NaN has a sign and a pattern
abbrev pub Pattern : Float → Bool → ℕ → Type 0
Pattern x s b = (to_bits binary64 x ≡ with_sign s b) × (b ≤ 0x7ff0_0000_0000_0000) × Quanta x s (val b)

split : (n : ℕ) → n < 0x1_0000_0000_0000_0000 → (s : Bool) × (n ≡ with_sign s (n % 0x8000_0000_0000_0000))
split n h = go (leb 0x8000_0000_0000_0000 n) (leb→le 0x8000_0000_0000_0000 n) (λ t. nleb→lt 0x8000_0000_0000_0000 n t)
  where
    hi : (n : ℕ) → n < 0x1_0000_0000_0000_0000 → 0x8000_0000_0000_0000 ≤ n → n ≡ 0x8000_0000_0000_0000 + n % 0x8000_0000_0000_0000
    hi n h k = omega arith

    lo : (n : ℕ) → n < 0x8000_0000_0000_0000 → n ≡ 0 + n % 0x8000_0000_0000_0000
    lo n h = omega arith

    go : (b : Bool) → (T b → 0x8000_0000_0000_0000 ≤ n) → (T (not b) → n < 0x8000_0000_0000_0000) → (s : Bool) × (n ≡ with_sign s (n % 0x8000_0000_0000_0000))
    go true p q = (true, hi n h (p tt))
    go false p q = (false, lo n (q tt))

pub has_pattern : (x : Float) → T (fits binary64 x) → T (not (is_nan x)) → (s : Bool) × (b : ℕ) × Pattern x s b
has_pattern x h k =
    let n = to_bits binary64 x in
    let w = split n (bits_lt x h) in
    let b = n % 0x8000_0000_0000_0000 in
    let cap = bits_cap x h k in
    (w.0, b, (w.1, cap, subst (λ (v : Float). Quanta v w.0 (val b)) (ap (of_bits binary64) (sym w.1) ∙ of_bits-to_bits binary64 x h) (bits_quanta w.0 b cap)))

-- a finite value's pattern is below the infinity's
pub below_infinity : (x : Float) (s : Bool) (b : ℕ) → T (finite x) → b ≤ 0x7ff0_0000_0000_0000 → Quanta x s (val b) → b < 0x7ff0_0000_0000_0000
below_infinity nan s b f h p = absurd f
below_infinity (inf t) s b f h p = absurd f
below_infinity (fin t m e) s b f h p = elim (eq-or-lt_of_le h) [
  | inl q ↦ absurd (lt_irrefl over (subst (λ (k : ℕ). k < over) (ap val q ∙ val_inf) p.2))
  | inr l ↦ l
]

pub finite_real : (x : Float) → T (finite x) → T (not (is_nan x))
unfolding is_nan
finite_real nan h = h
finite_real (inf s) h = tt
finite_real (fin s m e) h = tt

pub finite_pattern : (x : Float) → T (fits binary64 x) → T (finite x) → (s : Bool) × (b : ℕ) × (b < 0x7ff0_0000_0000_0000) × Quanta x s (val b) × (to_bits binary64 x ≡ with_sign s b)
finite_pattern x h f =
    let w = has_pattern x h (finite_real x f) in
    (w.0, w.1, below_infinity x w.0 w.1 f w.2.1 w.2.2, w.2.2, w.2.0)
