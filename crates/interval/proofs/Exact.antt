-- Results that rounding leaves alone: a fraction z / 2 ^ j with |z| below 2 ^ 53 is a double. So are ticks, n / 1024, whole numbers, and the
-- `mid` of two such. Assumes nothing.
use Rattle.std.proofs.Common.{◌≡◌, ℕ, zero, suc, ◌+◌, ◌-◌, ◌*◌, ◌^◌, ◌<◌, ◌≤◌, Bool, true, false, T, leb, [], ◌∷◌, ℤ, pos, negsuc, ◌+ℤ◌, ◌*ℤ◌, nat_abs, sym, refl, ap, ◌∙◌, subst, lt_of_lt_of_le, lt_of_le_of_lt, mul_assoc, mul-pos, mul_right_comm, arith, lit<, leb→le, pow_pos, pow_mono, pow-add, shl_lt}
use native.Mathlib.Nat.{two-pow-succ}
use lib.Ieee.{Float, nan, inf, fin, binary64, mul, of_bits, up, down}
use lib.Ieee.Exact.{HasValue, round_exact}
use lib.Ieee.Scale.{finite}
use Rattle.exact.specs.Fraction.{Fraction, ratio, ◌+F◌, ◌*F◌, ◌≈F◌}
use Rattle.exact.proofs.Size.{within_add, within_self}
use Rattle.exact.proofs.Ring.{lit, ◌⊕◌, ◌⊗◌, ring}
use Rattle.exact.proofs.Fraction.{≤F_trans, ≈F_le, ≈F_ge, ≈F_refl, ≈F_trans, add_ratio, mul_ratio, add_cong_f, mul_cong_f}
use Rattle.interval.specs.declared.Interval.{Interval}
use Rattle.interval.specs.Step.{b64}
use Rattle.interval.specs.Interval.{mid}
use Rattle.interval.specs.Nearest.{nearest}
use Rattle.interval.specs.Encloses.{signed, value, Small}
use Rattle.interval.proofs.Signs.{signed_times}
use Rattle.interval.proofs.Rounding.{Rounds}
use Rattle.interval.proofs.Small.{abs_ratio, abs_small}
use Rattle.interval.proofs.Operations.{nearest_rounds, add_rounds, mul_rounds}

pub has_value : (x : Float) (s : Bool) (n d : ℕ) (D : 0 < d) → HasValue x s n d → T (finite x) × (value x ≈F ratio (signed s n) d D)
has_value nan s n d D h = absurd h
has_value (inf t) s n d D h = absurd h
has_value (fin t m e) s n d D h = (tt, record { eq = ap (λ (u : Bool). signed u (m * up e) *ℤ pos d) h.0 ∙ signed_times s (m * up e) d ∙ ap (signed s) h.1 ∙ sym (signed_times s n (down e)) })

-- ---- sizes of equal products
abs_signed : (s : Bool) (n : ℕ) → nat_abs (signed s n) ≡ n
abs_signed true zero = refl
abs_signed true (suc n) = refl
abs_signed false n = refl

abs_times : (z : ℤ) (d : ℕ) → nat_abs (z *ℤ pos d) ≡ nat_abs z * d
abs_times (pos n) d = refl
abs_times (negsuc n) d = abs_signed true (suc n * d)

-- ---- the fraction z / 2 ^ j
abbrev pub binary : ℤ → ℕ → Fraction
binary z j = ratio z (2 ^ j) (pow_pos j)

exact_rounds : (j : ℕ) (z : ℤ) {x : Float} {q : Fraction} → T (leb j 1074) → nat_abs z < 2 ^ 53 → q ≈F binary z j → Rounds x q → T (finite x) × (value x ≈F q)
exact_rounds j z {x} {q} t h e r =
    let k = r.top in
    let c = r.bottom in
    let p : k * 2 ^ j ≡ nat_abs z * c = sym (ap nat_abs (signed_times r.sign k (2 ^ j)) ∙ abs_signed r.sign (k * 2 ^ j)) ∙ ap nat_abs (≈F_trans r.same e).eq ∙ abs_times z c in
    let v = round_exact binary64 r.sign k c (nat_abs z) (1074 - j) r.bottom_pos h (room (nat_abs z) (1074 - j) h (sub_le 1074 j)) (scale j k c (nat_abs z) (leb→le j 1074 t) p) in
    let w = has_value x r.sign k c r.bottom_pos (subst (λ (y : Float). HasValue y r.sign k c) (sym r.is) v) in
    (w.0, ≈F_trans w.1 r.same)
  where
    sub_le : (a b : ℕ) → a - b ≤ a
    sub_le a b = omega arith

    room : (n i : ℕ) → n < 2 ^ 53 → i ≤ 1074 → n * 2 ^ i < 2 ^ 2098
    room n i h k = lt_of_lt_of_le (shl_lt 53 i h) (pow_mono (reach i k))
      where
        reach : (i : ℕ) → i ≤ 1074 → 53 + i ≤ 2098
        reach i h = omega arith

    scale : (j k c n : ℕ) → j ≤ 1074 → k * 2 ^ j ≡ n * c → k * 2 ^ 1074 ≡ n * 2 ^ (1074 - j) * c
    scale j k c n h p =
        ap (λ (i : ℕ). k * 2 ^ i) (sym (whole' j h)) ∙ ap (λ (i : ℕ). k * i) (pow-add 2 j (1074 - j)) ∙ sym (mul_assoc k (2 ^ j) (2 ^ (1074 - j))) ∙ ap (λ (i : ℕ). i * 2 ^ (1074 - j)) p ∙ mul_right_comm n c (2 ^ (1074 - j))
      where
        whole' : (j : ℕ) → j ≤ 1074 → j + (1074 - j) ≡ 1074
        whole' j h = omega arith

pub exact_small : (k j : ℕ) (z : ℤ) (x : Float) → T (finite x) → value x ≈F binary z j → nat_abs z ≤ 2 ^ k * 2 ^ j → Small k x
exact_small k j z x f e h =
    let a = abs_ratio k (binary z j) h in
    abs_small k x f (record { low = ≤F_trans a.low (≈F_ge e); high = ≤F_trans (≈F_le e) a.high })

-- the nearest double of z / 2 ^ j is z / 2 ^ j: ticks at j = 10, whole numbers at j = 0
pub nearest_exact : (j : ℕ) (z : ℤ) → T (leb j 1074) → nat_abs z < 2 ^ 53 → T (finite (nearest z (2 ^ j))) × (value (nearest z (2 ^ j)) ≈F binary z j)
nearest_exact j z t h = exact_rounds j z t h (≈F_refl (binary z j)) (nearest_rounds z (2 ^ j) (pow_pos j))

-- ---- `mid`
pub add_binary : (z w : ℤ) (j : ℕ) → binary z j +F binary w j ≈F binary (z +ℤ w) j
add_binary z w j = ≈F_trans (add_ratio (binary z j) (binary w j) (mul-pos (pow_pos j) (pow_pos j))) (record { eq = ring 3 (λ z w p. (z ⊗ p ⊕ w ⊗ p) ⊗ p) (λ z w p. (z ⊕ w) ⊗ (p ⊗ p)) tt (z ∷ w ∷ pos (2 ^ j) ∷ []) })

half_binary : (z : ℤ) (j : ℕ) → binary z j *F binary (pos 1) 1 ≈F binary z (suc j)
half_binary z j = ≈F_trans (mul_ratio (binary z j) (binary (pos 1) 1) (mul-pos (pow_pos j) (lit< tt))) (record { eq = ap (λ (p : ℕ). z *ℤ pos 1 *ℤ pos p) (doubled (2 ^ j) (2 ^ suc j) (two-pow-succ j)) ∙ ring 2 (λ z p. z ⊗ lit (pos 1) ⊗ p) (λ z p. z ⊗ p) tt (z ∷ pos (2 ^ j * 2) ∷ []) })
  where
    doubled : (a b : ℕ) → b ≡ a + a → b ≡ a * 2
    doubled a b e = omega arith

abbrev half : Float
half = b64 0x3fe0_0000_0000_0000

half_value : T (finite half) × (value half ≈F binary (pos 1) 1)
unfolding of_bits
half_value = (tt, record { eq = refl })

halved : (j : ℕ) (z : ℤ) (x : Float) → T (leb (suc j) 1074) → nat_abs z < 2 ^ 53 → T (finite x) → value x ≈F binary z j → T (finite (mul binary64 x half)) × (value (mul binary64 x half) ≈F binary z (suc j))
halved j z x t h f e =
    let p = ≈F_trans (mul_cong_f e half_value.1) (half_binary z j) in
    let r = exact_rounds (suc j) z t h p (mul_rounds x half f half_value.0) in
    (r.0, ≈F_trans r.1 p)

pub mid_exact : (j : ℕ) (z w : ℤ) (X : Interval) → T (leb (suc j) 1074) → nat_abs z + nat_abs w < 2 ^ 53 → T (finite X.lo) → T (finite X.hi) → value X.lo ≈F binary z j → value X.hi ≈F binary w j → T (finite (mid X)) × (value (mid X) ≈F binary (z +ℤ w) (suc j))
unfolding mid
mid_exact j z w X t h f g p q =
    let a = halved j z X.lo t (left (nat_abs z) (nat_abs w) h) f p in
    let b = halved j w X.hi t (right (nat_abs z) (nat_abs w) h) g q in
    let e = ≈F_trans (add_cong_f a.1 b.1) (add_binary z w (suc j)) in
    let s = within_add (within_self z) (within_self w) in
    let r = exact_rounds (suc j) (z +ℤ w) t (lt_of_le_of_lt s.abs h) e (add_rounds (mul binary64 X.lo half) (mul binary64 X.hi half) a.0 b.0) in
    (r.0, ≈F_trans r.1 e)
  where
    left : (a b : ℕ) → a + b < 2 ^ 53 → a < 2 ^ 53
    left a b h = omega arith

    right : (a b : ℕ) → a + b < 2 ^ 53 → b < 2 ^ 53
    right a b h = omega arith
