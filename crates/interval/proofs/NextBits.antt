-- The next double by its bit pattern: one more or one less than the pattern of the double itself, by the sign. Assumes nothing.
use Rattle.std.proofs.Common.{◌≡◌, ℕ, zero, suc, ◌+◌, ◌-◌, ◌/◌, ◌%◌, ◌<◌, ◌≤◌, Bool, true, false, cond, not, T, eqb, sym, refl, ap, ◌∙◌, true≢false, le_of_lt, arith, le-ltb, lt-ltb, ne_eqb}
use mathlib.Core.Bool.{false≢true}
use lib.Ieee.{Float, nan, inf, fin, binary64, neg, is_nan, to_bits, of_bits, of_fields, odd}
use lib.Ieee.Bits.{is_false}
use Rattle.interval.specs.Step.{up_from, next_up, next_down}
use Rattle.interval.proofs.Pattern.{Quanta, val, read, with_sign}
use Rattle.interval.proofs.Rounding.{odd_neg}

-- ---- where the next value lies
up_low : (n : ℕ) (x : Float) → n < 0x7ff0_0000_0000_0000 → up_from n x ≡ of_bits binary64 (n + 1)
unfolding up_from
up_low zero x h = refl
up_low (suc n) x h =
    let m = suc n in
    let a : m ≡ 0x7ff0_0000_0000_0000 → ⊥ = omega arith in
    let b : m ≡ 0 → ⊥ = omega arith in
    let c : m ≡ 0x8000_0000_0000_0000 → ⊥ = omega arith in
    let d : m < 0x8000_0000_0000_0000 = omega arith in
    simp (ne_eqb m 0x7ff0_0000_0000_0000 a, ne_eqb m 0 b, ne_eqb m 0x8000_0000_0000_0000 c, lt-ltb m 0x8000_0000_0000_0000 d)

up_high : (n : ℕ) (x : Float) → 0x8000_0000_0000_0000 < n → up_from n x ≡ of_bits binary64 (n - 1)
unfolding up_from
up_high n x h =
    let a : n ≡ 0x7ff0_0000_0000_0000 → ⊥ = omega arith in
    let b : n ≡ 0 → ⊥ = omega arith in
    let c : n ≡ 0x8000_0000_0000_0000 → ⊥ = omega arith in
    let d : 0x8000_0000_0000_0000 ≤ n = omega arith in
    simp (ne_eqb n 0x7ff0_0000_0000_0000 a, ne_eqb n 0 b, ne_eqb n 0x8000_0000_0000_0000 c, le-ltb n 0x8000_0000_0000_0000 d)

up_zero : (x : Float) → up_from 0x8000_0000_0000_0000 x ≡ of_bits binary64 1
unfolding up_from
up_zero x = refl

next_is : (x : Float) → T (not (is_nan x)) → next_up x ≡ up_from (to_bits binary64 x) x
unfolding next_up
next_is x h = rw (is_false (is_nan x) h)

-- ---- the sign's bit
fields_neg : (s : Bool) (x t : ℕ) → neg (of_fields binary64 s x t) ≡ of_fields binary64 (not s) x t
unfolding neg of_fields
fields_neg s zero t = odd_neg 53 s t 0 1074
fields_neg s (suc x) t = pick (eqb (suc x) 2047) (eqb t 0)
  where
    pick : (b c : Bool) → neg (cond b (cond c (inf s) nan) (odd 53 s (0x10_0000_0000_0000 + t) x 1074)) ≡ cond b (cond c (inf (not s)) nan) (odd 53 (not s) (0x10_0000_0000_0000 + t) x 1074)
    pick true true = refl
    pick true false = refl
    pick false c = odd_neg 53 s (0x10_0000_0000_0000 + t) x 1074

of_bits_neg : (s : Bool) (b : ℕ) → b ≤ 0x7ff0_0000_0000_0000 → neg (of_bits binary64 (with_sign s b)) ≡ of_bits binary64 (with_sign (not s) b)
of_bits_neg s b h = ap neg (read s b h) ∙ fields_neg s (b / 0x10_0000_0000_0000) (b % 0x10_0000_0000_0000) ∙ sym (read (not s) b h)

flip : (t s : Bool) (k q b : ℕ) → t ≡ s → cond t 0x8000_0000_0000_0000 0 + k + q ≡ with_sign s b → cond (not t) 0x8000_0000_0000_0000 0 + k + q ≡ with_sign (not s) b
flip true true k q b e h = omega arith
flip true false k q b e h = absurd (true≢false e)
flip false true k q b e h = absurd (false≢true e)
flip false false k q b e h = omega arith

flip_inf : (t s : Bool) (b : ℕ) → t ≡ s → cond t 0x8000_0000_0000_0000 0 + 0x7ff0_0000_0000_0000 ≡ with_sign s b → cond (not t) 0x8000_0000_0000_0000 0 + 0x7ff0_0000_0000_0000 ≡ with_sign (not s) b
flip_inf true true b e h = omega arith
flip_inf true false b e h = absurd (true≢false e)
flip_inf false true b e h = absurd (false≢true e)
flip_inf false false b e h = omega arith

to_bits_neg : (x : Float) (s : Bool) (b : ℕ) → Quanta x s (val b) → to_bits binary64 x ≡ with_sign s b → to_bits binary64 (neg x) ≡ with_sign (not s) b
unfolding neg to_bits
to_bits_neg nan s b p h = absurd p
to_bits_neg (inf t) s b p h = flip_inf t s b p.0 h
to_bits_neg (fin t m e) s b p h = flip t s _ _ b p.0 h

neg_nan : (x : Float) → T (not (is_nan x)) → T (not (is_nan (neg x)))
unfolding is_nan neg
neg_nan nan h = h
neg_nan (inf s) h = tt
neg_nan (fin s m e) h = tt

-- ---- one step, by the pattern's sign and size
-- not negative, by the sign, or -0
abbrev pub NotBelow : Bool → ℕ → Type 0
NotBelow false b = Unit {0}
NotBelow true b = b ≡ 0

shut : (b : ℕ) → b < 0x7ff0_0000_0000_0000 → 0 + b < 0x7ff0_0000_0000_0000
shut b h = omega arith

more : (b : ℕ) → 0 + b + 1 ≡ 0 + (b + 1)
more b = omega arith

pub up_away : (x : Float) (s : Bool) (b : ℕ) → T (not (is_nan x)) → to_bits binary64 x ≡ with_sign s b → b < 0x7ff0_0000_0000_0000 → NotBelow s b → next_up x ≡ of_bits binary64 (with_sign false (b + 1))
up_away x false b n p h q = next_is x n ∙ ap (λ (k : ℕ). up_from k x) p ∙ up_low (0 + b) x (shut b h) ∙ ap (of_bits binary64) (more b)
up_away x true b n p h q = next_is x n ∙ ap (λ (k : ℕ). up_from k x) (p ∙ ap (λ (k : ℕ). 0x8000_0000_0000_0000 + k) q) ∙ up_zero x ∙ ap (λ (k : ℕ). of_bits binary64 (0 + (k + 1))) (sym q)

pub up_toward : (x : Float) (b : ℕ) → T (not (is_nan x)) → to_bits binary64 x ≡ with_sign true (suc b) → next_up x ≡ of_bits binary64 (with_sign true b)
up_toward x b n p = next_is x n ∙ ap (λ (k : ℕ). up_from k x) p ∙ up_high (0x8000_0000_0000_0000 + suc b) x (hi b) ∙ ap (of_bits binary64) (back b)
  where
    hi : (b : ℕ) → 0x8000_0000_0000_0000 < 0x8000_0000_0000_0000 + suc b
    hi b = omega arith

    back : (b : ℕ) → 0x8000_0000_0000_0000 + suc b - 1 ≡ 0x8000_0000_0000_0000 + b
    back b = omega arith

-- below is above of the opposite
down_is : (x : Float) → next_down x ≡ neg (next_up (neg x))
unfolding next_down
down_is x = refl

one_more : (b : ℕ) → b < 0x7ff0_0000_0000_0000 → b + 1 ≤ 0x7ff0_0000_0000_0000
one_more b h = omega arith

pub down_away : (x : Float) (s : Bool) (b : ℕ) → T (not (is_nan x)) → Quanta x s (val b) → to_bits binary64 x ≡ with_sign s b → b < 0x7ff0_0000_0000_0000 → NotBelow (not s) b → next_down x ≡ of_bits binary64 (with_sign true (b + 1))
down_away x s b n i p h q =
    down_is x
    ∙ ap neg (up_away (neg x) (not s) b (neg_nan x n) (to_bits_neg x s b i p) h q)
    ∙ of_bits_neg false (b + 1) (one_more b h)

pub down_toward : (x : Float) (b : ℕ) → T (not (is_nan x)) → Quanta x false (val (suc b)) → to_bits binary64 x ≡ with_sign false (suc b) → suc b ≤ 0x7ff0_0000_0000_0000 → next_down x ≡ of_bits binary64 (with_sign false b)
down_toward x b n i p h =
    down_is x
    ∙ ap neg (up_toward (neg x) b (neg_nan x n) (to_bits_neg x false (suc b) i p))
    ∙ of_bits_neg true b (le_of_lt h)
