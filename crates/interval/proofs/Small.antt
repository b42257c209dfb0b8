-- Small doubles: `Small k x` says that x is finite and that the fraction it is is at most 2 ^ k in size. Assumes nothing.
use Rattle.std.proofs.Common.{ℕ, suc, ◌*◌, ◌^◌, ◌<◌, ◌≤◌, Bool, true, false, T, ℤ, pos, negsuc, ◌*ℤ◌, nat_abs, ap, le_trans, mul-le-mul_right, one-mul, arith, pow_mono}
use lib.Ieee.{Float, nan, inf, fin, neg, lt, eq, le, up, down}
use lib.Ieee.Scale.{finite}
use Rattle.exact.specs.Fraction.{Fraction, ratio, whole, neg_f, ◌≈F◌, AbsF}
use Rattle.exact.proofs.Fraction.{≤F_trans, ≈F_le, ≈F_ge, ≈F_sym, ≈F_trans, neg_ratio, neg_mono_f}
use Rattle.interval.specs.Encloses.{signed, value, Small}
use Rattle.interval.proofs.Signs.{Le, signed_not, le_ratio, ratio_le}
use Rattle.interval.proofs.Compare.{le_value}

-- 2 ^ k
abbrev pub power : ℕ → Fraction
power k = whole (pos (2 ^ k))

-- ---- the bound on the value, both ways
pub small_abs : (k : ℕ) (x : Float) → Small k x → AbsF (value x) (power k)
small_abs k nan h = absurd h
small_abs k (inf s) h = absurd h
small_abs k (fin s m e) h = record { low = ≤F_trans (≈F_le (neg_ratio (power k))) (le_ratio true s (2 ^ k) 1 (m * up e) (down e) (low s)); high = le_ratio s false (m * up e) (down e) (2 ^ k) 1 (high s) }
  where
    low : (s : Bool) → Le true (2 ^ k * down e) s (m * up e * 1)
    low true = omega arith
    low false = omega arith

    high : (s : Bool) → Le s (m * up e * 1) false (2 ^ k * down e)
    high true = omega arith
    high false = omega arith

-- a fraction's size, by its numerator and denominator
pub abs_ratio : (k : ℕ) (q : Fraction) → nat_abs q.num ≤ 2 ^ k * q.den → AbsF q (power k)
abs_ratio k q h = go q.num h
  where
    go : (z : ℤ) → nat_abs z ≤ 2 ^ k * q.den → AbsF (ratio z q.den q.den_pos) (power k)
    go (pos n) h = record { low = ≤F_trans (≈F_le (neg_ratio (power k))) (le_ratio true false (2 ^ k) 1 n q.den (omega arith)); high = le_ratio false false n q.den (2 ^ k) 1 (omega arith) }
    go (negsuc n) h = record { low = ≤F_trans (≈F_le (neg_ratio (power k))) (le_ratio true true (2 ^ k) 1 (suc n) q.den (omega arith)); high = le_ratio true false (suc n) q.den (2 ^ k) 1 (omega arith) }

-- ±n / c is at most 2 ^ k in size
pub abs_top : (k : ℕ) (s : Bool) (n c : ℕ) {C : 0 < c} → AbsF (ratio (signed s n) c C) (power k) → n ≤ 2 ^ k * c
abs_top k s n c h = go s (ratio_le true s (2 ^ k) 1 n c (≤F_trans (≈F_ge (neg_ratio (power k))) h.low)) (ratio_le s false n c (2 ^ k) 1 h.high)
  where
    go : (s : Bool) → Le true (2 ^ k * c) s (n * 1) → Le s (n * 1) false (2 ^ k * c) → n ≤ 2 ^ k * c
    go true p q = omega arith
    go false p q = omega arith

pub abs_small : (k : ℕ) (x : Float) → T (finite x) → AbsF (value x) (power k) → Small k x
abs_small k nan f h = absurd f
abs_small k (inf s) f h = absurd f
abs_small k (fin s m e) f h = abs_top k s (m * up e) (down e) h

pub small_finite : (k : ℕ) (x : Float) → Small k x → T (finite x)
small_finite k nan h = h
small_finite k (inf s) h = absurd h
small_finite k (fin s m e) h = tt

pub small_more : (j k : ℕ) (x : Float) → j ≤ k → Small j x → Small k x
small_more j k nan l h = h
small_more j k (inf s) l h = absurd h
small_more j k (fin s m e) l h = le_trans h (mul-le-mul_right (down e) (pow_mono l))

-- ---- negation
pub small_neg : (k : ℕ) (x : Float) → Small k x → Small k (neg x)
unfolding neg
small_neg k nan h = h
small_neg k (inf s) h = absurd h
small_neg k (fin s m e) h = h

pub finite_neg : (x : Float) → T (finite x) → T (finite (neg x))
unfolding neg
finite_neg nan f = f
finite_neg (inf s) f = absurd f
finite_neg (fin s m e) f = tt

pub value_neg : (x : Float) → value (neg x) ≈F neg_f (value x)
unfolding neg
value_neg nan = ≈F_sym (neg_ratio (value nan))
value_neg (inf s) = ≈F_sym (neg_ratio (value nan))
value_neg (fin s m e) = ≈F_trans (record { eq = ap (λ (z : ℤ). z *ℤ pos (down e)) (signed_not s (m * up e)) }) (≈F_sym (neg_ratio (value (fin s m e))))

-- ---- the double 2 ^ k
abbrev pub double : ℕ → Float
double k = fin false 1 (pos k)

pub double_value : (k : ℕ) → value (double k) ≈F power k
double_value k = record { eq = ap (λ (n : ℕ). pos n *ℤ pos 1) (one-mul (2 ^ k)) }

-- what two tests of a program show
pub small_between : (k : ℕ) (x : Float) → T (le (fin true 1 (pos k)) x) → T (le x (double k)) → Small k x
unfolding neg le lt eq
small_between k x h g =
    let f = finite_between x h g in
    abs_small k x f
    (record {
      low = ≤F_trans (neg_mono_f (≈F_le (double_value k))) (≤F_trans (≈F_ge (value_neg (double k))) (le_value (neg (double k)) x tt f h));
      high = ≤F_trans (le_value x (double k) f tt g) (≈F_le (double_value k));
    })
  where
    finite_between : (x : Float) → T (le (fin true 1 (pos k)) x) → T (le x (double k)) → T (finite x)
    finite_between nan h g = h
    finite_between (inf true) h g = h
    finite_between (inf false) h g = g
    finite_between (fin s m e) h g = tt
