-- Small results: a rounding keeps the bound 2 ^ k, and one step adds at most 1 to k. Assumes nothing.
use Rattle.std.proofs.Common.{◌≡◌, ℕ, suc, ◌+◌, ◌*◌, ◌^◌, ◌<◌, ◌≤◌, Bool, false, not, T, ℤ, pos, ◌*ℤ◌, sym, refl, ap, ◌∙◌, subst, le_trans, le_of_eq, lt_of_le_of_lt, one-mul, mul-one, arith, lit<, lt→ltb, pow_pos, pow_mono, pow-add}
use native.Mathlib.Nat.{two-pow-succ}
use lib.Ieee.{Float, nan, inf, fin, binary64, round, neg, fits}
use lib.Ieee.Fits.{neg-fits}
use lib.Ieee.Exact.{HasValue, round_exact}
use lib.Ieee.Scale.{finite}
use Rattle.exact.specs.Fraction.{Fraction, ratio, neg_f, ◌<F◌, ◌≈F◌, AbsF}
use Rattle.exact.proofs.Fraction.{≤F_trans, ≤F-<F_trans, <F-≤F_trans, <F_le, ≈F_le, ≈F_ge, ≈F_sym, ≈F_trans, neg_ratio, neg_mono_f, neg_cong_f}
use Rattle.interval.specs.Step.{next_up, next_down}
use Rattle.interval.specs.Encloses.{signed, value, Small}
use Rattle.interval.proofs.Signs.{signed_not, lt_ratio}
use Rattle.interval.proofs.Pattern.{over, Quanta}
use Rattle.interval.proofs.Rounding.{Rounds, rounds_mono, rounded, rounded_mono, round_quanta, quanta_finite, kept_value, round_neg}
use Rattle.interval.proofs.Rank.{Next, next_above}
use Rattle.interval.proofs.Small.{power, double, double_value, small_abs, abs_top, abs_small, small_finite, small_neg, finite_neg, value_neg}

pub rounds_neg : {x : Float} {q : Fraction} → Rounds x q → Rounds (neg x) (neg_f q)
rounds_neg r = record {
  sign = not r.sign;
  top = r.top;
  bottom = r.bottom;
  bottom_pos = r.bottom_pos;
  is = ap neg r.is ∙ round_neg r.sign r.top r.bottom;
  same = ≈F_trans (record { eq = ap (λ (z : ℤ). z *ℤ pos r.bottom) (signed_not r.sign r.top) }) (≈F_trans (≈F_sym (neg_ratio (ratio (signed r.sign r.top) r.bottom r.bottom_pos))) (neg_cong_f r.same));
}

-- ---- the double 2 ^ k is one of the format's
double_fits : (k : ℕ) → k ≤ 1023 → T (fits binary64 (double k))
unfolding fits
double_fits k h = lt→ltb (1 * 2 ^ k) (2 ^ 1024 * 1) (below (2 ^ k) (2 ^ 1024) (lt_of_le_of_lt (pow_mono h) (lit< tt)))
  where
    below : (a b : ℕ) → a < b → 1 * a < b * 1
    below a b h = omega arith

-- ---- a rounding keeps the bound
round_finite : (s : Bool) (n c k : ℕ) → 0 < c → k ≤ 1023 → n ≤ 2 ^ k * c → T (finite (round binary64 s n c))
round_finite s n c k C K h = quanta_finite (round binary64 s n c) s (rounded n c) (lt_of_le_of_lt (rounded_mono n c (2 ^ k) 1 C (lit< tt) (le_trans (le_of_eq (mul-one n)) h)) cap) (round_quanta s n c)
  where
    exact : HasValue (round binary64 false (2 ^ k) 1) false (2 ^ k) 1
    exact = round_exact binary64 false (2 ^ k) 1 1 (k + 1074) (lit< tt) (lit< tt) (below (2 ^ (k + 1074)) (lt_of_le_of_lt (pow_mono (reach k K)) (lit< tt))) (sym (pow-add 2 k 1074) ∙ tidy (2 ^ (k + 1074)))
      where
        reach : (k : ℕ) → k ≤ 1023 → k + 1074 ≤ 2097
        reach k h = omega arith

        below : (a : ℕ) → a < 2 ^ 2098 → 1 * a < 2 ^ 2098
        below a h = lt_of_le_of_lt (le_of_eq (one-mul a)) h

        tidy : (a : ℕ) → a ≡ 1 * a * 1
        tidy a = omega arith

    capped : (y : Float) → HasValue y false (2 ^ k) 1 → Quanta y false (rounded (2 ^ k) 1) → rounded (2 ^ k) 1 < over
    capped nan v q = absurd v
    capped (inf t) v q = absurd v
    capped (fin t m e) v q = q.2

    cap : rounded (2 ^ k) 1 < over
    cap = capped (round binary64 false (2 ^ k) 1) exact (round_quanta false (2 ^ k) 1)

pub rounds_finite : (k : ℕ) {x : Float} {q : Fraction} → k ≤ 1023 → Rounds x q → AbsF q (power k) → T (finite x)
rounds_finite k {x} {q} K r h =
    subst (λ (v : Float). T (finite v)) (sym r.is)
    (round_finite r.sign r.top r.bottom k r.bottom_pos K
    (abs_top k r.sign r.top r.bottom (record { low = ≤F_trans h.low (≈F_ge r.same); high = ≤F_trans (≈F_le r.same) h.high })))

pub rounds_small : (k : ℕ) {x : Float} {q : Fraction} → k ≤ 1023 → Rounds x q → AbsF q (power k) → Small k x
rounds_small k {x} {q} K r h =
    let d = kept_value (double k) (double_fits k K) tt in
    let own : value d.to ≈F power k = ≈F_trans d.same (double_value k) in
    let f = rounds_finite k K r h in
    abs_small k x f
    (record {
      low = ≤F_trans (neg_mono_f (≈F_le own)) (≤F_trans (≈F_ge (value_neg d.to)) (rounds_mono (rounds_neg d.rounds) r (finite_neg d.to d.finite) f (≤F_trans (neg_mono_f (≈F_ge (double_value k))) h.low)));
      high = ≤F_trans (rounds_mono r d.rounds f d.finite (≤F_trans h.high (≈F_ge (double_value k)))) (≈F_le own);
    })

-- ---- one step
power_grows : (k : ℕ) → power k <F power (suc k)
power_grows k = lt_ratio false false (2 ^ k) 1 (2 ^ suc k) 1 (subst (λ (n : ℕ). 2 ^ k * 1 + 0 < n * 1 + 0) (sym (two-pow-succ k)) (twice (2 ^ k) (pow_pos k)))
  where
    twice : (a : ℕ) → 0 < a → a * 1 + 0 < (a + a) * 1 + 0
    twice a h = omega arith

pub next_small : (k : ℕ) (x : Float) → k ≤ 1022 → T (fits binary64 x) → Small k x → Next x (double (suc k)) (next_up x)
next_small k x K h s =
    next_above x (double (suc k)) h (double_fits (suc k) (more k K)) (small_finite k x s) tt
    (≤F-<F_trans (small_abs k x s).high (<F-≤F_trans (power_grows k) (≈F_ge (double_value (suc k)))))
  where
    more : (k : ℕ) → k ≤ 1022 → suc k ≤ 1023
    more k h = omega arith

pub up_small : (k : ℕ) (x : Float) → k ≤ 1022 → T (fits binary64 x) → Small k x → Small (suc k) (next_up x)
up_small k x K h s =
    let n = next_small k x K h s in
    abs_small (suc k) (next_up x) n.finite
    (record {
      low = ≤F_trans (neg_mono_f (<F_le (power_grows k))) (≤F_trans (small_abs k x s).low (<F_le n.above));
      high = ≤F_trans n.least (≈F_le (double_value (suc k)));
    })

-- the step down is the step up of the negation
pub down_is : (x : Float) → next_down x ≡ neg (next_up (neg x))
unfolding next_down
down_is x = refl

pub down_small : (k : ℕ) (x : Float) → k ≤ 1022 → T (fits binary64 x) → Small k x → Small (suc k) (next_down x)
down_small k x K h s = subst (λ (y : Float). Small (suc k) y) (sym (down_is x)) (small_neg (suc k) (next_up (neg x)) (up_small k (neg x) K (neg-fits binary64 x h) (small_neg k x s)))
