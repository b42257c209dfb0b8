-- The law of the quotient, for a divisor at least 2 ^ -k, and that a fraction's own interval, and a product, keeps away from zero. Assumes nothing.
use Rattle.std.proofs.Common.{ℕ, suc, ◌+◌, ◌*◌, ◌^◌, ◌<◌, ◌≤◌, false, T, ltb, leb, ℤ, pos, negsuc, nat_abs, ◌≤ℤ◌, sym, refl, subst, subst₂, zero-le, le_trans, le_of_eq, lt_of_lt_of_le, mul-le-mul_left, mul-one, arith, lit<, le→leb, lt→ltb, leb→le, pow_pos, pow_mono}
use native.Mathlib.Nat.{two-pow-succ}
use lib.IntN.{*ℤ_comm}
use lib.Signed.{le_z_yes}
use lib.Ieee.{Float, fin, binary64, div, fits}
use lib.Ieee.Fits.{div-fits, and_i}
use lib.Ieee.Scale.{finite}
use Rattle.exact.specs.Fraction.{Fraction, ratio, zero_f, ◌*F◌, ◌≤F◌, ◌<F◌, ◌≈F◌, AbsF}
use Rattle.exact.proofs.Fraction.{≤F_trans, ≤F-<F_trans, <F-≤F_trans, ≈F_le, ≈F_ge, mul_mono_f, comm_f, num_nonneg, nonneg_num}
use Rattle.exact.proofs.Fraction.{product_low, product_high}
use Rattle.exact.proofs.FractionSize.{abs_of_nonneg, abs_mul, abs_wider}
use Rattle.interval.specs.declared.Interval.{Interval}
use Rattle.interval.specs.Step.{next_down}
use Rattle.interval.specs.Interval.{product, quotient}
use Rattle.interval.specs.Nearest.{nearest, from_rational}
use Rattle.interval.specs.Encloses.{value, Small}
use Rattle.interval.proofs.Signs.{lt_ratio}
use Rattle.interval.proofs.Rounding.{Rounds, rounds_mono, rounds_fits, kept_value}
use Rattle.interval.proofs.Compare.{least4_one}
use Rattle.interval.proofs.Rank.{next_below}
use Rattle.interval.proofs.Small.{power, abs_ratio, small_abs, small_finite}
use Rattle.interval.proofs.SmallRounding.{rounds_finite}
use Rattle.interval.proofs.Operations.{nearest_rounds, Divisor, divisor}
use Rattle.interval.proofs.Membership.{In, low, high}
use Rattle.interval.proofs.Candidates.{Candidate, candidate, product_candidate, power_product, around_low, around_high, around_encloses}

-- 2 ^ -k
abbrev pub inverse_power : ℕ → Fraction
inverse_power k = ratio (pos 1) (2 ^ k) (pow_pos k)

pub inverse_above : (k : ℕ) → zero_f <F inverse_power k
inverse_above k = lt_ratio false false 0 1 1 (2 ^ k) (plain (2 ^ k))
  where
    plain : (p : ℕ) → 0 * p + 0 < 1 * 1 + 0
    plain p = omega arith

-- what is above is below, one over it
pub inverse_mono : {a b c d : ℕ} {A : 0 < a} {B : 0 < b} {C : 0 < c} {D : 0 < d} → ratio (pos a) b B ≤F ratio (pos c) d D
    → ratio (pos d) c C ≤F ratio (pos b) a A
inverse_mono {a} {b} {c} {d} h = record { le = subst₂ (λ (x y : ℤ). x ≤ℤ y) (*ℤ_comm (pos a) (pos d)) (*ℤ_comm (pos c) (pos b)) h.le }

-- one over a divisor that is 2 ^ -k at least is 2 ^ k at most
inverse_abs : (k : ℕ) {y : Float} (v : Divisor y) → inverse_power k ≤F value y → AbsF (ratio (pos v.bottom) v.top v.top_pos) (power k)
inverse_abs k v h = abs_of_nonneg (num_nonneg (le_z_yes (le→leb 0 v.bottom zero-le))) (inverse_mono (≤F_trans h (≈F_le v.same)))

pub quotient_candidate : (j k : ℕ) → j + k ≤ 1022 → (x y : Float) → Small j x → (v : Divisor y) → inverse_power k ≤F value y
    → Candidate (j + k) (div binary64 x y) (value x *F ratio (pos v.bottom) v.top v.top_pos)
quotient_candidate j k K x y a v h = candidate (j + k) K (v.rounds x (small_finite j x a)) (div-fits binary64 x y) (abs_wider (abs_mul (small_abs j x a) (inverse_abs k v h)) (≈F_le (power_product j k)))

-- q over n / d
pub div_encloses : {i j : ℕ} (k : ℕ) {q : Fraction} {n d : ℕ} (N : 0 < n) {D : 0 < d} {X Y : Interval} → T (leb (j + k) 1022) → inverse_power k ≤F value Y.lo → In j q X → In i (ratio (pos n) d D) Y → In (suc (j + k)) (q *F ratio (pos d) n N) (quotient X Y)
unfolding quotient
div_encloses {i} {j} k {q} {n} {d} N {D} {X} {Y} t y h g =
    let K = leb→le (j + k) 1022 t in
    let y' = ≤F_trans y (≤F_trans (low g) (high g)) in
    let l = divisor Y.lo (small_finite i Y.lo g.small_lo) (<F-≤F_trans (inverse_above k) y) in
    let u = divisor Y.hi (small_finite i Y.hi g.small_hi) (<F-≤F_trans (inverse_above k) y') in
    let over-l = ratio (pos l.bottom) l.top l.top_pos in
    let over-u = ratio (pos u.bottom) u.top u.top_pos in
    let A = quotient_candidate j k K X.lo Y.lo h.small_lo l y in
    let B = quotient_candidate j k K X.lo Y.hi h.small_lo u y' in
    let C = quotient_candidate j k K X.hi Y.lo h.small_hi l y in
    let E = quotient_candidate j k K X.hi Y.hi h.small_hi u y' in
    let least : over-u ≤F ratio (pos d) n N = inverse_mono (≤F_trans (high g) (≈F_le u.same)) in
    let most : ratio (pos d) n N ≤F over-l = inverse_mono (≤F_trans (≈F_ge l.same) (low g)) in
    let (la, lb, lc, ld) = around_low (j + k) K A B C E in
    let (ua, ub, uc, ud) = around_high (j + k) K A B C E in
    around_encloses (j + k) K A B C E (q *F ratio (pos d) n N)
    (product_low (value X.lo) (value X.hi) over-u over-l q (ratio (pos d) n N) (low h) (high h) least most _ lb la ld lc)
    (product_high (value X.lo) (value X.hi) over-u over-l q (ratio (pos d) n N) (low h) (high h) least most _ ub ua ud uc)

-- ---- what keeps away from zero
-- the double 2 ^ -(k + 1)
abbrev fine : ℕ → Float
fine k = fin false 1 (negsuc k)

fine_fits : (k : ℕ) → suc k ≤ 1074 → T (fits binary64 (fine k))
unfolding fits
fine_fits k h = and_i (leb (2 ^ suc k) (2 ^ 1074)) (ltb (1 * 1) (2 ^ 1024 * 2 ^ suc k)) (le→leb (2 ^ suc k) (2 ^ 1074) (pow_mono h)) (lt→ltb (1 * 1) (2 ^ 1024 * 2 ^ suc k) (one (2 ^ 1024) (2 ^ suc k) (lit< tt) (pow_pos (suc k))))
  where
    one : (a b : ℕ) → 1 < a → 0 < b → 1 * 1 < a * b
    one a b h k = lt_of_lt_of_le h (le_trans (le_of_eq (sym (mul-one a))) (mul-le-mul_left a k))

fine_value : (k : ℕ) → value (fine k) ≈F inverse_power (suc k)
fine_value k = record { eq = refl }

fine_falls : (k : ℕ) → inverse_power (suc k) <F inverse_power k
fine_falls k = lt_ratio false false 1 (2 ^ suc k) 1 (2 ^ k) (subst (λ (n : ℕ). 1 * 2 ^ k + 0 < 1 * n + 0) (sym (two-pow-succ k)) (twice (2 ^ k) (pow_pos k)))
  where
    twice : (a : ℕ) → 0 < a → 1 * a + 0 < 1 * (a + a) + 0
    twice a h = omega arith

-- what is 2 ^ -(k + 1) at least rounds to as much
pub rounds_apart : (k : ℕ) {x : Float} {q : Fraction} → suc k ≤ 1074 → Rounds x q → T (finite x) → inverse_power (suc k) ≤F q
    → inverse_power (suc k) ≤F value x
rounds_apart k K r f h =
    let d = kept_value (fine k) (fine_fits k K) tt in
    ≤F_trans (≈F_ge (fine_value k)) (≤F_trans (≈F_ge d.same) (rounds_mono d.rounds r d.finite f (≤F_trans (≈F_le (fine_value k)) h)))

-- and the next double below it is 2 ^ -(k + 2) at least
pub down_apart : (k : ℕ) (x : Float) → suc (suc k) ≤ 1074 → T (fits binary64 x) → T (finite x) → inverse_power (suc k) ≤F value x
    → inverse_power (suc (suc k)) ≤F value (next_down x)
down_apart k x K g f h =
    let y = fine (suc k) in
    let above : value y <F value x = ≤F-<F_trans (≈F_le (fine_value (suc k))) (<F-≤F_trans (fine_falls (suc k)) h) in
    ≤F_trans (≈F_ge (fine_value (suc k))) (next_below x y g (fine_fits (suc k) K) f tt above).greatest

less : (k : ℕ) → suc k ≤ 1074 → k ≤ 1074
less k h = omega arith

-- so a fraction that is 2 ^ -(k + 1) at least has an interval that is 2 ^ -(k + 2) at least
pub fraction_apart : (k m : ℕ) (q : Fraction) → T (leb (suc (suc k)) 1074) → T (leb m 1023) → nat_abs q.num ≤ 2 ^ m * q.den → inverse_power (suc k) ≤F q
    → inverse_power (suc (suc k)) ≤F value (from_rational q.num q.den).lo
unfolding from_rational
fraction_apart k m q t s a h =
    let K = leb→le (suc (suc k)) 1074 t in
    let r = nearest_rounds q.num q.den q.den_pos in
    let f = rounds_finite m (leb→le m 1023 s) r (abs_ratio m q a) in
    down_apart k (nearest q.num q.den) K (rounds_fits r) f (rounds_apart k (less (suc k) K) r f h)

-- ---- a product of two that are not below zero, whose low ends' product is 2 ^ -(k + 1) at least
pub product_apart : {i j : ℕ} (k : ℕ) {q r : Fraction} {X Y : Interval} → T (leb (i + j) 1022) → T (leb (suc (suc k)) 1074) → In i q X → In j r Y
    → zero_f ≤F value X.lo → zero_f ≤F value Y.lo → inverse_power (suc k) ≤F value X.lo *F value Y.lo
    → inverse_power (suc (suc k)) ≤F value (product X Y).lo
unfolding product
product_apart {i} {j} k {X = X} {Y} s t h g x y p =
    let I = leb→le (i + j) 1022 s in
    let K = leb→le (suc (suc k)) 1074 t in
    let A = product_candidate i j I X.lo Y.lo h.small_lo g.small_lo in
    let B = product_candidate i j I X.lo Y.hi h.small_lo g.small_hi in
    let C = product_candidate i j I X.hi Y.lo h.small_hi g.small_lo in
    let D = product_candidate i j I X.hi Y.hi h.small_hi g.small_hi in
    let across = ≤F_trans (low h) (high h) in
    let along = ≤F_trans (low g) (high g) in
    let a = apart A p in
    let b = apart B (≤F_trans p (mul_mono_f (value X.lo) (nonneg_num x) along)) in
    let c = apart C (≤F_trans p (first across)) in
    let d = apart D (≤F_trans p (≤F_trans (first across) (mul_mono_f (value X.hi) (nonneg_num (≤F_trans x across)) along))) in
    down_apart k _ K (least4_one _ _ _ _ (λ z. T (fits binary64 z)) A.fits B.fits C.fits D.fits)
    (least4_one _ _ _ _ (λ z. T (finite z)) (end A) (end B) (end C) (end D)) (least4_one _ _ _ _ (λ z. inverse_power (suc k) ≤F value z) a b c d)
  where
    end : {z : Float} {e : Fraction} → Candidate (i + j) z e → T (finite z)
    end {z} c = small_finite (i + j) z c.small

    apart : {z : Float} {e : Fraction} → Candidate (i + j) z e → inverse_power (suc k) ≤F e → inverse_power (suc k) ≤F value z
    apart c = rounds_apart k (less (suc k) (leb→le (suc (suc k)) 1074 t)) c.rounds (end c)

    first : value X.lo ≤F value X.hi → value X.lo *F value Y.lo ≤F value X.hi *F value Y.lo
    first l = ≤F_trans (≈F_le (comm_f (value X.lo) (value Y.lo)))
        (≤F_trans (mul_mono_f (value Y.lo) (nonneg_num y) l) (≈F_le (comm_f (value Y.lo) (value X.hi))))
