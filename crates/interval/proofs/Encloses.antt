-- THE LAWS OF THE OPERATIONS: what a result holds, given what its operands hold, and how large it is. The layers above go through these and
-- open no operation; in use every size is a literal and every test is `tt`. How far a step goes is in no statement. Assumes nothing.
use Rattle.std.proofs.Common.{◌≡◌, ℕ, suc, ◌+◌, ◌*◌, ◌^◌, ◌≤◌, max, Bool, true, false, ◌&&◌, T, leb, nat_abs, refl, arith, leb→le}
use lib.Ieee.{Float, binary64, add, sub}
use lib.Ieee.Scale.{finite}
use native.Mathlib.Nat.{le-max_left, le-max_right}
use Rattle.exact.specs.Fraction.{Fraction, ◌+F◌, ◌-F◌, ◌*F◌, neg_f, ◌≤F◌, ◌≈F◌, equal_f}
use Rattle.exact.proofs.Fraction.{≤F_refl, ≤F_trans, ≈F_le, ≈F_ge, add_mono_f, sub_mono_f, neg_mono_f, product_low, product_high}
use Rattle.exact.proofs.FractionSize.{equal_yes}
use Rattle.interval.specs.declared.Interval.{Interval}
use Rattle.interval.specs.Interval.{Arithmetic, Wide, Narrow, step_down, step_up, is_fraction, exact_sum, exact_difference, sum, difference, product}
use Rattle.interval.specs.Interval.{negation, square}
use Rattle.interval.specs.Nearest.{from_rational}
use Rattle.interval.specs.Encloses.{value, Small}
use Rattle.interval.proofs.Rounding.{rounds_fits}
use Rattle.interval.proofs.Small.{abs_ratio, small_neg, value_neg, small_more, small_finite}
use Rattle.interval.proofs.SmallRounding.{up_small, down_small}
use Rattle.interval.proofs.StepLaws.{up_encloses, down_encloses}
use Rattle.interval.proofs.Operations.{nearest_rounds}
use Rattle.interval.proofs.Candidates.{Candidate, candidate, sum_candidate, difference_candidate, product_candidate, outward_encloses, around_low}
use Rattle.interval.proofs.Candidates.{around_high, around_encloses}
use Rattle.interval.proofs.Membership.{In, low, high, between, larger}

-- ---- sums and differences
-- the larger of two sizes is a size of both
both : {j k : ℕ} {q r : Fraction} {X Y : Interval} → In j q X → In k r Y → In (max j k) q X × In (max j k) r Y
both {j} {k} h g = (larger (le-max_left j k) h, larger (le-max_right j k) g)

more : (k : ℕ) → k ≤ suc k
more k = omega arith

-- an end, whether it is stepped or is the exact one
end_down : (a : Arithmetic) (k : ℕ) {x : Float} {p : Fraction} → k ≤ 1022 → Candidate k x p → (e : Bool) → (T e → value x ≈F p)
    → Small (suc k) (step_down a e x) × (value (step_down a e x) ≤F p)
end_down Wide k {x} K c e f = (
  down_small k x K c.fits c.small,
  down_encloses k x K c.rounds (small_finite k x c.small) c.fits
      c.small (≤F_refl (value x)),
)
end_down Narrow k {x} K c true f = (small_more k (suc k) x (more k) c.small, ≈F_le (f tt))
end_down Narrow k {x} K c false f =
    (down_small k x K c.fits c.small, down_encloses k x K c.rounds (small_finite k x c.small) c.fits c.small (≤F_refl (value x)))

end_up : (a : Arithmetic) (k : ℕ) {x : Float} {p : Fraction} → k ≤ 1022 → Candidate k x p → (e : Bool) → (T e → value x ≈F p)
    → Small (suc k) (step_up a e x) × (p ≤F value (step_up a e x))
end_up Wide k {x} K c e f = (
  up_small k x K c.fits c.small,
  up_encloses k x K c.rounds (small_finite k x c.small) c.fits c.small
      (≤F_refl (value x)),
)
end_up Narrow k {x} K c true f = (small_more k (suc k) x (more k) c.small, ≈F_ge (f tt))
end_up Narrow k {x} K c false f =
    (up_small k x K c.fits c.small, up_encloses k x K c.rounds (small_finite k x c.small) c.fits c.small (≤F_refl (value x)))

-- an end that is exact is the exact fraction
exact_end : (x y v : Float) (q : Fraction) → T (finite x && finite y && is_fraction v q) → value v ≈F q
exact_end x y v q t = equal_yes (last (finite x) (finite y) (finite v) (equal_f (value v) q) t)
  where
    last : (a b c d : Bool) → T (a && b && (c && d)) → T d
    last true true true d t = t
    last true true false d t = absurd t
    last true false c d t = absurd t
    last false b c d t = absurd t

sum_value : (x y : Float) → T (exact_sum x y) → value (add binary64 x y) ≈F value x +F value y
unfolding exact_sum
sum_value x y = exact_end x y (add binary64 x y) (value x +F value y)

difference_value : (x y : Float) → T (exact_difference x y) → value (sub binary64 x y) ≈F value x -F value y
unfolding exact_difference
difference_value x y = exact_end x y (sub binary64 x y) (value x -F value y)

pub add_encloses : (a : Arithmetic) {j k : ℕ} {q r : Fraction} {X Y : Interval} → T (leb (suc (max j k)) 1022) → In j q X → In k r Y
    → In (suc (suc (max j k))) (q +F r) (sum a X Y)
unfolding sum
add_encloses a {j} {k} {q} {r} {X} {Y} t h g =
    let n = max j k in
    let N = leb→le (suc n) 1022 t in
    let (x, y) = both h g in
    let l = end_down a (suc n) N (sum_candidate n N X.lo Y.lo x.small_lo y.small_lo) (exact_sum X.lo Y.lo) (sum_value X.lo Y.lo) in
    let u = end_up a (suc n) N (sum_candidate n N X.hi Y.hi x.small_hi y.small_hi) (exact_sum X.hi Y.hi) (sum_value X.hi Y.hi) in
    between l.0 u.0 (≤F_trans l.1 (add_mono_f (low h) (low g))) (≤F_trans (add_mono_f (high h) (high g)) u.1)

pub sub_encloses : (a : Arithmetic) {j k : ℕ} {q r : Fraction} {X Y : Interval} → T (leb (suc (max j k)) 1022) → In j q X → In k r Y
    → In (suc (suc (max j k))) (q -F r) (difference a X Y)
unfolding difference
sub_encloses a {j} {k} {q} {r} {X} {Y} t h g =
    let n = max j k in
    let N = leb→le (suc n) 1022 t in
    let (x, y) = both h g in
    let l = end_down a (suc n) N (difference_candidate n N X.lo Y.hi x.small_lo y.small_hi) (exact_difference X.lo Y.hi)
    (difference_value X.lo Y.hi) in
    let u = end_up a (suc n) N (difference_candidate n N X.hi Y.lo x.small_hi y.small_lo) (exact_difference X.hi Y.lo)
    (difference_value X.hi Y.lo) in
    between l.0 u.0 (≤F_trans l.1 (sub_mono_f (low h) (high g))) (≤F_trans (sub_mono_f (high h) (low g)) u.1)

-- ---- negation
pub neg_encloses : {k : ℕ} {q : Fraction} {X : Interval} → In k q X → In k (neg_f q) (negation X)
unfolding negation
neg_encloses {k} {q} {X} h = between (small_neg k X.hi h.small_hi) (small_neg k X.lo h.small_lo)
    (≤F_trans (≈F_le (value_neg X.hi)) (neg_mono_f (high h))) (≤F_trans (neg_mono_f (low h)) (≈F_ge (value_neg X.lo)))

-- ---- a fraction's own interval
pub fraction_encloses : (k : ℕ) (q : Fraction) → T (leb k 1022) → nat_abs q.num ≤ 2 ^ k * q.den → In (suc k) q (from_rational q.num q.den)
unfolding from_rational
fraction_encloses k q t h =
    let K = leb→le k 1022 t in
    let r = nearest_rounds q.num q.den q.den_pos in
    let c = candidate k K r (rounds_fits r) (abs_ratio k q h) in
    outward_encloses k K c c (≤F_refl q) (≤F_refl q)

-- ---- products
pub mul_encloses : {j k : ℕ} {q r : Fraction} {X Y : Interval} → T (leb (j + k) 1022) → In j q X → In k r Y → In (suc (j + k)) (q *F r) (product X Y)
unfolding product
mul_encloses {j} {k} {q} {r} {X} {Y} t h g =
    let K = leb→le (j + k) 1022 t in
    let A = product_candidate j k K X.lo Y.lo h.small_lo g.small_lo in
    let B = product_candidate j k K X.lo Y.hi h.small_lo g.small_hi in
    let C = product_candidate j k K X.hi Y.lo h.small_hi g.small_lo in
    let D = product_candidate j k K X.hi Y.hi h.small_hi g.small_hi in
    let (la, lb, lc, ld) = around_low (j + k) K A B C D in
    let (ua, ub, uc, ud) = around_high (j + k) K A B C D in
    around_encloses (j + k) K A B C D (q *F r)
    (product_low (value X.lo) (value X.hi) (value Y.lo) (value Y.hi) q r (low h) (high h) (low g) (high g) _ la lb lc ld)
    (product_high (value X.lo) (value X.hi) (value Y.lo) (value Y.hi) q r (low h) (high h) (low g) (high g) _ ua ub uc ud)

pub square_is : (X : Interval) → square X ≡ product X X
unfolding square
square_is X = refl

pub square_encloses : {j : ℕ} {q : Fraction} {X : Interval} → T (leb (j + j) 1022) → In j q X → In (suc (j + j)) (q *F q) (square X)
unfolding square
square_encloses t h = mul_encloses t h h
