-- "AN INTERVAL IS TWO DOUBLES, LOW ≤ HIGH": a law for each operation, finite and ordered in, ordered out. The ends of a result may be infinite,
-- where it overflows; they are no NaN. Products and quotients do not ask their operands' order, for they take the least and the greatest of
-- all four candidates; a quotient asks that no end of the divisor is a zero. Assumes nothing.
use Rattle.std.proofs.Common.{◌≡◌, ℕ, ◌*◌, ◌<◌, Bool, true, false, not, T, eqb, ℤ, subst, zero-mul, eqb→eq}
use lib.Ieee.{Float, nan, inf, fin, binary64, add, sub, mul, div, eq, le, fits, is_nan, of_bits, up, down, unlike}
use lib.Ieee.Fits.{div-fits}
use lib.Ieee.Scale.{finite}
use Rattle.exact.specs.Fraction.{Fraction, ◌≤F◌}
use Rattle.exact.proofs.Fraction.{add_mono_f, sub_mono_f}
use Rattle.exact.proofs.Choice.{choose}
use Rattle.interval.specs.declared.Interval.{Interval}
use Rattle.interval.specs.Step.{b64, next_up, next_down}
use Rattle.interval.specs.Interval.{ordered, point, least, greatest, least4, greatest4, outward, around}
use Rattle.interval.specs.Interval.{Arithmetic, Wide, Narrow, exact_sum, exact_difference, step_down, step_up, sum, difference, product, quotient}
use Rattle.interval.specs.Interval.{negation, square, imin, imax, clamp01}
use Rattle.interval.specs.Nearest.{nearest, from_rational}
use Rattle.interval.specs.Encloses.{value}
use Rattle.interval.proofs.Pattern.{finite_real}
use Rattle.interval.proofs.Rounding.{Rounds, rounds_fits}
use Rattle.interval.proofs.Operations.{add_rounds, sub_rounds, mul_rounds, nearest_rounds}
use Rattle.interval.proofs.Membership.{zero_finite, one_finite}
use Rattle.interval.proofs.Compare.{le_value, le_real, least_one, greatest_one, least4_one, greatest4_one}
use Rattle.interval.proofs.Order.{le_refl, le_trans, neg_le, least_le_left, least_le_right, le_greatest_left, le_greatest_right}
use Rattle.interval.proofs.Order.{rounds_le, rounds_real, round_real, le_up, down_le}

-- an end candidate: a double of the format, no NaN
record Real (x : Float) : Type 0 where
  fits : T (fits binary64 x)
  real : T (not (is_nan x))

rounded : {x : Float} {q : Fraction} → Rounds x q → Real x
rounded r = record { fits = rounds_fits r; real = rounds_real r }

-- stepped outward, what is in order stays in order
outward_ordered : (a b : Float) → Real a → Real b → T (le a b) → T (ordered (outward a b))
outward_ordered a b p q h =
    le_trans (next_down a) b (next_up b) (le_trans (next_down a) a b (down_le a p.fits p.real) h) (le_up b q.fits q.real)

-- under either arithmetic a low end is no higher than what was rounded, and a high end no lower
step_below : (ar : Arithmetic) (e : Bool) (x : Float) → Real x → T (le (step_down ar e x) x)
step_below Wide e x r = down_le x r.fits r.real
step_below Narrow true x r = le_refl x r.real
step_below Narrow false x r = down_le x r.fits r.real

step_above : (ar : Arithmetic) (e : Bool) (x : Float) → Real x → T (le x (step_up ar e x))
step_above Wide e x r = le_up x r.fits r.real
step_above Narrow true x r = le_refl x r.real
step_above Narrow false x r = le_up x r.fits r.real

ends_ordered : (ar : Arithmetic) (c e : Bool) (a b : Float) → Real a → Real b → T (le a b) → T (le (step_down ar c a) (step_up ar e b))
ends_ordered ar c e a b p q h =
    le_trans (step_down ar c a) b (step_up ar e b) (le_trans (step_down ar c a) a b (step_below ar c a p) h) (step_above ar e b q)

-- the least of four is at most the first of them, and that at most the greatest
around_ordered : (a b c d : Float) → Real a → Real b → Real c → Real d → T (ordered (around a b c d))
around_ordered a b c d p q r s =
    outward_ordered low high (least4_one a b c d Real p q r s) (greatest4_one a b c d Real p q r s)
    (le_trans low a high (le_trans low (least a b) a down (least_le_left a b p.real q.real))
    (le_trans a (greatest a b) high (le_greatest_left a b p.real q.real) up))
  where
    low : Float
    low = least4 a b c d

    high : Float
    high = greatest4 a b c d

    down : T (le (least4 a b c d) (least a b))
    down = least_le_left (least a b) (least c d) (least_one a b Real p q).real (least_one c d Real r s).real

    up : T (le (greatest a b) (greatest4 a b c d))
    up = le_greatest_left (greatest a b) (greatest c d) (greatest_one a b Real p q).real (greatest_one c d Real r s).real

-- ---- intervals with finite ends
pub record Finite (X : Interval) : Type 0 where
  pub lo : T (finite X.lo)
  pub hi : T (finite X.hi)

in_values : (X : Interval) → Finite X → T (ordered X) → value X.lo ≤F value X.hi
in_values X f h = le_value X.lo X.hi f.lo f.hi h

-- neither 0 nor −0
abbrev pub NotZero : Float → Type 0
NotZero y = T (not (eq y (b64 0)))

zero_told : (n : ℕ) (t : Bool) (d : ℤ) → n ≡ 0 → NotZero (fin t n d) → ⊥
unfolding eq of_bits
zero_told n t d z h = go t (subst (λ (k : ℕ). NotZero (fin t k d)) z h)
  where
    go : (t : Bool) → NotZero (fin t 0 d) → ⊥
    go true h = simp zero-mul at h
    go false h = simp zero-mul at h

over : (x y : Float) → T (finite x) → T (finite y) → NotZero y → Real (div binary64 x y)
unfolding div
over nan y f g h = absurd f
over (inf s) y f g h = absurd f
over (fin s m e) nan f g h = absurd g
over (fin s m e) (inf t) f g h = absurd g
over (fin s m e) (fin t n d) f g h = record {
  fits = div-fits binary64 (fin s m e) (fin t n d);
  real = choose (eqb n 0) _ _ (λ z. T (not (is_nan z))) (λ u. absurd (zero_told n t d (eqb→eq n 0 u) h))
      (λ _. round_real (unlike s t) (m * up e * down d) (n * up d * down e));
}

module _ (X Y : Interval) (f : Finite X) (g : Finite Y) where
  module _ (h : T (ordered X)) (k : T (ordered Y)) where
    pub add_ordered : (ar : Arithmetic) → T (ordered (sum ar X Y))
    unfolding sum
    add_ordered ar =
        let a = add_rounds X.lo Y.lo f.lo g.lo in
        let b = add_rounds X.hi Y.hi f.hi g.hi in
        ends_ordered ar (exact_sum X.lo Y.lo) (exact_sum X.hi Y.hi) (add binary64 X.lo Y.lo) (add binary64 X.hi Y.hi)
        (rounded a) (rounded b)
        (rounds_le a b (add_mono_f (in_values X f h) (in_values Y g k)))

    pub sub_ordered : (ar : Arithmetic) → T (ordered (difference ar X Y))
    unfolding difference
    sub_ordered ar =
        let a = sub_rounds X.lo Y.hi f.lo g.hi in
        let b = sub_rounds X.hi Y.lo f.hi g.lo in
        ends_ordered ar (exact_difference X.lo Y.hi) (exact_difference X.hi Y.lo) (sub binary64 X.lo Y.hi) (sub binary64 X.hi Y.lo)
        (rounded a) (rounded b)
        (rounds_le a b (sub_mono_f (in_values X f h) (in_values Y g k)))

  pub mul_ordered : T (ordered (product X Y))
  unfolding product
  mul_ordered =
      around_ordered _ _ _ _ (times X.lo Y.lo f.lo g.lo) (times X.lo Y.hi f.lo g.hi)
      (times X.hi Y.lo f.hi g.lo) (times X.hi Y.hi f.hi g.hi)
    where
      times : (x y : Float) → T (finite x) → T (finite y) → Real (mul binary64 x y)
      times x y p q = rounded (mul_rounds x y p q)

  pub div_ordered : NotZero Y.lo → NotZero Y.hi → T (ordered (quotient X Y))
  unfolding quotient
  div_ordered a b =
      around_ordered _ _ _ _ (over X.lo Y.lo f.lo g.lo a) (over X.lo Y.hi f.lo g.hi b)
      (over X.hi Y.lo f.hi g.lo a) (over X.hi Y.hi f.hi g.hi b)

pub square_ordered : (X : Interval) → Finite X → T (ordered (square X))
unfolding square
square_ordered X f = mul_ordered X X f f

-- ---- without rounding: these ask for no finite ends
pub neg_ordered : (X : Interval) → T (ordered X) → T (ordered (negation X))
unfolding negation
neg_ordered X h = neg_le X.lo X.hi h

pub point_ordered : (x : Float) → T (not (is_nan x)) → T (ordered (point x))
point_ordered x n = le_refl x n

module _ (X Y : Interval) (h : T (ordered X)) (k : T (ordered Y)) where
  x_lo : T (not (is_nan X.lo))
  x_lo = (le_real X.lo X.hi h).0

  x_hi : T (not (is_nan X.hi))
  x_hi = (le_real X.lo X.hi h).1

  y_lo : T (not (is_nan Y.lo))
  y_lo = (le_real Y.lo Y.hi k).0

  y_hi : T (not (is_nan Y.hi))
  y_hi = (le_real Y.lo Y.hi k).1

  pub min_ordered : T (ordered (imin X Y))
  unfolding imin
  min_ordered =
      let low = least X.lo Y.lo in
      least_one X.hi Y.hi (λ z. T (le low z))
      (le_trans low X.lo X.hi (least_le_left X.lo Y.lo x_lo y_lo) h)
      (le_trans low Y.lo Y.hi (least_le_right X.lo Y.lo x_lo y_lo) k)

  pub max_ordered : T (ordered (imax X Y))
  unfolding imax
  max_ordered =
      let high = greatest X.hi Y.hi in
      greatest_one X.lo Y.lo (λ z. T (le z high))
      (le_trans X.lo X.hi high h (le_greatest_left X.hi Y.hi x_hi y_hi))
      (le_trans Y.lo Y.hi high k (le_greatest_right X.hi Y.hi x_hi y_hi))

pub clamp_ordered : (X : Interval) → T (ordered X) → T (ordered (clamp01 X))
unfolding clamp01
clamp_ordered X h = min_ordered (imax X (point (b64 0))) (point one) (max_ordered X (point (b64 0)) h zero_ordered) one_ordered
  where
    one : Float
    one = b64 0x3ff0_0000_0000_0000

    zero_ordered : T (ordered (point (b64 0)))
    zero_ordered = point_ordered (b64 0) (finite_real (b64 0) zero_finite)

    one_ordered : T (ordered (point one))
    one_ordered = point_ordered one (finite_real one one_finite)

-- ---- a fraction's own interval
pub fraction_ordered : (z : ℤ) (d : ℕ) → 0 < d → T (ordered (from_rational z d))
unfolding from_rational
fraction_ordered z d D =
    let r = rounded (nearest_rounds z d D) in
    outward_ordered (nearest z d) (nearest z d) r r (le_refl (nearest z d) r.real)
