-- "EXACT SUMS STAY NARROW": what is made of narrow sums lies in what is made of wide ones. Each operation keeps the order of its operands: where
-- they lie in others, its result, in either arithmetic, lies in the wide result of those. Sizes go along as they do in `In`, so that no end is
-- infinite; `sum_narrow` and `difference_narrow` ask for finite ends alone, and there a result may overflow. Assumes nothing.
use Rattle.std.proofs.Common.{ℕ, suc, ◌≤◌, max, Bool, true, false, not, T, leb, sym, subst, inl, inr, leb→le}
use native.Mathlib.Nat.{le-max_left, le-max_right}
use lib.Ieee.{Float, binary64, add, sub, neg, le, fits, is_nan}
use lib.Ieee.Fits.{neg-fits, add-fits, sub-fits}
use lib.Ieee.Scale.{finite}
use Rattle.exact.specs.Fraction.{Fraction, ◌≤F◌, ◌<F◌}
use Rattle.exact.proofs.Fraction.{≤F_refl, ≤F_trans, <F_le, ≤F_antisym, ≤F-<F_trans, <F-≤F_trans, le_or_lt_f, ≈F_le, ≈F_ge}
use Rattle.exact.proofs.Fraction.{add_mono_f, sub_mono_f, neg_mono_f, neg_lt, neg_neg_f}
use Rattle.interval.specs.declared.Interval.{Interval}
use Rattle.interval.specs.Step.{b64, next_up, next_down}
use Rattle.interval.specs.Interval.{Arithmetic, Wide, Narrow, step_down, step_up, exact_sum, exact_difference}
use Rattle.interval.specs.Interval.{least, greatest, sum, difference, negation, clamp01}
use Rattle.interval.specs.Encloses.{value, ◌⊑◌, Small}
use Rattle.interval.proofs.Rounding.{rounds_mono}
use Rattle.interval.proofs.Rank.{next_above, up_same}
use Rattle.interval.proofs.Small.{small_finite, small_neg, value_neg, small_more}
use Rattle.interval.proofs.SmallRounding.{next_small, down_is}
use Rattle.interval.proofs.Compare.{value_le, le_real, least_one, least_left, least_right, greatest_one, greatest_left, greatest_right}
use Rattle.interval.proofs.Order.{le_refl, le_up, down_le, rounds_real}
use Rattle.interval.proofs.Ordered.{Finite}
use Rattle.interval.proofs.Operations.{add_rounds, sub_rounds}
use Rattle.interval.proofs.Candidates.{Candidate, sum_candidate, difference_candidate}
use Rattle.interval.proofs.Membership.{In, low, high, between, zero_finite, one_finite}
use Rattle.interval.proofs.Encloses.{add_encloses, sub_encloses, neg_encloses}
use Rattle.interval.proofs.Bounds.{clamp_encloses}

-- ---- the narrow sum and difference lie in the wide ones
module _ (v : Float) (f : T (fits binary64 v)) (n : T (not (is_nan v))) (e : Bool) where
  narrow_low : T (le (next_down v) (step_down Narrow e v))
  narrow_low = go e
    where
      down : T (le (next_down v) v)
      down = down_le v f n

      go : (e : Bool) → T (le (next_down v) (step_down Narrow e v))
      go true = down
      go false = le_refl (next_down v) (le_real (next_down v) v down).0

  narrow_high : T (le (step_up Narrow e v) (next_up v))
  narrow_high = go e
    where
      up : T (le v (next_up v))
      up = le_up v f n

      go : (e : Bool) → T (le (step_up Narrow e v) (next_up v))
      go true = up
      go false = le_refl (next_up v) (le_real v (next_up v) up).1

module _ (X Y : Interval) (f : Finite X) (g : Finite Y) where
  pub sum_narrow : sum Narrow X Y ⊑ sum Wide X Y
  unfolding sum
  sum_narrow = record {
    lower = narrow_low (add binary64 X.lo Y.lo) (add-fits binary64 X.lo Y.lo)
        (rounds_real (add_rounds X.lo Y.lo f.lo g.lo)) (exact_sum X.lo Y.lo);
    upper = narrow_high (add binary64 X.hi Y.hi) (add-fits binary64 X.hi Y.hi)
        (rounds_real (add_rounds X.hi Y.hi f.hi g.hi)) (exact_sum X.hi Y.hi);
  }

  pub difference_narrow : difference Narrow X Y ⊑ difference Wide X Y
  unfolding difference
  difference_narrow = record {
    lower = narrow_low (sub binary64 X.lo Y.hi) (sub-fits binary64 X.lo Y.hi)
        (rounds_real (sub_rounds X.lo Y.hi f.lo g.hi)) (exact_difference X.lo Y.hi);
    upper = narrow_high (sub binary64 X.hi Y.lo) (sub-fits binary64 X.hi Y.lo)
        (rounds_real (sub_rounds X.hi Y.lo f.hi g.lo)) (exact_difference X.hi Y.lo);
  }

-- ---- intervals in order whose ends are at most 2 ^ k in size
pub record Sized (k : ℕ) (X : Interval) : Type 0 where
  pub lo : Small k X.lo
  pub hi : Small k X.hi
  pub order : value X.lo ≤F value X.hi

pub sized : {k : ℕ} {q : Fraction} {X : Interval} → In k q X → Sized k X
sized h = record { lo = h.small_lo; hi = h.small_hi; order = ≤F_trans (low h) (high h) }

-- each holds its own ends
pub low_end : {k : ℕ} {X : Interval} → Sized k X → In k (value X.lo) X
low_end {X = X} s = between s.lo s.hi (≤F_refl (value X.lo)) s.order

pub high_end : {k : ℕ} {X : Interval} → Sized k X → In k (value X.hi) X
high_end {X = X} s = between s.lo s.hi s.order (≤F_refl (value X.hi))

-- ---- X lies in Y, with the sizes of both
pub record Nested (k : ℕ) (X Y : Interval) : Type 0 where
  pub small : Sized k X
  pub wide : Sized k Y
  pub lower : value Y.lo ≤F value X.lo
  pub upper : value X.hi ≤F value Y.hi

pub itself : {k : ℕ} {X : Interval} → Sized k X → Nested k X X
itself {X = X} s = record { small = s; wide = s; lower = ≤F_refl (value X.lo); upper = ≤F_refl (value X.hi) }

pub lies : {k : ℕ} {X Y : Interval} → Nested k X Y → X ⊑ Y
lies {k} {X} {Y} h = record {
  lower = value_le Y.lo X.lo (small_finite k Y.lo h.wide.lo) (small_finite k X.lo h.small.lo) h.lower;
  upper = value_le X.hi Y.hi (small_finite k X.hi h.small.hi) (small_finite k Y.hi h.wide.hi) h.upper;
}

-- Y holds the ends of X
pub low_nested : {k : ℕ} {X Y : Interval} → Nested k X Y → In k (value X.lo) Y
low_nested h = between h.wide.lo h.wide.hi h.lower (≤F_trans h.small.order h.upper)

pub high_nested : {k : ℕ} {X Y : Interval} → Nested k X Y → In k (value X.hi) Y
high_nested h = between h.wide.lo h.wide.hi (≤F_trans h.lower h.small.order) h.upper

-- a larger size
pub sized_larger : {j k : ℕ} {X : Interval} → j ≤ k → Sized j X → Sized k X
sized_larger {j} {k} {X} l s = record { lo = small_more j k X.lo l s.lo; hi = small_more j k X.hi l s.hi; order = s.order }

inside_larger : {j k : ℕ} {X Y : Interval} → j ≤ k → Nested j X Y → Nested k X Y
inside_larger l h = record { small = sized_larger l h.small; wide = sized_larger l h.wide; lower = h.lower; upper = h.upper }

pub looser : {j : ℕ} (k : ℕ) {X Y : Interval} → T (leb j k) → Nested j X Y → Nested k X Y
looser {j} k t h = inside_larger (leb→le j k t) h

-- ---- the next double above, and below, keeps the order
pub up_mono : (k : ℕ) (x y : Float) → k ≤ 1022 → T (fits binary64 x) → T (fits binary64 y) → Small k x → Small k y → value x ≤F value y
    → value (next_up x) ≤F value (next_up y)
up_mono k x y K f g s t h =
    let p = small_finite k x s in
    let q = small_finite k y t in
    elim (le_or_lt_f (value y) (value x)) [
      | inl l ↦ subst (λ (z : Float). value z ≤F value (next_up y)) (sym (up_same x y f g p q (≤F_antisym h l))) (≤F_refl (value (next_up y)))
      | inr l ↦ ≤F_trans (next_above x y f g p q l).least (<F_le (next_small k y K g t).above)
    ]

pub neg_order : (x y : Float) → value x ≤F value y → value (neg y) ≤F value (neg x)
neg_order x y h = ≤F_trans (≈F_le (value_neg y)) (≤F_trans (neg_mono_f h) (≈F_ge (value_neg x)))

pub down_below : (k : ℕ) (x : Float) → k ≤ 1022 → T (fits binary64 x) → Small k x → value (next_down x) <F value x
down_below k x K f s =
    subst (λ (z : Float). value z <F value x) (sym (down_is x)) (≤F-<F_trans (≈F_le (value_neg (next_up (neg x))))
    (<F-≤F_trans (neg_lt (≤F-<F_trans (≈F_ge (value_neg x)) (next_small k (neg x) K (neg-fits binary64 x f) (small_neg k x s)).above))
    (≈F_le (neg_neg_f (value x)))))

pub down_mono : (k : ℕ) (x y : Float) → k ≤ 1022 → T (fits binary64 x) → T (fits binary64 y) → Small k x → Small k y → value x ≤F value y
    → value (next_down x) ≤F value (next_down y)
down_mono k x y K f g s t h =
    let up = up_mono k (neg y) (neg x) K (neg-fits binary64 y g) (neg-fits binary64 x f) (small_neg k y t) (small_neg k x s) (neg_order x y h) in
    subst (λ (z : Float). value z ≤F value (next_down y)) (sym (down_is x)) (subst (λ (z : Float). value (neg (next_up (neg x))) ≤F value z) (sym (down_is y))
    (neg_order (next_up (neg y)) (next_up (neg x)) up))

-- ---- an end of a sum or a difference, stepped or not, against a stepped one
module _ (k : ℕ) (K : k ≤ 1022) {x y : Float} {p q : Fraction} (g : Candidate k x p) (h : Candidate k y q) where
  pub rounded_order : p ≤F q → value x ≤F value y
  rounded_order = rounds_mono g.rounds h.rounds (small_finite k x g.small) (small_finite k y h.small)

  step_low : (ar : Arithmetic) (e : Bool) → p ≤F q → value (next_down x) ≤F value (step_down ar e y)
  step_low Wide e l = down_mono k x y K g.fits h.fits g.small h.small (rounded_order l)
  step_low Narrow true l = ≤F_trans (<F_le (down_below k x K g.fits g.small)) (rounded_order l)
  step_low Narrow false l = down_mono k x y K g.fits h.fits g.small h.small (rounded_order l)

  step_high : (ar : Arithmetic) (e : Bool) → p ≤F q → value (step_up ar e x) ≤F value (next_up y)
  step_high Wide e l = up_mono k x y K g.fits h.fits g.small h.small (rounded_order l)
  step_high Narrow true l = ≤F_trans (rounded_order l) (<F_le (next_small k y K h.fits h.small).above)
  step_high Narrow false l = up_mono k x y K g.fits h.fits g.small h.small (rounded_order l)

-- the low ends compared, and the high ends; the larger of two sizes is a size of both
module _
    (ar : Arithmetic) {j k : ℕ} (t : T (leb (suc (max j k)) 1022)) {X X' Y Y' : Interval}
    (x : Sized j X) (x' : Sized j X') (y : Sized k Y) (y' : Sized k Y') where
  abbrev n : ℕ
  n = max j k

  N : suc n ≤ 1022
  N = leb→le (suc n) 1022 t

  left : {Z : Interval} → Sized j Z → Sized n Z
  left = sized_larger (le-max_left j k)

  right : {Z : Interval} → Sized k Z → Sized n Z
  right = sized_larger (le-max_right j k)

  sum_lower : value X'.lo ≤F value X.lo → value Y'.lo ≤F value Y.lo → value (sum Wide X' Y').lo ≤F value (sum ar X Y).lo
  unfolding sum
  sum_lower h g = step_low (suc n) N (sum_candidate n N X'.lo Y'.lo (left x').lo (right y').lo)
      (sum_candidate n N X.lo Y.lo (left x).lo (right y).lo) ar _ (add_mono_f h g)

  pub sum_upper : value X.hi ≤F value X'.hi → value Y.hi ≤F value Y'.hi → value (sum ar X Y).hi ≤F value (sum Wide X' Y').hi
  unfolding sum
  sum_upper h g = step_high (suc n) N (sum_candidate n N X.hi Y.hi (left x).hi (right y).hi)
      (sum_candidate n N X'.hi Y'.hi (left x').hi (right y').hi) ar _ (add_mono_f h g)

  difference_lower : value X'.lo ≤F value X.lo → value Y.hi ≤F value Y'.hi → value (difference Wide X' Y').lo ≤F value (difference ar X Y).lo
  unfolding difference
  difference_lower h g = step_low (suc n) N (difference_candidate n N X'.lo Y'.hi (left x').lo (right y').hi)
      (difference_candidate n N X.lo Y.hi (left x).lo (right y).hi) ar _ (sub_mono_f h g)

  difference_upper : value X.hi ≤F value X'.hi → value Y'.lo ≤F value Y.lo → value (difference ar X Y).hi ≤F value (difference Wide X' Y').hi
  unfolding difference
  difference_upper h g = step_high (suc n) N (difference_candidate n N X.hi Y.lo (left x).hi (right y).lo)
      (difference_candidate n N X'.hi Y'.lo (left x').hi (right y').lo) ar _ (sub_mono_f h g)

module _ (ar : Arithmetic) {j k : ℕ} {X X' Y Y' : Interval} (t : T (leb (suc (max j k)) 1022)) (h : Nested j X X') (g : Nested k Y Y') where
  pub sum_nested : Nested (suc (suc (max j k))) (sum ar X Y) (sum Wide X' Y')
  sum_nested = record {
    small = sized (add_encloses ar t (low_end h.small) (low_end g.small));
    wide = sized (add_encloses Wide t (low_end h.wide) (low_end g.wide));
    lower = sum_lower ar t h.small h.wide g.small g.wide h.lower g.lower;
    upper = sum_upper ar t h.small h.wide g.small g.wide h.upper g.upper;
  }

  pub difference_nested : Nested (suc (suc (max j k))) (difference ar X Y) (difference Wide X' Y')
  difference_nested = record {
    small = sized (sub_encloses ar t (low_end h.small) (low_end g.small));
    wide = sized (sub_encloses Wide t (low_end h.wide) (low_end g.wide));
    lower = difference_lower ar t h.small h.wide g.small g.wide h.lower g.upper;
    upper = difference_upper ar t h.small h.wide g.small g.wide h.upper g.lower;
  }

-- ---- negation
pub negation_nested : {k : ℕ} {X X' : Interval} → Nested k X X' → Nested k (negation X) (negation X')
unfolding negation
negation_nested {k} {X} {X'} h = record {
  small = sized (neg_encloses (low_end h.small));
  wide = sized (neg_encloses (low_end h.wide));
  lower = neg_order X.hi X'.hi h.upper;
  upper = neg_order X'.lo X.lo h.lower;
}

-- ---- held to 0..1
module _ (x y z : Float) (f : T (finite x)) (g : T (finite y)) (u : T (finite z)) (h : value x ≤F value y) where
  greatest_mono : value (greatest x z) ≤F value (greatest y z)
  greatest_mono = greatest_one x z (λ v. value v ≤F value (greatest y z)) (≤F_trans h (greatest_left y z g u)) (greatest_right y z g u)

  least_mono : value (least x z) ≤F value (least y z)
  least_mono = least_one y z (λ v. value (least x z) ≤F value v) (≤F_trans (least_left x z f u) h) (least_right x z f u)

clamp_mono : (x y : Float) → T (finite x) → T (finite y) → value x ≤F value y
    → value (least (greatest x (b64 0)) (b64 0x3ff0_0000_0000_0000)) ≤F value (least (greatest y (b64 0)) (b64 0x3ff0_0000_0000_0000))
clamp_mono x y f g h = least_mono (greatest x (b64 0)) (greatest y (b64 0)) (b64 0x3ff0_0000_0000_0000) (above x f) (above y g) one_finite
    (greatest_mono x y (b64 0) f g zero_finite h)
  where
    above : (x : Float) → T (finite x) → T (finite (greatest x (b64 0)))
    above x f = greatest_one x (b64 0) (λ z. T (finite z)) f zero_finite

pub clamp_nested : {k : ℕ} {X X' : Interval} → Nested k X X' → Nested k (clamp01 X) (clamp01 X')
unfolding clamp01
clamp_nested {k} {X} {X'} h = record {
  small = sized (clamp_encloses (low_end h.small));
  wide = sized (clamp_encloses (low_end h.wide));
  lower = clamp_mono X'.lo X.lo (small_finite k X'.lo h.wide.lo) (small_finite k X.lo h.small.lo) h.lower;
  upper = clamp_mono X.hi X'.hi (small_finite k X.hi h.small.hi) (small_finite k X'.hi h.wide.hi) h.upper;
}
