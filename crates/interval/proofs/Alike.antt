-- "ZEROS OF EITHER SIGN ARE ALIKE IN ALL COMPARISONS", and so in all results: two doubles are alike where each is at most the other, that is,
-- where they are the same double or two zeros. Of intervals whose ends are alike a product, which steps, gives the same bits, and a difference
-- ends that are alike again. Assumes nothing.
use Rattle.std.proofs.Common.{◌≡◌, ℕ, suc, ◌≤◌, Bool, true, false, ◌&&◌, T, leb, refl, ap, subst, arith, leb→le}
use lib.Ieee.{Float, nan, inf, fin, binary64, neg, sub, mul, lt, eq, le, fits}
use lib.Ieee.Fits.{neg-fits}
use lib.Ieee.Scale.{finite}
use Rattle.exact.specs.Fraction.{Fraction, ◌-F◌, ◌≈F◌}
use Rattle.exact.proofs.Fraction.{≤F_antisym, ≈F_refl, ≈F_le, ≈F_ge, sub_cong_f, mul_cong_f}
use Rattle.exact.proofs.FractionSize.{equal_same}
use Rattle.interval.specs.declared.Interval.{Interval}
use Rattle.interval.specs.Step.{next_up, next_down}
use Rattle.interval.specs.Interval.{Arithmetic, Wide, Narrow, point, least, greatest, outward, exact_difference, step_down, step_up, difference, product}
use Rattle.interval.specs.Encloses.{value, Small}
use Rattle.interval.proofs.Small.{small_finite, small_more}
use Rattle.interval.proofs.SmallRounding.{up_small, down_small}
use Rattle.interval.proofs.Rounding.{Rounds, rounds_fits}
use Rattle.interval.proofs.Operations.{mul_rounds}
use Rattle.interval.proofs.Candidates.{Candidate, difference_candidate}
use Rattle.interval.proofs.Compare.{equal_tests, le_value, value_le, le_real, least_one, greatest_one}
use Rattle.interval.proofs.Rank.{up_same}
use Rattle.interval.proofs.Order.{le_trans, neg_le, least_le_left, least_le_right, le_greatest_left, le_greatest_right, rounds_le}

more : (k : ℕ) → k ≤ suc k
more k = omega arith

pub record Alike (x y : Float) : Type 0 where
  pub most : T (le x y)
  pub least : T (le y x)

pub rounds_alike : {x y : Float} {p q : Fraction} → Rounds x p → Rounds y q → p ≈F q → Alike x y
rounds_alike a b e = record { most = rounds_le a b (≈F_le e); least = rounds_le b a (≈F_ge e) }

neg_alike : {x y : Float} → Alike x y → Alike (neg x) (neg y)
neg_alike {x} {y} h = record { most = neg_le y x h.least; least = neg_le x y h.most }

-- ---- a test says the same of either
module _ {x y : Float} (h : Alike x y) (z : Float) where
  pub le_alike : le z x ≡ le z y
  le_alike = equal_tests (le z x) (le z y) (λ t. le_trans z x y t h.most) (λ t. le_trans z y x t h.least)

  pub alike_le : le x z ≡ le y z
  alike_le = equal_tests (le x z) (le y z) (λ t. le_trans y x z h.least t) (λ t. le_trans x y z h.most t)

-- ---- a step forgets the sign of a zero
pub up_alike : (x y : Float) → T (fits binary64 x) → T (fits binary64 y) → Alike x y → next_up x ≡ next_up y
unfolding le lt eq
up_alike nan y f g h = absurd h.most
up_alike (inf s) nan f g h = absurd h.most
up_alike (inf true) (inf true) f g h = refl
up_alike (inf true) (inf false) f g h = absurd h.least
up_alike (inf false) (inf true) f g h = absurd h.most
up_alike (inf false) (inf false) f g h = refl
up_alike (inf true) (fin t n d) f g h = absurd h.least
up_alike (inf false) (fin t n d) f g h = absurd h.most
up_alike (fin s m e) nan f g h = absurd h.most
up_alike (fin s m e) (inf true) f g h = absurd h.most
up_alike (fin s m e) (inf false) f g h = absurd h.least
up_alike (fin s m e) (fin t n d) f g h =
    let x = fin s m e in
    let y = fin t n d in
    up_same x y f g tt tt (≤F_antisym (le_value x y tt tt h.most) (le_value y x tt tt h.least))

down_alike : (x y : Float) → T (fits binary64 x) → T (fits binary64 y) → Alike x y → next_down x ≡ next_down y
unfolding next_down
down_alike x y f g h = ap neg (up_alike (neg x) (neg y) (neg-fits binary64 x f) (neg-fits binary64 y g) (neg_alike h))

-- ---- end candidates, of one operation on either
record Candidates (x y : Float) : Type 0 where
  left : T (fits binary64 x)
  right : T (fits binary64 y)
  alike : Alike x y

candidates : {x y : Float} {p q : Fraction} → Rounds x p → Rounds y q → p ≈F q → Candidates x y
candidates a b e = record { left = rounds_fits a; right = rounds_fits b; alike = rounds_alike a b e }

outward_alike : {a b c d : Float} → Candidates a c → Candidates b d → outward a b ≡ outward c d
outward_alike {a} {b} {c} {d} p q = λ i. record {
  lo = down_alike a c p.left p.right p.alike i;
  hi = up_alike b d q.left q.right q.alike i;
}

least_mono : (a b c d : Float) → T (le a c) → T (le b d) → T (le (least a b) (least c d))
least_mono a b c d h k =
    let m = least a b in
    let n = (le_real a c h).0 in
    let o = (le_real b d k).0 in
    least_one c d (λ z. T (le m z)) (le_trans m a c (least_le_left a b n o) h) (le_trans m b d (least_le_right a b n o) k)

greatest_mono : (a b c d : Float) → T (le a c) → T (le b d) → T (le (greatest a b) (greatest c d))
greatest_mono a b c d h k =
    let m = greatest c d in
    let n = (le_real a c h).1 in
    let o = (le_real b d k).1 in
    greatest_one a b (λ z. T (le z m)) (le_trans a c m h (le_greatest_left c d n o)) (le_trans b d m k (le_greatest_right c d n o))

lesser : {a b c d : Float} → Candidates a c → Candidates b d → Candidates (least a b) (least c d)
lesser {a} {b} {c} {d} p q = record {
  left = least_one a b (λ z. T (fits binary64 z)) p.left q.left;
  right = least_one c d (λ z. T (fits binary64 z)) p.right q.right;
  alike = record { most = least_mono a b c d p.alike.most q.alike.most; least = least_mono c d a b p.alike.least q.alike.least };
}

greater : {a b c d : Float} → Candidates a c → Candidates b d → Candidates (greatest a b) (greatest c d)
greater {a} {b} {c} {d} p q = record {
  left = greatest_one a b (λ z. T (fits binary64 z)) p.left q.left;
  right = greatest_one c d (λ z. T (fits binary64 z)) p.right q.right;
  alike = record { most = greatest_mono a b c d p.alike.most q.alike.most; least = greatest_mono c d a b p.alike.least q.alike.least };
}

-- ---- doubles of one value and at most 2 ^ k in size, and intervals of such ends
pub record Same (k : ℕ) (x y : Float) : Type 0 where
  pub left : Small k x
  pub right : Small k y
  pub value : value x ≈F value y

pub same_alike : {k : ℕ} {x y : Float} → Same k x y → Alike x y
same_alike {k} {x} {y} h =
    let f = small_finite k x h.left in
    let g = small_finite k y h.right in
    record { most = value_le x y f g (≈F_le h.value); least = value_le y x g f (≈F_ge h.value) }

pub record SameEnds (k : ℕ) (X Y : Interval) : Type 0 where
  pub lo : Same k X.lo Y.lo
  pub hi : Same k X.hi Y.hi

pub same : {k : ℕ} (x : Float) → Small k x → Same k x x
same x s = record { left = s; right = s; value = ≈F_refl (value x) }

pub same_ends : {k : ℕ} (X : Interval) → Small k X.lo → Small k X.hi → SameEnds k X X
same_ends X f g = record { lo = same X.lo f; hi = same X.hi g }

finite_same : (k : ℕ) (x y : Float) → Small k x → Small k y → finite x ≡ finite y
finite_same k x y f g = equal_tests (finite x) (finite y) (λ _. small_finite k y g) (λ _. small_finite k x f)

-- ---- two differences of one value. An exact end is not stepped, and keeps the sign of its zero: the ends are the same in value
module _ (k : ℕ) (K : suc k ≤ 1022) (x y v w : Float) (sx : Small k x) (sy : Small k y) (sv : Small k v) (sw : Small k w)
    (exact : value x -F value y ≈F value v -F value w) where
  a : Candidate (suc k) (sub binary64 x y) (value x -F value y)
  a = difference_candidate k K x y sx sy

  b : Candidate (suc k) (sub binary64 v w) (value v -F value w)
  b = difference_candidate k K v w sv sw

  both : Candidates (sub binary64 x y) (sub binary64 v w)
  both = candidates a.rounds b.rounds exact

  values : value (sub binary64 x y) ≈F value (sub binary64 v w)
  values =
      let f = small_finite (suc k) (sub binary64 x y) a.small in
      let g = small_finite (suc k) (sub binary64 v w) b.small in
      ≤F_antisym (le_value (sub binary64 x y) (sub binary64 v w) f g both.alike.most)
      (le_value (sub binary64 v w) (sub binary64 x y) g f both.alike.least)

  test_same : exact_difference x y ≡ exact_difference v w
  unfolding exact_difference
  test_same = λ i. finite_same k x v sx sv i && finite_same k y w sy sw i
      && (finite_same (suc k) (sub binary64 x y) (sub binary64 v w) a.small b.small i && equal_same values exact i)

  unstepped : Same (suc (suc k)) (sub binary64 x y) (sub binary64 v w)
  unstepped = record {
    left = small_more (suc k) (suc (suc k)) (sub binary64 x y) (more (suc k)) a.small;
    right = small_more (suc k) (suc (suc k)) (sub binary64 v w) (more (suc k)) b.small;
    value = values;
  }

  low_same : (ar : Arithmetic) → Same (suc (suc k)) (step_down ar (exact_difference x y) (sub binary64 x y))
      (step_down ar (exact_difference v w) (sub binary64 v w))
  low_same ar = subst (λ (e : Bool). Same (suc (suc k)) (step_down ar (exact_difference x y) (sub binary64 x y)) (step_down ar e (sub binary64 v w))) test_same
      (go ar (exact_difference x y))
    where
      stepped : Same (suc (suc k)) (next_down (sub binary64 x y)) (next_down (sub binary64 v w))
      stepped = subst (λ (z : Float). Same (suc (suc k)) (next_down (sub binary64 x y)) z)
          (down_alike (sub binary64 x y) (sub binary64 v w) both.left both.right both.alike)
          (same (next_down (sub binary64 x y)) (down_small (suc k) (sub binary64 x y) K a.fits a.small))

      go : (ar : Arithmetic) (e : Bool) → Same (suc (suc k)) (step_down ar e (sub binary64 x y)) (step_down ar e (sub binary64 v w))
      go Wide e = stepped
      go Narrow true = unstepped
      go Narrow false = stepped

  high_same : (ar : Arithmetic) → Same (suc (suc k)) (step_up ar (exact_difference x y) (sub binary64 x y)) (step_up ar (exact_difference v w) (sub binary64 v w))
  high_same ar = subst (λ (e : Bool). Same (suc (suc k)) (step_up ar (exact_difference x y) (sub binary64 x y)) (step_up ar e (sub binary64 v w))) test_same
      (go ar (exact_difference x y))
    where
      stepped : Same (suc (suc k)) (next_up (sub binary64 x y)) (next_up (sub binary64 v w))
      stepped = subst (λ (z : Float). Same (suc (suc k)) (next_up (sub binary64 x y)) z)
          (up_alike (sub binary64 x y) (sub binary64 v w) both.left both.right both.alike)
          (same (next_up (sub binary64 x y)) (up_small (suc k) (sub binary64 x y) K a.fits a.small))

      go : (ar : Arithmetic) (e : Bool) → Same (suc (suc k)) (step_up ar e (sub binary64 x y)) (step_up ar e (sub binary64 v w))
      go Wide e = stepped
      go Narrow true = unstepped
      go Narrow false = stepped

pub sub_same : (ar : Arithmetic) {k : ℕ} {X Y U W : Interval} → T (leb (suc k) 1022) → SameEnds k X U → SameEnds k Y W
    → SameEnds (suc (suc k)) (difference ar X Y) (difference ar U W)
unfolding difference
sub_same ar {k} {X} {Y} {U} {W} t h g =
    let K = leb→le (suc k) 1022 t in
    record {
      lo = low_same k K X.lo Y.hi U.lo W.hi h.lo.left g.hi.left h.lo.right g.hi.right (sub_cong_f h.lo.value g.hi.value) ar;
      hi = high_same k K X.hi Y.lo U.hi W.lo h.hi.left g.lo.left h.hi.right g.lo.right (sub_cong_f h.hi.value g.lo.value) ar;
    }

-- the high ends of two differences of points
pub apart_same : (ar : Arithmetic) {k : ℕ} (x y v w : Float) → T (leb (suc k) 1022) → Small k x → Small k y → Small k v → Small k w
    → value x -F value y ≈F value v -F value w → Same (suc (suc k)) (difference ar (point x) (point y)).hi (difference ar (point v) (point w)).hi
unfolding difference
apart_same ar {k} x y v w t sx sy sv sw e = high_same k (leb→le (suc k) 1022 t) x y v w sx sy sv sw e ar

-- ---- a product steps
module _ {j k : ℕ} {X Y U W : Interval} (h : SameEnds j X U) (g : SameEnds k Y W) where
  pub mul_same : product X Y ≡ product U W
  unfolding product
  mul_same = outward_alike (lesser (lesser low across) (lesser back high)) (greater (greater low across) (greater back high))
    where
      times : {x y v w : Float} → Same j x v → Same k y w → Candidates (mul binary64 x y) (mul binary64 v w)
      times {x} {y} {v} {w} p q =
          candidates (mul_rounds x y (small_finite j x p.left) (small_finite k y q.left))
          (mul_rounds v w (small_finite j v p.right) (small_finite k w q.right))
          (mul_cong_f p.value q.value)

      low : Candidates (mul binary64 X.lo Y.lo) (mul binary64 U.lo W.lo)
      low = times h.lo g.lo

      across : Candidates (mul binary64 X.lo Y.hi) (mul binary64 U.lo W.hi)
      across = times h.lo g.hi

      back : Candidates (mul binary64 X.hi Y.lo) (mul binary64 U.hi W.lo)
      back = times h.hi g.lo

      high : Candidates (mul binary64 X.hi Y.hi) (mul binary64 U.hi W.hi)
      high = times h.hi g.hi
