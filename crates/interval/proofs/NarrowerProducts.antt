-- Products and quotients keep what lies in what: the ends of a result are the least and the greatest of four exact fractions, rounded and stepped, and
-- each fraction of the operands that lie in others is between theirs. The same in both arithmetics. Assumes nothing.
use Rattle.std.proofs.Common.{ℕ, suc, ◌+◌, ◌<◌, ◌≤◌, T, leb, pos, leb→le}
use lib.Ieee.{Float, binary64, mul, div, fits}
use lib.Ieee.Scale.{finite}
use Rattle.exact.specs.Fraction.{Fraction, ratio, ◌*F◌, ◌≤F◌, ◌<F◌, min_f, max_f}
use Rattle.exact.proofs.Fraction.{≤F_trans, ≤F-<F_trans, <F-≤F_trans, ≈F_le, ≈F_ge, product_low, product_high}
use Rattle.exact.proofs.FractionSize.{min_one, min_left, min_right, max_one, max_left, max_right}
use Rattle.interval.specs.declared.Interval.{Interval}
use Rattle.interval.specs.Interval.{least4, greatest4, around, product, quotient, square}
use Rattle.interval.specs.Encloses.{value, Small}
use Rattle.interval.proofs.Small.{small_finite}
use Rattle.interval.proofs.StepLaws.{up_strict, down_strict}
use Rattle.interval.proofs.Compare.{least4_one, greatest4_one, least4_below, greatest4_above}
use Rattle.interval.proofs.Operations.{Divisor, divisor}
use Rattle.interval.proofs.Candidates.{Candidate, product_candidate}
use Rattle.interval.proofs.Membership.{In, low, high, equal_in}
use Rattle.interval.proofs.Encloses.{mul_encloses}
use Rattle.interval.proofs.Quotient.{inverse_power, inverse_above, inverse_mono, quotient_candidate, div_encloses}
use Rattle.interval.proofs.Narrower.{Sized, sized, low_end, Nested, low_nested, high_nested, rounded_order, up_mono, down_mono}

-- ---- four candidates: the products of l and h with m and n, each rounded once
abbrev least_of : Fraction → Fraction → Fraction → Fraction → Fraction
least_of l h m n = min_f (min_f (l *F m) (l *F n)) (min_f (h *F m) (h *F n))

abbrev greatest_of : Fraction → Fraction → Fraction → Fraction → Fraction
greatest_of l h m n = max_f (max_f (l *F m) (l *F n)) (max_f (h *F m) (h *F n))

-- e is at most each of the four products, and at least each
abbrev pub AllAbove : Fraction → Fraction → Fraction → Fraction → Fraction → Type 0
AllAbove e l h m n = (e ≤F l *F m) × (e ≤F l *F n) × (e ≤F h *F m) × (e ≤F h *F n)

abbrev pub AllBelow : Fraction → Fraction → Fraction → Fraction → Fraction → Type 0
AllBelow e l h m n = (l *F m ≤F e) × (l *F n ≤F e) × (h *F m ≤F e) × (h *F n ≤F e)

module _ (l h m n : Fraction) where
  least_of_lem : AllAbove (least_of l h m n) l h m n
  least_of_lem =
      let f = min_left (min_f (l *F m) (l *F n)) (min_f (h *F m) (h *F n)) in
      let g = min_right (min_f (l *F m) (l *F n)) (min_f (h *F m) (h *F n)) in (
        ≤F_trans f (min_left (l *F m) (l *F n)),
        ≤F_trans f (min_right (l *F m) (l *F n)),
        ≤F_trans g (min_left (h *F m) (h *F n)),
        ≤F_trans g (min_right (h *F m) (h *F n)),
      )

  greatest_of_lem : AllBelow (greatest_of l h m n) l h m n
  greatest_of_lem =
      let f = max_left (max_f (l *F m) (l *F n)) (max_f (h *F m) (h *F n)) in
      let g = max_right (max_f (l *F m) (l *F n)) (max_f (h *F m) (h *F n)) in (
        ≤F_trans (max_left (l *F m) (l *F n)) f,
        ≤F_trans (max_right (l *F m) (l *F n)) f,
        ≤F_trans (max_left (h *F m) (h *F n)) g,
        ≤F_trans (max_right (h *F m) (h *F n)) g,
      )

  -- x between l and h times y between m and n, in either order
  module _ {x y : Fraction} (xl : l ≤F x) (xh : x ≤F h) where
    least_product : m ≤F y → y ≤F n → least_of l h m n ≤F x *F y
    least_product yl yh = let (a, b, c, d) = least_of_lem in product_low l h m n x y xl xh yl yh _ a b c d

    greatest_product : m ≤F y → y ≤F n → x *F y ≤F greatest_of l h m n
    greatest_product yl yh = let (a, b, c, d) = greatest_of_lem in product_high l h m n x y xl xh yl yh _ a b c d

    least_turned : n ≤F y → y ≤F m → least_of l h m n ≤F x *F y
    least_turned yl yh = let (a, b, c, d) = least_of_lem in product_low l h n m x y xl xh yl yh _ b a d c

    greatest_turned : n ≤F y → y ≤F m → x *F y ≤F greatest_of l h m n
    greatest_turned yl yh = let (a, b, c, d) = greatest_of_lem in product_high l h n m x y xl xh yl yh _ b a d c

pub record Four (k : ℕ) (a b c d : Float) (l h m n : Fraction) : Type 0 where
  pub one : Candidate k a (l *F m)
  pub two : Candidate k b (l *F n)
  pub three : Candidate k c (h *F m)
  pub four : Candidate k d (h *F n)

module _ (k : ℕ) (K : k ≤ 1022) {a b c d : Float} {l h m n : Fraction} (F : Four k a b c d l h m n) where
  is_finite : {z : Float} {f : Fraction} → Candidate k z f → T (finite z)
  is_finite {z} c = small_finite k z c.small

  fits4 : T (fits binary64 (least4 a b c d)) × T (fits binary64 (greatest4 a b c d))
  fits4 = (
    least4_one a b c d (λ z. T (fits binary64 z)) F.one.fits F.two.fits F.three.fits F.four.fits,
    greatest4_one a b c d (λ z. T (fits binary64 z)) F.one.fits F.two.fits F.three.fits F.four.fits,
  )

  small4 : Small k (least4 a b c d) × Small k (greatest4 a b c d)
  small4 = (
    least4_one a b c d (Small k) F.one.small F.two.small F.three.small F.four.small,
    greatest4_one a b c d (Small k) F.one.small F.two.small F.three.small F.four.small,
  )

  -- the least of the doubles is at most what a fraction rounds to that is at least the least of the products, and so above
  least_under : {x : Float} {e : Fraction} → Candidate k x e → least_of l h m n ≤F e → value (least4 a b c d) ≤F value x
  least_under {x} {e} g =
      let (pa, pb, pc, pd) = least4_below a b c d (is_finite F.one) (is_finite F.two) (is_finite F.three) (is_finite F.four) in
      min_one (min_f (l *F m) (l *F n)) (min_f (h *F m) (h *F n)) P
      (min_one (l *F m) (l *F n) P (λ i. ≤F_trans pa (rounded_order k K F.one g i)) (λ i. ≤F_trans pb (rounded_order k K F.two g i)))
      (min_one (h *F m) (h *F n) P (λ i. ≤F_trans pc (rounded_order k K F.three g i)) (λ i. ≤F_trans pd (rounded_order k K F.four g i)))
    where
      P : Fraction → Type 0
      P f = f ≤F e → value (least4 a b c d) ≤F value x

  greatest_over : {x : Float} {e : Fraction} → Candidate k x e → e ≤F greatest_of l h m n → value x ≤F value (greatest4 a b c d)
  greatest_over {x} {e} g =
      let (pa, pb, pc, pd) = greatest4_above a b c d (is_finite F.one) (is_finite F.two) (is_finite F.three) (is_finite F.four) in
      max_one (max_f (l *F m) (l *F n)) (max_f (h *F m) (h *F n)) P
      (max_one (l *F m) (l *F n) P (λ i. ≤F_trans (rounded_order k K g F.one i) pa) (λ i. ≤F_trans (rounded_order k K g F.two i) pb))
      (max_one (h *F m) (h *F n) P (λ i. ≤F_trans (rounded_order k K g F.three i) pc) (λ i. ≤F_trans (rounded_order k K g F.four i) pd))
    where
      P : Fraction → Type 0
      P f = e ≤F f → value x ≤F value (greatest4 a b c d)

  -- a candidate's fraction is above the one and below the other, and so are the least and the greatest of the four
  low_strict : {z : Float} {f : Fraction} → Candidate k z f → value (least4 a b c d) ≤F value z → value (around a b c d).lo <F f
  low_strict g h = down_strict k (least4 a b c d) K g.rounds (is_finite g) fits4.0 small4.0 h

  high_strict : {z : Float} {f : Fraction} → Candidate k z f → value z ≤F value (greatest4 a b c d) → f <F value (around a b c d).hi
  high_strict g h = up_strict k (greatest4 a b c d) K g.rounds (is_finite g) fits4.1 small4.1 h

  least_strict : value (around a b c d).lo <F least_of l h m n
  least_strict =
      let (pa, pb, pc, pd) = least4_below a b c d (is_finite F.one) (is_finite F.two) (is_finite F.three) (is_finite F.four) in
      min_one (min_f (l *F m) (l *F n)) (min_f (h *F m) (h *F n)) P
      (min_one (l *F m) (l *F n) P (low_strict F.one pa) (low_strict F.two pb))
      (min_one (h *F m) (h *F n) P (low_strict F.three pc) (low_strict F.four pd))
    where
      P : Fraction → Type 0
      P f = value (around a b c d).lo <F f

  greatest_strict : greatest_of l h m n <F value (around a b c d).hi
  greatest_strict =
      let (pa, pb, pc, pd) = greatest4_above a b c d (is_finite F.one) (is_finite F.two) (is_finite F.three) (is_finite F.four) in
      max_one (max_f (l *F m) (l *F n)) (max_f (h *F m) (h *F n)) P
      (max_one (l *F m) (l *F n) P (high_strict F.one pa) (high_strict F.two pb))
      (max_one (h *F m) (h *F n) P (high_strict F.three pc) (high_strict F.four pd))
    where
      P : Fraction → Type 0
      P f = f <F value (around a b c d).hi

-- so what is made of four that lie between four others lies in what is made of those
module _
    (k : ℕ) (K : k ≤ 1022) {a b c d a' b' c' d' : Float} {l h m n l' h' m' n' : Fraction}
    (F : Four k a b c d l h m n) (G : Four k a' b' c' d' l' h' m' n') where
  around_lower : AllAbove (least_of l' h' m' n') l h m n → value (around a' b' c' d').lo ≤F value (around a b c d).lo
  around_lower (p, q, r, s) =
      down_mono k (least4 a' b' c' d') (least4 a b c d) K (fits4 k K G).0 (fits4 k K F).0 (small4 k K G).0 (small4 k K F).0
      (least4_one a b c d (λ z. value (least4 a' b' c' d') ≤F value z)
      (least_under k K G F.one p) (least_under k K G F.two q) (least_under k K G F.three r) (least_under k K G F.four s))

  around_upper : AllBelow (greatest_of l' h' m' n') l h m n → value (around a b c d).hi ≤F value (around a' b' c' d').hi
  around_upper (p, q, r, s) =
      up_mono k (greatest4 a b c d) (greatest4 a' b' c' d') K (fits4 k K F).1 (fits4 k K G).1 (small4 k K F).1 (small4 k K G).1
      (greatest4_one a b c d (λ z. value z ≤F value (greatest4 a' b' c' d'))
      (greatest_over k K G F.one p) (greatest_over k K G F.two q) (greatest_over k K G F.three r) (greatest_over k K G F.four s))

-- ---- products
module _ {j k : ℕ} (K : j + k ≤ 1022) {X Y : Interval} (x : Sized j X) (y : Sized k Y) where
  pub products : Four (j + k) (mul binary64 X.lo Y.lo) (mul binary64 X.lo Y.hi) (mul binary64 X.hi Y.lo) (mul binary64 X.hi Y.hi)
      (value X.lo) (value X.hi) (value Y.lo) (value Y.hi)
  products = record {
    one = product_candidate j k K X.lo Y.lo x.lo y.lo;
    two = product_candidate j k K X.lo Y.hi x.lo y.hi;
    three = product_candidate j k K X.hi Y.lo x.hi y.lo;
    four = product_candidate j k K X.hi Y.hi x.hi y.hi;
  }

pub product_nested : {j k : ℕ} {X X' Y Y' : Interval} → T (leb (j + k) 1022) → Nested j X X' → Nested k Y Y'
    → Nested (suc (j + k)) (product X Y) (product X' Y')
unfolding product
product_nested {j} {k} {X} {X'} {Y} {Y'} t h g =
    let K = leb→le (j + k) 1022 t in
    let F = products K h.small g.small in
    let G = products K h.wide g.wide in
    record {
      small = sized (mul_encloses t (low_end h.small) (low_end g.small));
      wide = sized (mul_encloses t (low_end h.wide) (low_end g.wide));
      lower = around_lower (j + k) K F G (least xl yl, least xl yh, least xh yl, least xh yh);
      upper = around_upper (j + k) K F G (most xl yl, most xl yh, most xh yl, most xh yh);
    }
  where
    xl : In j (value X.lo) X'
    xl = low_nested h

    xh : In j (value X.hi) X'
    xh = high_nested h

    yl : In k (value Y.lo) Y'
    yl = low_nested g

    yh : In k (value Y.hi) Y'
    yh = high_nested g

    least : {x y : Fraction} → In j x X' → In k y Y' → least_of (value X'.lo) (value X'.hi) (value Y'.lo) (value Y'.hi) ≤F x *F y
    least p q = least_product (value X'.lo) (value X'.hi) (value Y'.lo) (value Y'.hi) (low p) (high p) (low q) (high q)

    most : {x y : Fraction} → In j x X' → In k y Y' → x *F y ≤F greatest_of (value X'.lo) (value X'.hi) (value Y'.lo) (value Y'.hi)
    most p q = greatest_product (value X'.lo) (value X'.hi) (value Y'.lo) (value Y'.hi) (low p) (high p) (low q) (high q)

-- the high ends alone, where no product of ends is above that of the wide high ends
pub product_upper : {j k : ℕ} {X X' Y Y' : Interval} → T (leb (j + k) 1022) → Sized j X → Sized j X' → Sized k Y → Sized k Y'
    → AllBelow (value X'.hi *F value Y'.hi) (value X.lo) (value X.hi) (value Y.lo) (value Y.hi)
    → value (product X Y).hi ≤F value (product X' Y').hi
unfolding product
product_upper {j} {k} {X' = X'} {Y' = Y'} t x x' y y' (a, b, c, d) =
    let K = leb→le (j + k) 1022 t in
    let m = (greatest_of_lem (value X'.lo) (value X'.hi) (value Y'.lo) (value Y'.hi)).3 in
    around_upper (j + k) K (products K x y) (products K x' y') (≤F_trans a m, ≤F_trans b m, ≤F_trans c m, ≤F_trans d m)

pub square_nested : {k : ℕ} {X X' : Interval} → T (leb (k + k) 1022) → Nested k X X' → Nested (suc (k + k)) (square X) (square X')
unfolding square
square_nested t h = product_nested t h h

-- ---- quotients, by a divisor that is 2 ^ -k at least: products with one over it
abbrev pub over : {y : Float} → Divisor y → Fraction
over v = ratio (pos v.bottom) v.top v.top_pos

over_order : {x y : Float} (u : Divisor x) (v : Divisor y) → value x ≤F value y → over v ≤F over u
over_order u v h = inverse_mono (≤F_trans (≈F_ge u.same) (≤F_trans h (≈F_le v.same)))

module _ {i j : ℕ} (k : ℕ) (t : T (leb (j + k) 1022)) {X Y : Interval} (x : Sized j X) (y : Sized i Y) (apart : inverse_power k ≤F value Y.lo) where
  K : j + k ≤ 1022
  K = leb→le (j + k) 1022 t

  pub by_low : Divisor Y.lo
  by_low = divisor Y.lo (small_finite i Y.lo y.lo) (<F-≤F_trans (inverse_above k) apart)

  pub by_high : Divisor Y.hi
  by_high = divisor Y.hi (small_finite i Y.hi y.hi) (<F-≤F_trans (inverse_above k) (≤F_trans apart y.order))

  pub quotients : Four (j + k) (div binary64 X.lo Y.lo) (div binary64 X.lo Y.hi) (div binary64 X.hi Y.lo) (div binary64 X.hi Y.hi)
      (value X.lo) (value X.hi) (over by_low) (over by_high)
  quotients = record {
    one = quotient_candidate j k K X.lo Y.lo x.lo by_low apart;
    two = quotient_candidate j k K X.lo Y.hi x.lo by_high (≤F_trans apart y.order);
    three = quotient_candidate j k K X.hi Y.lo x.hi by_low apart;
    four = quotient_candidate j k K X.hi Y.hi x.hi by_high (≤F_trans apart y.order);
  }

  quotient_sized : Sized (suc (j + k)) (quotient X Y)
  quotient_sized = sized (div_encloses k by_low.top_pos t apart (low_end x) (equal_in by_low.same (low_end y)))

  -- it is stepped at both ends: what it holds, q over n / d, is neither end
  pub quotient_strict : {q : Fraction} {n d : ℕ} (N : 0 < n) {D : 0 < d} → In j q X → In i (ratio (pos n) d D) Y
      → (value (quotient X Y).lo <F q *F ratio (pos d) n N) × (q *F ratio (pos d) n N <F value (quotient X Y).hi)
  unfolding quotient
  quotient_strict N h g =
      let least = inverse_mono (≤F_trans (high g) (≈F_le by_high.same)) in
      let most = inverse_mono (≤F_trans (≈F_ge by_low.same) (low g)) in
      let above = least_turned (value X.lo) (value X.hi) (over by_low) (over by_high) (low h) (high h) least most in
      let below = greatest_turned (value X.lo) (value X.hi) (over by_low) (over by_high) (low h) (high h) least most in
      (<F-≤F_trans (least_strict (j + k) K quotients) above, ≤F-<F_trans below (greatest_strict (j + k) K quotients))

module _
    {i j : ℕ} (k : ℕ) {X X' Y Y' : Interval} (t : T (leb (j + k) 1022)) (apart : inverse_power k ≤F value Y'.lo)
    (h : Nested j X X') (g : Nested i Y Y') where
  near : inverse_power k ≤F value Y.lo
  near = ≤F_trans apart g.lower

  -- one over the ends of the wide divisor
  abbrev one_low : Divisor Y'.lo
  one_low = by_low k t h.wide g.wide apart

  abbrev one_high : Divisor Y'.hi
  one_high = by_high k t h.wide g.wide apart

  module _ {x : Fraction} (p : In j x X') {y : Float} (v : Divisor y) (q : In i (value y) Y') where
    least_quotient : least_of (value X'.lo) (value X'.hi) (over one_low) (over one_high) ≤F x *F over v
    least_quotient = least_turned (value X'.lo) (value X'.hi) (over one_low) (over one_high) (low p) (high p)
        (over_order v one_high (high q)) (over_order one_low v (low q))

    greatest_quotient : x *F over v ≤F greatest_of (value X'.lo) (value X'.hi) (over one_low) (over one_high)
    greatest_quotient = greatest_turned (value X'.lo) (value X'.hi) (over one_low) (over one_high) (low p) (high p)
        (over_order v one_high (high q)) (over_order one_low v (low q))

  pub quotient_nested : Nested (suc (j + k)) (quotient X Y) (quotient X' Y')
  unfolding quotient
  quotient_nested =
      let K = leb→le (j + k) 1022 t in
      let F = quotients k t h.small g.small near in
      let G = quotients k t h.wide g.wide apart in
      let u = by_low k t h.small g.small near in
      let v = by_high k t h.small g.small near in
      let xl = low_nested h in
      let xh = high_nested h in
      let yl = low_nested g in
      let yh = high_nested g in
      record {
        small = quotient_sized k t h.small g.small near;
        wide = quotient_sized k t h.wide g.wide apart;
        lower = around_lower (j + k) K F G (least_quotient xl u yl, least_quotient xl v yh, least_quotient xh u yl, least_quotient xh v yh);
        upper = around_upper (j + k) K F G (greatest_quotient xl u yl, greatest_quotient xl v yh, greatest_quotient xh u yl, greatest_quotient xh v yh);
      }
