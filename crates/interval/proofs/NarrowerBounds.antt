-- The high ends alone: a bound of sizes is made of high ends that are not below zero, and a narrow one is at most the wide one. The low ends are
-- compared nowhere: of a smaller radius a product's low end is lower. Assumes nothing.
use Rattle.std.proofs.Common.{ℕ, suc, ◌+◌, max, T, leb, [], ◌∷◌, pos, leb→le}
use lib.Ieee.{Float, neg, lt}
use Rattle.exact.specs.Fraction.{Fraction, zero_f, ◌+F◌, ◌*F◌, ◌≤F◌, AbsF}
use Rattle.exact.proofs.Ring.{lit, ◌⊕◌, ◌⊗◌}
use Rattle.exact.proofs.FractionRing.{ring_f}
use Rattle.exact.proofs.Fraction.{≤F_refl, ≤F_trans, ≈F_le, add_mono_f, neg_mono_f, neg_neg_f, mul_mono_f, comm_f, nonneg_num}
use Rattle.exact.proofs.FractionSize.{abs_nonneg, abs_of_nonneg}
use Rattle.exact.proofs.Choice.{choose}
use Rattle.interval.specs.declared.Interval.{Interval}
use Rattle.interval.specs.Step.{b64}
use Rattle.interval.specs.Interval.{Arithmetic, Wide, point, abs, sum, product, square, magnitude}
use Rattle.interval.specs.Encloses.{value, Small}
use Rattle.interval.proofs.Small.{value_neg}
use Rattle.interval.proofs.Compare.{greatest_one}
use Rattle.interval.proofs.Membership.{high, point_encloses}
use Rattle.interval.proofs.Encloses.{add_encloses, mul_encloses}
use Rattle.interval.proofs.Bounds.{magnitude_small, magnitude_bounds, symmetric_encloses}
use Rattle.interval.proofs.Narrower.{Sized, sized, sized_larger, low_end, high_end, Nested, low_nested, high_nested, neg_order, sum_upper}
use Rattle.interval.proofs.NarrowerProducts.{AllBelow, product_upper}

-- the high end of X is not below zero and is at most that of Y; with the sizes of both
pub record Under (k : ℕ) (X Y : Interval) : Type 0 where
  pub small : Sized k X
  pub wide : Sized k Y
  pub nonneg : zero_f ≤F value X.hi
  pub most : value X.hi ≤F value Y.hi

pub point_under : {k : ℕ} (x y : Float) → Small k x → Small k y → zero_f ≤F value x → value x ≤F value y → Under k (point x) (point y)
point_under x y s t z h = record { small = sized (point_encloses x s); wide = sized (point_encloses y t); nonneg = z; most = h }

-- a larger size
pub under_looser : {j : ℕ} (k : ℕ) {X Y : Interval} → T (leb j k) → Under j X Y → Under k X Y
under_looser {j} k t h = let l = leb→le j k t in
    record { small = sized_larger l h.small; wide = sized_larger l h.wide; nonneg = h.nonneg; most = h.most }

-- ---- sums
sums_nonneg : {p q : Fraction} → zero_f ≤F p → zero_f ≤F q → zero_f ≤F p +F q
sums_nonneg h g = ≤F_trans (≈F_le (ring_f 0 (lit (pos 0)) (lit (pos 0) ⊕ lit (pos 0)) tt [])) (add_mono_f h g)

pub sum_under : (ar : Arithmetic) {j k : ℕ} {X X' Y Y' : Interval} → T (leb (suc (max j k)) 1022) → Under j X X' → Under k Y Y'
    → Under (suc (suc (max j k))) (sum ar X Y) (sum Wide X' Y')
sum_under ar t h g = record {
  small = sized (add_encloses ar t (low_end h.small) (low_end g.small));
  wide = sized (add_encloses Wide t (low_end h.wide) (low_end g.wide));
  nonneg = ≤F_trans (sums_nonneg h.nonneg g.nonneg) (high (add_encloses ar t (high_end h.small) (high_end g.small)));
  most = sum_upper ar t h.small h.wide g.small g.wide h.most g.most;
}

-- ---- products, where one of the factors is not below zero at its low end
-- x is not below zero, nor is B: x y ≤ A B, of x at most A and y at most B
pub least_first : {x y A B : Fraction} → zero_f ≤F x → zero_f ≤F B → x ≤F A → y ≤F B → x *F y ≤F A *F B
least_first {x} {y} {A} {B} z w h g =
    ≤F_trans (mul_mono_f x (nonneg_num z) g) (≤F_trans (≈F_le (comm_f x B)) (≤F_trans (mul_mono_f B (nonneg_num w) h) (≈F_le (comm_f B A))))

-- the same of y
least_second : {x y A B : Fraction} → zero_f ≤F y → zero_f ≤F A → x ≤F A → y ≤F B → x *F y ≤F A *F B
least_second {x} {y} {A} {B} z w h g = ≤F_trans (≈F_le (comm_f x y)) (≤F_trans (least_first z w g h) (≈F_le (comm_f B A)))

module _ {j k : ℕ} {X X' Y Y' : Interval} (t : T (leb (j + k) 1022)) (h : Under j X X') (g : Under k Y Y') where
  by_products : AllBelow (value X'.hi *F value Y'.hi) (value X.lo) (value X.hi) (value Y.lo) (value Y.hi)
      → Under (suc (j + k)) (product X Y) (product X' Y')
  by_products below = record {
    small = sized (mul_encloses t (low_end h.small) (low_end g.small));
    wide = sized (mul_encloses t (low_end h.wide) (low_end g.wide));
    nonneg = ≤F_trans (products_nonneg h.nonneg g.nonneg) (high (mul_encloses t (high_end h.small) (high_end g.small)));
    most = product_upper t h.small h.wide g.small g.wide below;
  }
    where
      products_nonneg : {p q : Fraction} → zero_f ≤F p → zero_f ≤F q → zero_f ≤F p *F q
      products_nonneg {p} {q} z w = ≤F_trans (≈F_le (ring_f 1 (λ p. lit (pos 0)) (λ p. p ⊗ lit (pos 0)) tt (p ∷ []))) (mul_mono_f p (nonneg_num z) w)

  x_low : value X.lo ≤F value X'.hi
  x_low = ≤F_trans h.small.order h.most

  y_low : value Y.lo ≤F value Y'.hi
  y_low = ≤F_trans g.small.order g.most

  pub product_under : zero_f ≤F value X.lo → Under (suc (j + k)) (product X Y) (product X' Y')
  product_under z = let w = ≤F_trans g.nonneg g.most in
      by_products (
        least_first z w x_low y_low,
        least_first z w x_low g.most,
        least_first h.nonneg w h.most y_low,
        least_first h.nonneg w h.most g.most,
      )

  pub under_product : zero_f ≤F value Y.lo → Under (suc (j + k)) (product X Y) (product X' Y')
  under_product z = let w = ≤F_trans h.nonneg h.most in
      by_products (
        least_second z w x_low y_low,
        least_second g.nonneg w x_low g.most,
        least_second z w h.most y_low,
        least_second g.nonneg w h.most g.most,
      )

pub square_under : {k : ℕ} {X X' : Interval} → T (leb (k + k) 1022) → Under k X X' → zero_f ≤F value X.lo → Under (suc (k + k)) (square X) (square X')
unfolding square
square_under t h z = product_under t h h z

-- ---- the larger size of the ends
magnitude_most : {k : ℕ} {X Y : Interval} → Nested k X Y → value (magnitude X) ≤F value (magnitude Y)
unfolding magnitude
magnitude_most {k} {X} {Y} h = greatest_one (abs X.lo) (abs X.hi) (λ z. value z ≤F value (magnitude Y))
    (size X.lo (magnitude_bounds (low_nested h))) (size X.hi (magnitude_bounds (high_nested h)))
  where
    size : {m : Fraction} (x : Float) → AbsF (value x) m → value (abs x) ≤F m
    size {m} x a = choose (lt x (b64 0)) (neg x) x (λ z. value z ≤F m)
        (λ _. ≤F_trans (≈F_le (value_neg x)) (≤F_trans (neg_mono_f a.low) (≈F_le (neg_neg_f m)))) (λ _. a.high)

pub magnitude_under : {k : ℕ} {X Y : Interval} → Nested k X Y → Under k (point (magnitude X)) (point (magnitude Y))
magnitude_under {X = X} {Y} h = point_under (magnitude X) (magnitude Y) (magnitude_small (low_end h.small)) (magnitude_small (low_end h.wide))
    (abs_nonneg (magnitude_bounds (low_end h.small))) (magnitude_most h)

-- ---- from the negative of a high end to it
pub symmetric_nested : {k : ℕ} {X Y : Interval} → Under k X Y → Nested k (record { lo = neg X.hi; hi = X.hi }) (record { lo = neg Y.hi; hi = Y.hi })
symmetric_nested {X = X} {Y} h = record {
  small = sized (symmetric_encloses X.hi h.small.hi (abs_of_nonneg h.nonneg (≤F_refl (value X.hi))));
  wide = sized (symmetric_encloses Y.hi h.wide.hi (abs_of_nonneg (≤F_trans h.nonneg h.most) (≤F_refl (value Y.hi))));
  lower = neg_order X.hi Y.hi h.most;
  upper = h.most;
}
