-- A box of whole ticks in doubles: its ends are exact, so are its centres, and each radius is at least the half-width. Assumes nothing.
use mathlib.Core.List.{List, [], ◌∷◌}
use Prim.Native.Nat.{ℕ, ◌+◌, ◌^◌, ◌≤◌, ◌<◌}
use native.Mathlib.Omega.{arith}
use lib.Dec.{T, lit<}
use lib.Pow.{pow_pos}
use lib.IntN.{ℤ, pos, nat_abs, ◌+ℤ◌, ◌-ℤ◌}
use lib.Ieee.Scale.{finite}
use Rattle.exact.specs.Fraction.{Fraction, whole, ◌+F◌, ◌-F◌, ◌/F◌, neg_f, ◌≤F◌, ◌≈F◌, AbsF}
use Rattle.exact.specs.Within.{Within}
use Rattle.exact.proofs.Size.{within_add}
use Rattle.exact.proofs.Ring.{lit, ◌⊕◌, ◌⊖◌, ◌⊗◌, ⊝◌}
use Rattle.exact.proofs.FractionRing.{ring_f}
use Rattle.exact.proofs.Fraction.{≤F_refl, ≤F_trans, ≈F_refl, ≈F_sym, ≈F_trans, ≈F_le, ≈F_ge, add_mono_f, sub_mono_f, sub_cong_f, neg_cong_f, over_mono, over_cong, over_zero, over_add, over_sub, over_over, over_neg, over_times, over_whole, whole_add, whole_sub}
use Rattle.exact.proofs.FractionSize.{abs_wider, abs_nonneg, abs_of_nonneg, abs_over}
use Rattle.interval.specs.Interval.{Arithmetic, point, difference, mid}
use Rattle.interval.specs.Nearest.{nearest}
use Rattle.interval.specs.Encloses.{value, Small}
use Rattle.interval.proofs.Small.{small_finite}
use Rattle.interval.proofs.Compare.{greatest_left, greatest_one}
use Rattle.interval.proofs.Exact.{binary, nearest_exact, mid_exact, exact_small}
use Rattle.interval.proofs.Membership.{In, high, between, equal_in, point_encloses}
use Rattle.interval.proofs.Encloses.{sub_encloses}
use Rattle.limits.specs.Ticks.{at}
use Rattle.grade.specs.Grade.{Point}
use Rattle.grade.specs.Fits.{Within3}
use Rattle.grade.specs.Holds.{InBox}
use Rattle.grade.specs.Extended.{in_units}
use Rattle.grade.specs.Intervals.{box_at}
use Rattle.grade.proofs.AxisLaws.{within_at}
use Rattle.grade.proofs.Axes.{three}
use Rattle.gyroid.specs.Residual.{radius, radii}
use Rattle.gyroid.specs.Admitted.{centre_at, half_width, ends, tick_box}

-- ---- halves
pub doubled : (x : Fraction) → (x +F x) /F 2 ≈F x
doubled x = ≈F_trans (over_add x x (lit< tt)) (≈F_trans (ring_f 1 (λ h. h ⊕ h) (λ h. h ⊗ lit (pos 2)) tt ((x /F 2) ∷ [])) (over_times x (lit< tt)))

less_half : (x y : Fraction) → y -F (x +F y) /F 2 ≈F (y -F x) /F 2
less_half x y = ≈F_trans (sub_cong_f (≈F_sym (doubled y)) (≈F_refl ((x +F y) /F 2))) (≈F_trans (≈F_sym (over_sub (y +F y) (x +F y) (lit< tt)))
    (over_cong (lit< tt) (ring_f 2 (λ x y. y ⊕ y ⊖ (x ⊕ y)) (λ x y. y ⊖ x) tt (x ∷ y ∷ []))))

-- ---- ticks
pub over_binary : (z : ℤ) → binary z 10 ≈F in_units (whole z)
over_binary z = ≈F_sym (over_whole z (pow_pos 10))

pub tick_exact : {z : ℤ} → Within 1048576 z → T (finite (nearest z 1024)) × (value (nearest z 1024) ≈F binary z 10)
tick_exact {z} h = nearest_exact 10 z tt (below (nat_abs z) h.abs)
  where
    below : (n : ℕ) → n ≤ 1048576 → n < 2 ^ 53
    below n h = omega arith

tick_small : {z : ℤ} → Within 1048576 z → Small 10 (nearest z 1024)
tick_small {z} h = exact_small 10 10 z (nearest z 1024) (tick_exact h).0 (tick_exact h).1 h.abs

module _ (lo hi : List ℤ) (low-in : Within3 1048576 lo) (high-in : Within3 1048576 hi) (i : ℕ) (b : i < 3) where
  low : Within 1048576 (at lo i)
  low = within_at low-in i b

  high' : Within 1048576 (at hi i)
  high' = within_at high-in i b

  -- ---- the centre
  mid_is : T (finite (mid (ends lo hi i))) × (value (mid (ends lo hi i)) ≈F binary (at lo i +ℤ at hi i) 11)
  mid_is = mid_exact 10 (at lo i) (at hi i) (ends lo hi i) tt (below (nat_abs (at lo i)) (nat_abs (at hi i)) low.abs high'.abs) (tick_exact low).0 (tick_exact high').0 (tick_exact low).1 (tick_exact high').1
    where
      below : (m n : ℕ) → m ≤ 1048576 → n ≤ 1048576 → m + n < 2 ^ 53
      below m n h k = omega arith

  centre_is : binary (at lo i +ℤ at hi i) 11 ≈F in_units (centre_at lo hi i)
  centre_is = ≈F_sym (≈F_trans (over_over (whole (at lo i +ℤ at hi i)) (lit< tt) (lit< tt)) (over_whole (at lo i +ℤ at hi i) (pow_pos 11)))

  pub centre_in : In 10 (in_units (centre_at lo hi i)) (point (mid (ends lo hi i)))
  centre_in = equal_in (≈F_trans mid_is.1 centre_is) (point_encloses (mid (ends lo hi i)) (exact_small 10 11 (at lo i +ℤ at hi i) (mid (ends lo hi i)) mid_is.0 mid_is.1 (within_add low high').abs))

  -- ---- the ends
  low_end : In 10 (in_units (whole (at lo i))) (point (nearest (at lo i) 1024))
  low_end = equal_in (≈F_trans (tick_exact low).1 (over_binary (at lo i))) (point_encloses (nearest (at lo i) 1024) (tick_small low))

  high_end : In 10 (in_units (whole (at hi i))) (point (nearest (at hi i) 1024))
  high_end = equal_in (≈F_trans (tick_exact high').1 (over_binary (at hi i))) (point_encloses (nearest (at hi i) 1024) (tick_small high'))

  -- hi − m is the half-width, and lo − m its negative
  centre_sum : centre_at lo hi i ≈F (whole (at lo i) +F whole (at hi i)) /F 2
  centre_sum = over_cong (lit< tt) (≈F_sym (whole_add (at lo i) (at hi i)))

  half_above : whole (at hi i) -F centre_at lo hi i ≈F half_width lo hi i
  half_above = ≈F_trans (sub_cong_f (≈F_refl (whole (at hi i))) centre_sum) (≈F_trans (less_half (whole (at lo i)) (whole (at hi i))) (over_cong (lit< tt) (whole_sub (at hi i) (at lo i))))

  half_below : whole (at lo i) -F centre_at lo hi i ≈F neg_f (half_width lo hi i)
  half_below = ≈F_trans (sub_cong_f (≈F_refl (whole (at lo i))) (≈F_trans centre_sum (over_cong (lit< tt) (ring_f 2 (λ x y. x ⊕ y) (λ x y. y ⊕ x) tt (whole (at lo i) ∷ whole (at hi i) ∷ [])))))
      (≈F_trans (less_half (whole (at hi i)) (whole (at lo i))) (≈F_trans (over_cong (lit< tt) (≈F_trans (ring_f 2 (λ x y. x ⊖ y) (λ x y. ⊝ (y ⊖ x)) tt (whole (at lo i) ∷ whole (at hi i) ∷ [])) (neg_cong_f (whole_sub (at hi i) (at lo i))))) (≈F_sym (over_neg (whole (at hi i -ℤ at lo i)) (lit< tt)))))

  -- ---- a point of the box
  module _ (p : Point) (inside : InBox lo hi p) where
    -- |p − m| is at most the half-width
    pub offset : AbsF (p i -F centre_at lo hi i) (half_width lo hi i)
    offset = record {
      low = ≤F_trans (≈F_ge half_below) (sub_mono_f (inside.above i b) (≤F_refl (centre_at lo hi i)));
      high = ≤F_trans (sub_mono_f (inside.below i b) (≤F_refl (centre_at lo hi i))) (≈F_le half_above);
    }

    pub point_in : In 10 (in_units (p i)) (ends lo hi i)
    point_in = between (tick_small low) (tick_small high')
        (≤F_trans (≈F_le (≈F_trans (tick_exact low).1 (over_binary (at lo i)))) (over_mono (lit< tt) (inside.above i b)))
        (≤F_trans (over_mono (lit< tt) (inside.below i b)) (≈F_ge (≈F_trans (tick_exact high').1 (over_binary (at hi i)))))

    -- the centre is in the box
    pub centre_above : whole (at lo i) ≤F centre_at lo hi i
    centre_above = ≤F_trans (≈F_ge (doubled (whole (at lo i)))) (≤F_trans (over_mono (lit< tt) (add_mono_f (≤F_refl (whole (at lo i))) (≤F_trans (inside.above i b) (inside.below i b)))) (≈F_ge centre_sum))

    pub centre_below : centre_at lo hi i ≤F whole (at hi i)
    centre_below = ≤F_trans (≈F_le centre_sum) (≤F_trans (over_mono (lit< tt) (add_mono_f (≤F_trans (inside.above i b) (inside.below i b)) (≤F_refl (whole (at hi i))))) (≈F_le (doubled (whole (at hi i)))))

-- ---- in either arithmetic
module _ (ar : Arithmetic) where
  module _ (lo hi : List ℤ) (low-in : Within3 1048576 lo) (high-in : Within3 1048576 hi) (i : ℕ) (b : i < 3) where
    -- ---- the radius
    above : In 12 (in_units (whole (at hi i)) -F in_units (centre_at lo hi i)) (difference ar (point (nearest (at hi i) 1024)) (point (mid (ends lo hi i))))
    above = sub_encloses ar tt (high_end lo hi low-in high-in i b) (centre_in lo hi low-in high-in i b)

    below : In 12 (in_units (centre_at lo hi i) -F in_units (whole (at lo i))) (difference ar (point (mid (ends lo hi i))) (point (nearest (at lo i) 1024)))
    below = sub_encloses ar tt (centre_in lo hi low-in high-in i b) (low_end lo hi low-in high-in i b)

    pub radius_in : In 12 (value (radius ar (ends lo hi i))) (point (radius ar (ends lo hi i)))
    unfolding radius
    radius_in = point_encloses (radius ar (ends lo hi i))
        (greatest_one (difference ar (point (ends lo hi i).hi) (point (mid (ends lo hi i)))).hi
        (difference ar (point (mid (ends lo hi i))) (point (ends lo hi i).lo)).hi (Small 12) above.small_hi below.small_hi)

    half_most : in_units (half_width lo hi i) ≤F value (radius ar (ends lo hi i))
    unfolding radius
    half_most =
        let x = (difference ar (point (ends lo hi i).hi) (point (mid (ends lo hi i)))).hi in
        let y = (difference ar (point (mid (ends lo hi i))) (point (ends lo hi i).lo)).hi in
        ≤F_trans (≈F_ge (≈F_trans (≈F_sym (over_sub (whole (at hi i)) (centre_at lo hi i) (lit< tt)))
        (over_cong (lit< tt) (half_above lo hi low-in high-in i b))))
        (≤F_trans (high above) (greatest_left x y (small_finite 12 x above.small_hi) (small_finite 12 y below.small_hi)))

    -- a point of the box: |p − m| ≤ r
    module _ (p : Point) (inside : InBox lo hi p) where
      pub half_within : AbsF (in_units (half_width lo hi i)) (value (radius ar (ends lo hi i)))
      half_within = abs_of_nonneg (≤F_trans (≈F_ge (over_zero (lit< tt))) (over_mono (lit< tt) (abs_nonneg (offset lo hi low-in high-in i b p inside))))
          half_most

      pub offset_within : AbsF (in_units (p i -F centre_at lo hi i)) (value (radius ar (ends lo hi i)))
      offset_within = abs_wider (abs_over (lit< tt) (offset lo hi low-in high-in i b p inside)) half_most

  -- ---- the three radii
  pub radii_in : (lo hi : List ℤ) → Within3 1048576 lo → Within3 1048576 hi
      → (i : ℕ) → i < 3 → In 12 (value (radius ar (ends lo hi i))) (box_at (radii ar (tick_box lo hi)) i)
  unfolding radii
  radii_in lo hi low-in high-in = three (λ i. In 12 (value (radius ar (ends lo hi i))) (box_at (radii ar (tick_box lo hi)) i))
      (radius_in lo hi low-in high-in 0 (lit< tt)) (radius_in lo hi low-in high-in 1 (lit< tt)) (radius_in lo hi low-in high-in 2 (lit< tt))
