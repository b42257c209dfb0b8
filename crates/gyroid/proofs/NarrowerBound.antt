-- The bound of the expansion, its high ends alone: with k² above zero, and half-widths that are not below it, in either arithmetic each part's high
-- end is at most the wide one's. The low ends are of no use there. Assumes nothing.
use mathlib.Core.Path.{refl, sym, subst}
use mathlib.Core.List.{List, [], ◌∷◌}
use Prim.Native.Nat.{ℕ, ◌*◌, ◌^◌, ◌≤◌, ◌<◌}
use native.Mathlib.Omega.{arith}
use lib.Dec.{lit<, lit≤, le→leb}
use lib.IntN.{ℤ, pos, nat_abs}
use lib.Signed.{le_z_yes}
use lib.Ieee.{Float, of_bits}
use Rattle.exact.specs.Fraction.{Fraction, zero_f, one_f, ◌≤F◌}
use Rattle.exact.proofs.Size.{size_above}
use Rattle.exact.proofs.Fraction.{≤F_refl, ≤F_trans, <F_le, ≈F_le, ≈F_ge, ≈F_trans, mul_ratio}
use Rattle.exact.proofs.Ring.{lit, ◌⊗◌}
use Rattle.exact.proofs.FractionRing.{ring_f}
use Rattle.exact.proofs.FractionSize.{abs_nonneg}
use Rattle.interval.specs.declared.Interval.{Interval}
use Rattle.interval.specs.Step.{b64}
use Rattle.interval.specs.Interval.{Arithmetic, Wide, point, greatest, difference, square, mid, two_pi}
use Rattle.interval.specs.Encloses.{value}
use Rattle.interval.proofs.Small.{small_finite}
use Rattle.interval.proofs.Compare.{greatest_one, greatest_left, greatest_right}
use Rattle.interval.proofs.Membership.{point_encloses}
use Rattle.interval.proofs.Encloses.{square_encloses, square_is}
use Rattle.interval.proofs.Quotient.{inverse_power, inverse_above, fraction_apart, product_apart}
use Rattle.interval.proofs.Narrower.{Sized, sized, low_end, Nested, itself, difference_nested}
use Rattle.interval.proofs.NarrowerBounds.{Under, under_looser, point_under, sum_under, least_first, product_under, under_product, square_under}
use Rattle.interval.proofs.NarrowerBounds.{magnitude_under}
use Rattle.grade.specs.Grade.{Point}
use Rattle.grade.specs.Intervals.{zero}
use Rattle.grade.specs.Fits.{Within3}
use Rattle.grade.specs.Holds.{InBox}
use Rattle.gyroid.specs.declared.Description.{Description}
use Rattle.gyroid.specs.declared.Surface.{Surface}
use Rattle.gyroid.specs.Leaf.{turns, wave}
use Rattle.gyroid.specs.Residual.{radius, reach, bracket_at}
use Rattle.gyroid.specs.Admitted.{ends}
use Rattle.gyroid.proofs.AcceptedLaws.{Passed}
use Rattle.gyroid.proofs.CentreLaws.{centre_in, point_in, radius_in, half_within}
use Rattle.gyroid.proofs.JetLaws.{per_millimetre, turns_in}
use Rattle.gyroid.proofs.NarrowerJet.{two_pi_sized, wave_sized}

-- ---- k is above zero
not_negative : (k : ℕ) {x : Fraction} → inverse_power k ≤F x → zero_f ≤F x
not_negative k h = ≤F_trans (<F_le (inverse_above k)) h

module _ (d : Description) (passed : Passed d) where
  turns_apart : inverse_power 11 ≤F value (turns d).lo
  turns_apart = fraction_apart 9 10 (per_millimetre d passed.above) tt tt (room (nat_abs d.period) (size_above passed.above))
      (record { le = le_z_yes (le→leb (1 * nat_abs d.period) (1024 * 1024) (most (nat_abs d.period) passed.period.abs)) })
    where
      room : (a : ℕ) → 0 < a → 1024 ≤ 2 ^ 10 * a
      room a h = omega arith

      most : (a : ℕ) → a ≤ 1048576 → 1 * a ≤ 1048576
      most a h = omega arith

  two_pi_above : one_f ≤F value two_pi.lo
  unfolding of_bits
  two_pi_above = record { le = le_z_yes tt }

  wave_apart : inverse_power 12 ≤F value (wave d).lo
  wave_apart =
      let t = value (turns d).lo in
      let z = not_negative 11 turns_apart in
      let one : zero_f ≤F value two_pi.lo = ≤F_trans (record { le = le_z_yes tt }) two_pi_above in
      product_apart 10 tt tt (low_end two_pi_sized) (turns_in d passed.above) one z
      (≤F_trans turns_apart (≤F_trans (≈F_le (ring_f 1 (λ t. t) (λ t. lit (pos 1) ⊗ t) tt (t ∷ [])))
      (least_first (record { le = le_z_yes tt }) z two_pi_above (≤F_refl t))))

  wave_squared_apart : inverse_power 25 ≤F value (square (wave d)).lo
  wave_squared_apart =
      let w = low_end (wave_sized d passed.above) in
      let z = not_negative 12 wave_apart in
      subst (λ (s : Interval). inverse_power 25 ≤F value s.lo) (sym (square_is (wave d))) (product_apart 23 tt tt w w z z
      (≤F_trans (≈F_ge (≈F_trans (mul_ratio (inverse_power 12) (inverse_power 12) (lit< tt)) (record { eq = refl })))
      (least_first (<F_le (inverse_above 12)) z wave_apart wave_apart)))

  wave_squared_sized : Sized 31 (square (wave d))
  wave_squared_sized = sized (square_encloses tt (low_end (wave_sized d passed.above)))

  pub wave_squared_nonneg : zero_f ≤F value (square (wave d)).lo
  wave_squared_nonneg = not_negative 25 wave_squared_apart

  pub wave_squared_under : Under 31 (square (wave d)) (square (wave d))
  wave_squared_under = let s = wave_squared_sized in record {
    small = s;
    wide = s;
    nonneg = ≤F_trans wave_squared_nonneg s.order;
    most = ≤F_refl (value (square (wave d)).hi);
  }

-- ---- the bound: the high ends of what it is made of
half_under : Under 0 (point (b64 0x3fe0_0000_0000_0000)) (point (b64 0x3fe0_0000_0000_0000))
unfolding of_bits
half_under = point_under (b64 0x3fe0_0000_0000_0000) (b64 0x3fe0_0000_0000_0000) (lit≤ tt) (lit≤ tt) (record { le = le_z_yes tt })
    (≤F_refl (value (b64 0x3fe0_0000_0000_0000)))

pub zero_under : Under 0 zero zero
unfolding of_bits
zero_under = point_under (b64 0) (b64 0) (lit≤ tt) (lit≤ tt) (record { le = le_z_yes tt }) (≤F_refl (value (b64 0)))

module _ (ar : Arithmetic) where
  -- the bracket of three half-widths
  pub bracket_under : (f : Surface) {x y z x' y' z' : Float} → Under 12 (point x) (point x') → Under 12 (point y) (point y') → Under 12 (point z) (point z')
      → Under 35 (bracket_at ar f (point x) (point y) (point z)) (bracket_at Wide f (point x') (point y') (point z'))
  unfolding bracket_at
  bracket_under Surface.Network X Y Z =
      sum_under ar tt (sum_under ar tt (sum_under ar tt (sum_under ar tt (sum_under ar tt (square_under tt X X.nonneg) (square_under tt Y Y.nonneg))
      (square_under tt Z Z.nonneg)) (product_under tt X Y X.nonneg)) (product_under tt Y Z Y.nonneg)) (product_under tt Z X Z.nonneg)
  bracket_under Surface.Primitive X Y Z = under_looser 35 tt (under_product tt (sum_under ar tt (sum_under ar tt (square_under tt X X.nonneg)
      (square_under tt Y Y.nonneg)) (square_under tt Z Z.nonneg)) half_under half_under.nonneg)

  -- an axis' share of the first-order term
  pub reach_under : {D D' : Interval} {r r' : Float} → Nested 102 D D' → Under 12 (point r) (point r') → Under 115 (reach D (point r)) (reach D' (point r'))
  unfolding reach
  reach_under d r = let m = magnitude_under d in product_under tt m r m.nonneg

  -- ---- the radius
  module _ (lo hi : List ℤ) (low-in : Within3 1048576 lo) (high-in : Within3 1048576 hi) (p : Point) (inside : InBox lo hi p) where
    ends_sized : (i : ℕ) → i < 3 → Sized 10 (ends lo hi i)
    ends_sized i b = sized (point_in lo hi low-in high-in i b p inside)

    pub radius_under : (i : ℕ) → i < 3 → Under 12 (point (radius ar (ends lo hi i))) (point (radius Wide (ends lo hi i)))
    unfolding radius
    radius_under i b = point_under (radius ar e) (radius Wide e)
        (radius_in ar lo hi low-in high-in i b).small_hi (radius_in Wide lo hi low-in high-in i b).small_hi
        (abs_nonneg (half_within ar lo hi low-in high-in i b p inside)) most
      where
        e : Interval
        e = ends lo hi i

        middle : Nested 10 (point (mid e)) (point (mid e))
        middle = itself (sized (centre_in lo hi low-in high-in i b))

        above : Nested 12 (difference ar (point e.hi) (point (mid e))) (difference Wide (point e.hi) (point (mid e)))
        above = difference_nested ar {j = 10} tt (itself (sized (point_encloses e.hi (ends_sized i b).hi))) middle

        below : Nested 12 (difference ar (point (mid e)) (point e.lo)) (difference Wide (point (mid e)) (point e.lo))
        below = difference_nested ar {k = 10} tt middle (itself (sized (point_encloses e.lo (ends_sized i b).lo)))

        most : value (radius ar e) ≤F value (radius Wide e)
        most =
            let x = (difference Wide (point e.hi) (point (mid e))).hi in
            let y = (difference Wide (point (mid e)) (point e.lo)).hi in
            let f = small_finite 12 x above.wide.hi in
            let g = small_finite 12 y below.wide.hi in
            greatest_one (difference ar (point e.hi) (point (mid e))).hi (difference ar (point (mid e)) (point e.lo)).hi
            (λ z. value z ≤F value (greatest x y)) (≤F_trans above.upper (greatest_left x y f g)) (≤F_trans below.upper (greatest_right x y f g))
