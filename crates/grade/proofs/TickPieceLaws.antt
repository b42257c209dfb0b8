-- THE PIECE OF A BOX OF WHOLE TICKS IS THE SAME IN EITHER ARITHMETIC. Over such a box the float tests of t's ends are tests of whole numbers: t's
-- interval holds t at the corners and ends at neither, so a test that passes tells where the exact numerator is, and with a square tick to spare;
-- which is more than the ends can be out (UnitLaws), so the test passes in the other arithmetic too. Assumes nothing.
use mathlib.Core.Path.{◌≡◌, refl, sym, ◌∙◌, subst}
use mathlib.Core.Logic.{◌⊎◌, inl, inr}
use mathlib.Core.Bool.{not, ◌&&◌}
use mathlib.Core.List.{List}
use Prim.Native.Nat.{ℕ, ◌<◌}
use lib.Dec.{T}
use lib.IntN.{ℤ, pos, nat_abs}
use lib.Signed.{lt_z, lt_z_yes, ◌<ℤ◌}
use lib.Ieee.{Float, le}
use lib.Ieee.Scale.{finite}
use Rattle.exact.specs.Fraction.{Fraction, ratio, whole, ◌≤F◌, ◌<F◌, ◌≈F◌}
use Rattle.exact.proofs.Fraction.{≤F_trans, ≤F-<F_trans, <F-≤F_trans, lt_same_den, ≈F_sym, ≈F_trans, ≈F_le, ≈F_ge, over_cong, over_self, over_zero, over_whole}
use Rattle.interval.specs.declared.Interval.{Interval}
use Rattle.interval.specs.Step.{b64}
use Rattle.interval.specs.Interval.{Arithmetic, Wide}
use Rattle.interval.specs.Encloses.{value}
use Rattle.interval.proofs.Membership.{In, equal_in, wider, zero_value, zero_finite, one_value, one_finite}
use Rattle.interval.proofs.Small.{small_finite}
use Rattle.interval.proofs.Compare.{le_value, value_le, equal_tests}
use Rattle.interval.proofs.Narrower.{low_end, high_end}
use Rattle.grade.specs.declared.Grade.{Grade}
use Rattle.limits.specs.Ticks.{at}
use Rattle.grade.specs.Grade.{direction, length_sq, t}
use Rattle.grade.specs.Exact.{linear_of, numbers, compiled, least_corner, greatest_corner, least_along, greatest_along, chosen}
use Rattle.grade.specs.Refusals.{coincident}
use Rattle.grade.specs.Fits.{InLimits}
use Rattle.grade.specs.Intervals.{linear_intervals, grade_intervals, box_at, parameter, piece_of, piece}
use Rattle.grade.specs.Extended.{in_units, WholeTicks}
use Rattle.grade.proofs.EntryLaws.{Sizes, sizes}
use Rattle.grade.proofs.Accepted.{linear_apart, by_kind}
use Rattle.grade.proofs.LevelLaws.{length_pos, length_is}
use Rattle.grade.proofs.CornerLaws.{along_whole, least_ends, greatest_ends}
use Rattle.grade.proofs.IntervalLaws.{parameter_encloses, parameter_strict}
use Rattle.grade.proofs.UnitLaws.{box_sized, high_zero, high_one, low_zero, low_one}

-- ---- a test of two doubles, by their values
module _ (x y : Float) (f : T (finite x)) (g : T (finite y)) where
  test_same : {a b : ℤ} → (value x ≤F value y → a <ℤ b) → (a <ℤ b → value x ≤F value y) → le x y ≡ lt_z a b
  test_same {a} {b} to from = equal_tests (le x y) (lt_z a b) (λ u. (to (le_value x y f g u)).lt) (λ u. value_le x y f g (from (lt_z_yes u)))

abbrev one : Float
one = b64 0x3ff0_0000_0000_0000

module _ (ar : Arithmetic) (g : Grade) (s : Sizes g) (apart : pos 0 <ℤ length_sq g) (lo hi : List ℤ) (w : List Interval) (box : WholeTicks lo hi w) where
  abbrev over_box : Interval
  over_box = parameter ar (linear_intervals ar (numbers g)) w

  abbrev least : ℤ
  least = least_along (numbers g) lo hi

  abbrev greatest : ℤ
  greatest = greatest_along (numbers g) lo hi

  -- a fraction over L
  abbrev over_l : ℤ → Fraction
  over_l z = ratio z (nat_abs (length_sq g)) (length_pos g apart)

  -- ---- t at a corner
  module _ (c : List ℤ) (ends : (i : ℕ) → i < 3 → (at c i ≡ at lo i) ⊎ (at c i ≡ at hi i)) where
    corner_in : (i : ℕ) → i < 3 → In 40 (in_units (whole (at c i))) (box_at w i)
    corner_in i l = elim (ends i l) [
      | inl e ↦ at_end e (equal_in (box.ends.lows i l).value (low_end (box_sized box i l)))
      | inr e ↦ at_end e (equal_in (box.ends.highs i l).value (high_end (box_sized box i l)))
    ]
      where
        at_end : {z : ℤ} → at c i ≡ z → In 10 (in_units (whole z)) (box_at w i) → In 40 (in_units (whole (at c i))) (box_at w i)
        at_end e h = subst (λ (z : ℤ). In 40 (in_units (whole z)) (box_at w i)) (sym e) (wider 40 tt h)

    corner_strict : (value over_box.lo <F t g (λ i. whole (at c i))) × (t g (λ i. whole (at c i)) <F value over_box.hi)
    corner_strict = parameter_strict ar g s apart (λ i. whole (at c i)) w corner_in

  t_least : t g (λ i. whole (at (least_corner (direction g) lo hi) i)) ≈F over_l least
  unfolding t least_along linear_of
  t_least = ≈F_trans (over_cong (length_pos g apart) (along_whole g.from (direction g) (least_corner (direction g) lo hi)))
      (over_whole least (length_pos g apart))

  t_greatest : t g (λ i. whole (at (greatest_corner (direction g) lo hi) i)) ≈F over_l greatest
  unfolding t greatest_along linear_of
  t_greatest = ≈F_trans (over_cong (length_pos g apart) (along_whole g.from (direction g) (greatest_corner (direction g) lo hi)))
      (over_whole greatest (length_pos g apart))

  low_under : value over_box.lo <F over_l least
  low_under = <F-≤F_trans (corner_strict (least_corner (direction g) lo hi) (least_ends (direction g) lo hi)).0 (≈F_le t_least)

  high_over : over_l greatest <F value over_box.hi
  high_over = ≤F-<F_trans (≈F_ge t_greatest) (corner_strict (greatest_corner (direction g) lo hi) (greatest_ends (direction g) lo hi)).1

  -- ---- 0 and 1 over L
  at_zero : value (b64 0) ≈F over_l (pos 0)
  at_zero = ≈F_trans zero_value (≈F_trans (≈F_sym (over_zero (length_pos g apart))) (over_whole (pos 0) (length_pos g apart)))

  at_one : value one ≈F over_l (length_sq g)
  at_one = subst (λ (z : ℤ). value one ≈F over_l z) (length_is g apart)
      (≈F_trans one_value (≈F_trans (≈F_sym (over_self (length_pos g apart))) (over_whole (pos (nat_abs (length_sq g))) (length_pos g apart))))

  -- ---- the tests
  ends_finite : T (finite over_box.lo) × T (finite over_box.hi)
  ends_finite =
      let h = parameter_encloses ar g s apart (λ i. whole (at lo i)) w (corner_in lo (λ i l. inl refl)) in
      (small_finite 83 over_box.lo h.small_lo, small_finite 83 over_box.hi h.small_hi)

  below_zero : le over_box.hi (b64 0) ≡ lt_z greatest (pos 0)
  below_zero = test_same over_box.hi (b64 0) ends_finite.1 zero_finite
      (λ h. lt_same_den (<F-≤F_trans high_over (≤F_trans h (≈F_le at_zero))))
      (λ h. ≤F_trans (high_zero ar g s lo hi w box apart h) (≈F_ge zero_value))

  below_one : le over_box.hi one ≡ lt_z greatest (length_sq g)
  below_one = test_same over_box.hi one ends_finite.1 one_finite
      (λ h. lt_same_den (<F-≤F_trans high_over (≤F_trans h (≈F_le at_one))))
      (λ h. ≤F_trans (high_one ar g s lo hi w box apart h) (≈F_ge one_value))

  above_zero : le (b64 0) over_box.lo ≡ lt_z (pos 0) least
  above_zero = test_same (b64 0) over_box.lo zero_finite ends_finite.0
      (λ h. lt_same_den (≤F-<F_trans (≤F_trans (≈F_ge at_zero) h) low_under))
      (λ h. ≤F_trans (≈F_le zero_value) (low_zero ar g s lo hi w box apart h))

  above_one : le one over_box.lo ≡ lt_z (length_sq g) least
  above_one = test_same one over_box.lo one_finite ends_finite.0
      (λ h. lt_same_den (≤F-<F_trans (≤F_trans (≈F_ge at_one) h) low_under))
      (λ h. ≤F_trans (≈F_le one_value) (low_one ar g s lo hi w box apart h))

  -- the piece is the exact one, but for its tests, which are strict
  pub tick_piece : piece_of over_box ≡ chosen (lt_z greatest (pos 0)) (lt_z (length_sq g) least) (lt_z (pos 0) least && lt_z greatest (length_sq g))
  unfolding piece_of
  tick_piece = λ k. chosen (below_zero k) (above_one k) (above_zero k && below_one k)

-- THE FACT, of an accepted level
pub tick_piece_same : (ar : Arithmetic) (g : Grade) → InLimits g → T (not (coincident g)) → (lo hi : List ℤ) (w : List Interval) → WholeTicks lo hi w
    → piece ar (grade_intervals ar (compiled g)) w ≡ piece Wide (grade_intervals Wide (compiled g)) w
unfolding piece grade_intervals
tick_piece_same ar g limits apart lo hi w box = by_kind g (λ G. piece ar (grade_intervals ar G) w ≡ piece Wide (grade_intervals Wide G) w)
    (λ l. let a = linear_apart g l apart in let s = sizes g limits in tick_piece ar g s a lo hi w box ∙ sym (tick_piece Wide g s a lo hi w box))
    (λ u. refl)
