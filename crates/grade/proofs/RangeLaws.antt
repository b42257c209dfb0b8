-- "`range` is ordered, holds the level of every rational box point and takes both bounds at corners." Assumes nothing.
use mathlib.Core.Path.{refl, sym, subst}
use mathlib.Core.Logic.{◌⊎◌, inl, inr}
use mathlib.Core.Bool.{not, ◌&&◌}
use mathlib.Core.List.{List}
use lib.Dec.{T}
use lib.IntN.{ℤ, pos, nat_abs}
use lib.Signed.{lt_z, lt_z_yes, lt_z_no, ◌≤ℤ◌, ◌<ℤ◌, ≤ℤ_refl}
use Rattle.exact.specs.Fraction.{Fraction, whole, one_f, ◌/F◌, ◌≤F◌, ◌≈F◌, held_f}
use Rattle.exact.proofs.Choice.{choose}
use Rattle.exact.proofs.IntegerOrder.{<ℤ_le, ≤ℤ_trans}
use Rattle.exact.proofs.Fraction.{≤F_trans, ≈F_sym, ≈F_trans, ≈F_le, ≈F_ge, over_mono, over_cong, over_one, whole_le}
use Rattle.exact.proofs.FractionSize.{held_mono, held_cong}
use Rattle.grade.specs.declared.Grade.{Grade}
use Rattle.limits.specs.Ticks.{at}
use Rattle.grade.specs.Grade.{eq_z, is_linear, direction, length_sq, Point, along, t, ramp_level, level}
use Rattle.grade.specs.Exact.{linear_of, numbers, compiled}
use Rattle.grade.specs.Exact.{least_corner, greatest_corner, least_along, greatest_along, level_over, bounds_of, linear_range, range}
use Rattle.grade.specs.Refusals.{coincident}
use Rattle.grade.specs.Holds.{Taken, RangeHolds}
use Rattle.grade.proofs.Accepted.{linear_apart, by_kind}
use Rattle.grade.proofs.LevelLaws.{ramp_cong, ramp_mono, level_linear, level_flat, length_pos, level_over_lem}
use Rattle.grade.proofs.CornerLaws.{along_whole, along_least, along_greatest, least_ends, greatest_ends}

-- ---- two numbers in order
module _ (a b over : ℤ) where
  low_left : (bounds_of a b over).low ≤ℤ a
  low_left = choose (lt_z b a) b a (λ z. z ≤ℤ a) (λ u. <ℤ_le (lt_z_yes u)) (λ _. ≤ℤ_refl a)

  low_right : (bounds_of a b over).low ≤ℤ b
  low_right = choose (lt_z b a) b a (λ z. z ≤ℤ b) (λ _. ≤ℤ_refl b) (λ u. lt_z_no u)

  high_left : a ≤ℤ (bounds_of a b over).high
  high_left = choose (lt_z b a) a b (λ z. a ≤ℤ z) (λ _. ≤ℤ_refl a) (λ u. lt_z_no u)

  high_right : b ≤ℤ (bounds_of a b over).high
  high_right = choose (lt_z b a) a b (λ z. b ≤ℤ z) (λ u. <ℤ_le (lt_z_yes u)) (λ _. ≤ℤ_refl b)

-- ---- a linear level
module _ (g : Grade) (linear : T (is_linear g)) (apart : pos 0 <ℤ length_sq g) where
  -- the level where t's numerator is the whole number z
  at_whole : (p : Point) (z : ℤ) → along g.from (direction g) p ≈F whole z → level g p ≈F whole (level_over (numbers g) z) /F nat_abs (length_sq g)
  unfolding t
  at_whole p z e = subst (λ (q : Fraction). q ≈F whole (level_over (numbers g) z) /F nat_abs (length_sq g)) (sym (level_linear g p linear))
      (≈F_trans (ramp_cong g (held_cong one_f (over_cong (length_pos g apart) e))) (level_over_lem g apart z))

  -- between two whole numerators the level is between the levels there, either way round
  at_between : (p : Point) (x z : ℤ) → whole x ≤F along g.from (direction g) p → along g.from (direction g) p ≤F whole z →
      ((whole (level_over (numbers g) x) /F nat_abs (length_sq g) ≤F level g p) × (level g p ≤F whole (level_over (numbers g) z) /F nat_abs (length_sq g)))
      ⊎ ((whole (level_over (numbers g) z) /F nat_abs (length_sq g) ≤F level g p) × (level g p ≤F whole (level_over (numbers g) x) /F nat_abs (length_sq g)))
  unfolding t
  at_between p x z h k = elim (ramp_mono g (held_mono one_f (over_mono (length_pos g apart) h)) (held_mono one_f (over_mono (length_pos g apart) k))) [
    | inl s ↦ inl (≤F_trans (≈F_ge (level_over_lem g apart x)) (to s.0), ≤F_trans (from s.1) (≈F_le (level_over_lem g apart z)))
    | inr s ↦ inr (≤F_trans (≈F_ge (level_over_lem g apart z)) (to s.0), ≤F_trans (from s.1) (≈F_le (level_over_lem g apart x)))
  ]
    where
      to : {q : Fraction} → q ≤F ramp_level g (held_f (t g p) one_f) → q ≤F level g p
      to {q} u = subst (λ (r : Fraction). q ≤F r) (sym (level_linear g p linear)) u

      from : {q : Fraction} → ramp_level g (held_f (t g p) one_f) ≤F q → level g p ≤F q
      from {q} u = subst (λ (r : Fraction). r ≤F q) (sym (level_linear g p linear)) u

  module _ (lo hi : List ℤ) where
    low_corner : Taken g lo hi (whole (level_over (numbers g) (least_along (numbers g) lo hi)) /F nat_abs (length_sq g))
    unfolding least_along linear_of
    low_corner = record {
      corner = least_corner (direction g) lo hi;
      ends = least_ends (direction g) lo hi;
      value = at_whole (λ i. whole (at (least_corner (direction g) lo hi) i)) (least_along (numbers g) lo hi)
          (along_whole g.from (direction g) (least_corner (direction g) lo hi));
    }

    high_corner : Taken g lo hi (whole (level_over (numbers g) (greatest_along (numbers g) lo hi)) /F nat_abs (length_sq g))
    unfolding greatest_along linear_of
    high_corner = record {
      corner = greatest_corner (direction g) lo hi;
      ends = greatest_ends (direction g) lo hi;
      value = at_whole (λ i. whole (at (greatest_corner (direction g) lo hi) i)) (greatest_along (numbers g) lo hi)
          (along_whole g.from (direction g) (greatest_corner (direction g) lo hi));
    }

    -- what stands over L, in order
    over : {x z : ℤ} → x ≤ℤ z → whole x /F nat_abs (length_sq g) ≤F whole z /F nat_abs (length_sq g)
    over h = over_mono (length_pos g apart) (whole_le h)

    linear_holds : RangeHolds g lo hi (linear_range (numbers g) lo hi)
    unfolding linear_range linear_of
    linear_holds = record {
      ordered = ≤ℤ_trans (low_left a b (length_sq g)) (high_left a b (length_sq g));
      holds = λ p i. elim (at_between p least greatest (along_least (numbers g) lo hi p i) (along_greatest (numbers g) lo hi p i)) [
        | inl s ↦ (≤F_trans (over (low_left a b (length_sq g))) s.0, ≤F_trans s.1 (over (high_right a b (length_sq g))))
        | inr s ↦ (≤F_trans (over (low_right a b (length_sq g))) s.0, ≤F_trans s.1 (over (high_left a b (length_sq g))))
      ];
      low_taken = choose (lt_z b a) b a (λ z. Taken g lo hi (whole z /F nat_abs (length_sq g))) (λ _. high_corner) (λ _. low_corner);
      high_taken = choose (lt_z b a) a b (λ z. Taken g lo hi (whole z /F nat_abs (length_sq g))) (λ _. low_corner) (λ _. high_corner);
    }
      where
        least : ℤ
        least = least_along (numbers g) lo hi

        greatest : ℤ
        greatest = greatest_along (numbers g) lo hi

        a : ℤ
        a = level_over (numbers g) (least_along (numbers g) lo hi)

        b : ℤ
        b = level_over (numbers g) (greatest_along (numbers g) lo hi)

-- ---- a constant, or equal ends
flat_holds : (g : Grade) (lo hi : List ℤ) → T (not (is_linear g && not (eq_z g.start g.end))) → RangeHolds g lo hi (record { low = g.start; high = g.start; over = pos 1 })
flat_holds g lo hi u = record {
  ordered = ≤ℤ_refl g.start;
  holds = λ p i. (≤F_trans (≈F_le (over_one (whole g.start))) (≈F_ge (level_flat g p u)), ≤F_trans (≈F_le (level_flat g p u)) (≈F_ge (over_one (whole g.start))));
  low_taken = taken;
  high_taken = taken;
}
  where
    taken : Taken g lo hi (whole g.start /F 1)
    taken = record { corner = lo; ends = λ i l. inl refl; value = ≈F_trans (level_flat g (λ i. whole (at lo i)) u) (≈F_sym (over_one (whole g.start))) }

-- THE FACT
pub range_holds : (g : Grade) (lo hi : List ℤ) → T (not (coincident g)) → RangeHolds g lo hi (range (compiled g) lo hi)
unfolding range
range_holds g lo hi apart = by_kind g (λ G. RangeHolds g lo hi (range G lo hi)) (λ l. linear_holds g l (linear_apart g l apart) lo hi) (flat_holds g lo hi)
