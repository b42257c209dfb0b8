-- The grade in intervals holds the grade: t, the level, its affine extension and its slope, at every rational point whose coordinates the
-- box's intervals hold; and what the float piece says of them. In either arithmetic. Assumes nothing.
use mathlib.Core.Path.{◌≡◌, refl, sym, subst}
use mathlib.Core.Bool.{not, ◌&&◌}
use mathlib.Core.List.{List, [], ◌∷◌}
use Prim.Native.Nat.{ℕ, suc, ◌*◌, ◌^◌, ◌≤◌, ◌<◌}
use native.Mathlib.Nat.{le_trans}
use native.Mathlib.Omega.{arith}
use lib.Dec.{T, leb, le→leb, lit<, lit≤}
use lib.IntN.{ℤ, pos, nat_abs, ◌-ℤ◌}
use lib.Ieee.{Float, le}
use lib.Signed.{le_z_yes, ◌<ℤ◌}
use Rattle.exact.specs.Fraction.{Fraction, ratio, whole, zero_f, ◌+F◌, ◌-F◌, ◌*F◌, ◌/F◌, ◌≤F◌, ◌<F◌, ◌≈F◌}
use Rattle.exact.proofs.Ring.{lit, ◌⊕◌}
use Rattle.exact.proofs.FractionRing.{ring_f}
use Rattle.exact.proofs.Fraction.{≤F_trans, ≤F-<F_trans, <F-≤F_trans}
use Rattle.exact.proofs.Fraction.{≈F_refl, ≈F_sym, ≈F_trans, ≈F_le, ≈F_ge, comm_f, add_cong_f, mul_cong_f, over_cong, over_add, over_sub, over_mul, over_product}
use Rattle.exact.proofs.Fraction.{over_times, over_whole, whole_sub}
use Rattle.interval.specs.declared.Interval.{Interval}
use Rattle.interval.specs.Step.{b64}
use Rattle.interval.specs.Interval.{Arithmetic, sum, clamp01}
use Rattle.interval.specs.Nearest.{from_rational}
use Rattle.interval.specs.Encloses.{value}
use Rattle.interval.proofs.Membership.{In, equal_in, wider, zero_encloses, zero_value, zero_finite, one_value, one_finite, at_most_test, at_least_test}
use Rattle.interval.proofs.Encloses.{add_encloses, sub_encloses, mul_encloses, fraction_encloses}
use Rattle.interval.proofs.Quotient.{inverse_power, div_encloses, fraction_apart}
use Rattle.interval.proofs.Bounds.{clamp_encloses}
use Rattle.interval.proofs.Narrower.{sized}
use Rattle.interval.proofs.NarrowerProducts.{quotient_strict}
use Rattle.grade.specs.declared.Grade.{Grade}
use Rattle.limits.specs.Ticks.{at}
use Rattle.grade.specs.Grade.{direction, length_sq, Point, along, t, ramp_level, level}
use Rattle.grade.specs.Exact.{linear_of, numbers, compiled}
use Rattle.grade.specs.Refusals.{coincident}
use Rattle.grade.specs.Fits.{Within3, InLimits}
use Rattle.grade.specs.Intervals.{unit, units, zero, linear_intervals, grade_intervals, box_at, along_axis, parameter_of, parameter, level_of, interval, affine}
use Rattle.grade.specs.Intervals.{piece_of, piece}
use Rattle.grade.specs.Holds.{SaysLevel}
use Rattle.grade.specs.Extended.{Says, affine_level, in_units}
use Rattle.grade.proofs.Axes.{three}
use Rattle.limits.proofs.TickLaws.{both}
use Rattle.grade.proofs.EntryLaws.{Sizes, sizes}
use Rattle.grade.proofs.Sizes.{minus_within, dot_within}
use Rattle.grade.proofs.AxisLaws.{within_at}
use Rattle.grade.proofs.Accepted.{linear_apart, by_kind}
use Rattle.grade.proofs.LevelLaws.{level_linear, level_flat, affine_linear, affine_flat, length_pos, length_is}
use Rattle.grade.proofs.PieceLaws.{chosen_says, says_level}

-- ---- a tick in millimetres, a level count as a level
pub unit_encloses : (k : ℕ) (z : ℤ) → T (leb k 1022) → nat_abs z ≤ 2 ^ k * 1024 → In (suc k) (in_units (whole z)) (unit z)
unit_encloses k z t h = equal_in (≈F_sym (over_whole z (lit< tt))) (fraction_encloses k (ratio z 1024 (lit< tt)) t h)

pub units_at : (v : List ℤ) (i : ℕ) → i < 3 → box_at (units v) i ≡ unit (at v i)
units_at v = three (λ i. box_at (units v) i ≡ unit (at v i)) refl refl refl

-- ---- the constants of t: the anchor, the direction, and L, which is at least 1, so that its interval keeps away from zero
module _ (g : Grade) (s : Sizes g) where
  pub direction_within : Within3 2097152 (direction g)
  direction_within = minus_within s.to s.from

  pub from_encloses : (i : ℕ) → i < 3 → In 11 (in_units (whole (at g.from i))) (box_at (units g.from) i)
  from_encloses i l = subst (In 11 (in_units (whole (at g.from i)))) (sym (units_at g.from i l))
      (unit_encloses 10 (at g.from i) tt (within_at s.from i l).abs)

  pub direction_encloses : (i : ℕ) → i < 3 → In 12 (in_units (whole (at (direction g) i))) (box_at (units (direction g)) i)
  direction_encloses i l = subst (In 12 (in_units (whole (at (direction g) i)))) (sym (units_at (direction g) i l))
      (unit_encloses 11 (at (direction g) i) tt (within_at direction_within i l).abs)

  module _ (apart : pos 0 <ℤ length_sq g) where
    pub length_most : nat_abs (length_sq g) ≤ 13194139533312
    length_most = (dot_within direction_within direction_within).abs

    pub length_encloses : In 25 (ratio (pos (nat_abs (length_sq g))) 1048576 (lit< tt)) (from_rational (length_sq g) 1048576)
    length_encloses = subst (λ (z : ℤ). In 25 (ratio (pos (nat_abs (length_sq g))) 1048576 (lit< tt)) (from_rational z 1048576)) (length_is g apart)
        (fraction_encloses 24 (ratio (pos (nat_abs (length_sq g))) 1048576 (lit< tt)) tt (le_trans length_most (lit≤ tt)))

    pub length_apart : inverse_power 21 ≤F value (from_rational (length_sq g) 1048576).lo
    length_apart = subst (λ (z : ℤ). inverse_power 21 ≤F value (from_rational z 1048576).lo) (length_is g apart)
        (fraction_apart 19 24 (ratio (pos (nat_abs (length_sq g))) 1048576 (lit< tt)) tt tt (le_trans length_most (lit≤ tt))
        (least (nat_abs (length_sq g)) (length_pos g apart)))
      where
        least : (n : ℕ) → 0 < n → inverse_power 20 ≤F ratio (pos n) 1048576 (lit< tt)
        least n h = record { le = le_z_yes (le→leb (1 * 1048576) (n * 2 ^ 20) (enough n h)) }
          where
            enough : (n : ℕ) → 0 < n → 1 * 1048576 ≤ n * 1048576
            enough n h = omega arith

-- ---- what the float piece says of what t's interval holds
pub piece_of_says : {k : ℕ} {x : Fraction} {X : Interval} → In k x X → Says (piece_of X) x
unfolding piece_of
piece_of_says {x} {X} h = chosen_says (le X.hi (b64 0)) (le one X.lo) (le (b64 0) X.lo && le X.hi one) x
    (λ u. ≤F_trans (at_most_test h (b64 0) zero_finite u) (≈F_le zero_value))
    (λ u. ≤F_trans (≈F_ge one_value) (at_least_test h one one_finite u))
    (λ u. let (v, w) = both (le (b64 0) X.lo) (le X.hi one) u in (≤F_trans (≈F_ge zero_value) (at_least_test h (b64 0) zero_finite v), ≤F_trans (at_most_test h one one_finite w) (≈F_le one_value)))
  where
    one : Float
    one = b64 0x3ff0_0000_0000_0000

-- ---- in either arithmetic
module _ (ar : Arithmetic) where
  -- ---- t
  module _ (g : Grade) (s : Sizes g) (apart : pos 0 <ℤ length_sq g) where
    module _ (p : Point) (w : List Interval) (holds : (i : ℕ) → i < 3 → In 40 (in_units (p i)) (box_at w i)) where
      -- an axis' share of (p − from)·d, over 2^20
      share : ℕ → Fraction
      share i = (p i -F whole (at g.from i)) *F whole (at (direction g) i)

      share_encloses : (i : ℕ) → i < 3 → In 55 (share i /F 1048576) (along_axis ar (linear_intervals ar (numbers g)) i (box_at w i))
      unfolding along_axis linear_intervals linear_of share
      share_encloses i l =
          equal_in (≈F_trans (mul_cong_f (≈F_sym (over_sub (p i) (whole (at g.from i)) (lit< tt))) (≈F_refl (in_units (whole (at (direction g) i)))))
          (over_product (p i -F whole (at g.from i)) (whole (at (direction g) i)) (lit< tt) (lit< tt)))
          (mul_encloses tt (sub_encloses ar tt (holds i l) (from_encloses g s i l)) (direction_encloses g s i l))

      -- the three together, as the interval arithmetic adds them
      shares : Fraction
      shares = zero_f +F share 0 /F 1048576 +F share 1 /F 1048576 +F share 2 /F 1048576

      abbrev along_box : ℕ → Interval
      along_box i = along_axis ar (linear_intervals ar (numbers g)) i (box_at w i)

      shares_encloses : In 61 shares (sum ar (sum ar (sum ar zero (along_box 0)) (along_box 1)) (along_box 2))
      unfolding shares
      shares_encloses =
          add_encloses ar tt (add_encloses ar tt (add_encloses ar tt zero_encloses (share_encloses 0 (lit< tt))) (share_encloses 1 (lit< tt)))
          (share_encloses 2 (lit< tt))

      -- over L they are t
      shares_over : shares *F ratio (pos 1048576) (nat_abs (length_sq g)) (length_pos g apart) ≈F t g p
      unfolding shares t along share
      shares_over = ≈F_trans (mul_cong_f gathered (≈F_sym (over_whole (pos 1048576) (length_pos g apart))))
          (≈F_trans (comm_f (total /F 1048576) (m /F n))
          (≈F_trans (≈F_sym (over_mul m (total /F 1048576) (length_pos g apart)))
          (over_cong (length_pos g apart) (≈F_trans (comm_f m (total /F 1048576)) (over_times total (lit< tt))))))
        where
          n : ℕ
          n = nat_abs (length_sq g)

          m : Fraction
          m = whole (pos 1048576)

          total : Fraction
          total = share 0 +F share 1 +F share 2

          gathered : zero_f +F share 0 /F 1048576 +F share 1 /F 1048576 +F share 2 /F 1048576 ≈F total /F 1048576
          gathered =
              ≈F_trans (ring_f 3 (λ x y z. lit (pos 0) ⊕ x ⊕ y ⊕ z) (λ x y z. x ⊕ y ⊕ z) tt
              ((share 0 /F 1048576) ∷ (share 1 /F 1048576) ∷ (share 2 /F 1048576) ∷ []))
              (≈F_trans (add_cong_f (≈F_sym (over_add (share 0) (share 1) (lit< tt))) (≈F_refl (share 2 /F 1048576)))
              (≈F_sym (over_add (share 0 +F share 1) (share 2) (lit< tt))))

      -- what the parameter's interval holds
      pub parameter_encloses : In 83 (t g p) (parameter ar (linear_intervals ar (numbers g)) w)
      unfolding parameter parameter_of linear_intervals linear_of
      parameter_encloses = equal_in shares_over (div_encloses 21 (length_pos g apart) tt (length_apart g s apart) shares_encloses (length_encloses g s apart))

      -- which is neither of its ends
      pub parameter_strict : (value (parameter ar (linear_intervals ar (numbers g)) w).lo <F t g p)
          × (t g p <F value (parameter ar (linear_intervals ar (numbers g)) w).hi)
      unfolding parameter parameter_of linear_intervals linear_of
      parameter_strict =
          let l = length_encloses g s apart in
          let (below, above) = quotient_strict 21 tt (sized shares_encloses) (sized l) (length_apart g s apart) (length_pos g apart) shares_encloses l in
          (<F-≤F_trans below (≈F_le shares_over), ≤F-<F_trans (≈F_ge shares_over) above)

  -- ---- start + x (end − start)
  level_of_encloses : (g : Grade) → Sizes g → {x : Fraction} {X : Interval} → In 83 x X
      → In 91 (in_units (ramp_level g x)) (level_of ar (linear_intervals ar (numbers g)) X)
  unfolding level_of linear_intervals linear_of
  level_of_encloses g s {x} h = equal_in same
      (add_encloses ar tt start (mul_encloses tt h (sub_encloses ar tt (unit_encloses 2 g.end tt s.end.abs) start)))
    where
      start : In 3 (in_units (whole g.start)) (unit g.start)
      start = unit_encloses 2 g.start tt s.start.abs

      rise : Fraction
      rise = whole (g.end -ℤ g.start)

      risen : in_units (whole g.end) -F in_units (whole g.start) ≈F in_units rise
      risen = ≈F_trans (≈F_sym (over_sub (whole g.end) (whole g.start) (lit< tt))) (over_cong (lit< tt) (whole_sub g.end g.start))

      same : in_units (whole g.start) +F x *F (in_units (whole g.end) -F in_units (whole g.start)) ≈F in_units (ramp_level g x)
      same =
          ≈F_trans (add_cong_f (≈F_refl (in_units (whole g.start)))
          (≈F_trans (mul_cong_f (≈F_refl x) risen) (≈F_trans (comm_f x (in_units rise))
          (≈F_trans (≈F_sym (over_mul rise x (lit< tt))) (over_cong (lit< tt) (comm_f rise x))))))
          (≈F_sym (over_add (whole g.start) (x *F rise) (lit< tt)))

  -- ---- THE FACTS, of an accepted level and a point whose coordinates, in millimetres, the box's intervals hold
  module _ (g : Grade) (limits : InLimits g) (apart : T (not (coincident g))) where
    module _ (p : Point) (w : List Interval) (holds : (i : ℕ) → i < 3 → In 40 (in_units (p i)) (box_at w i)) where
      -- the level
      pub interval_encloses : In 100 (in_units (level g p)) (interval ar (grade_intervals ar (compiled g)) w)
      unfolding interval grade_intervals linear_intervals
      interval_encloses = by_kind g (λ G. In 100 (in_units (level g p)) (interval ar (grade_intervals ar G) w))
          (λ l. subst (λ (q : Fraction). In 100 (in_units q)
          (level_of ar (linear_intervals ar (numbers g)) (clamp01 (parameter ar (linear_intervals ar (numbers g)) w)))) (sym (level_linear g p l))
          (wider 100 tt (level_of_encloses g (sizes g limits) (clamp_encloses (parameter_encloses g (sizes g limits) (linear_apart g l apart) p w holds)))))
          (λ u. wider 100 tt (equal_in (over_cong (lit< tt) (≈F_sym (level_flat g p u))) (unit_encloses 2 g.start tt (sizes g limits).start.abs)))

      -- its affine extension
      pub affine_encloses : In 100 (in_units (affine_level g p)) (affine ar (grade_intervals ar (compiled g)) w)
      unfolding affine grade_intervals linear_intervals
      affine_encloses = by_kind g (λ G. In 100 (in_units (affine_level g p)) (affine ar (grade_intervals ar G) w))
          (λ l. subst (λ (q : Fraction). In 100 (in_units q) (level_of ar (linear_intervals ar (numbers g)) (parameter ar (linear_intervals ar (numbers g)) w)))
          (sym (affine_linear g p l))
          (wider 100 tt (level_of_encloses g (sizes g limits) (parameter_encloses g (sizes g limits) (linear_apart g l apart) p w holds))))
          (λ u. wider 100 tt (equal_in (over_cong (lit< tt) (≈F_sym (affine_flat g p u))) (unit_encloses 2 g.start tt (sizes g limits).start.abs)))

      -- what the piece says of the level
      pub piece_says : SaysLevel g p (piece ar (grade_intervals ar (compiled g)) w)
      unfolding piece grade_intervals
      piece_says = by_kind g (λ G. SaysLevel g p (piece ar (grade_intervals ar G) w))
          (λ l. says_level g p l (piece_of (parameter ar (linear_intervals ar (numbers g)) w))
          (piece_of_says (parameter_encloses g (sizes g limits) (linear_apart g l apart) p w holds)))
          (λ u. level_flat g p u)
