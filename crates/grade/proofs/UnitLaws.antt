-- HOW FAR OUT THE ENDS OF t CAN BE over a box of whole ticks, in either arithmetic. In ticks (p − from)·d and L are whole at the corners; in units of
-- 1/256 square tick the interval of the one is out by 12 at most, and that of the other by 1. So where (p − from)·d is below 0, or below L, at every
-- corner, and so by a square tick at least, t's high end is at most 0, or 1; and so above. Assumes nothing.
use mathlib.Core.Path.{◌≡◌, refl, sym, subst, subst₂}
use mathlib.Core.List.{List, [], ◌∷◌}
use Prim.Native.Nat.{ℕ, ◌+◌, ◌*◌, ◌^◌, ◌≤◌, ◌<◌}
use native.Mathlib.Nat.{le_trans}
use lib.Dec.{T, leb, lit<, lit≤}
use lib.Pow.{pow_pos}
use lib.IntN.{ℤ, pos, negsuc, nat_abs, ◌+ℤ◌, ◌-ℤ◌, ◌*ℤ◌}
use lib.Signed.{◌≤ℤ◌, ◌<ℤ◌}
use Rattle.exact.specs.Fraction.{ratio, zero_f, one_f, ◌*F◌, ◌≤F◌, ◌≈F◌}
use Rattle.exact.specs.Within.{Within}
use Rattle.exact.proofs.Size.{within_add, within_sub, within_mul, within_self, within_zero}
use Rattle.exact.proofs.Ring.{lit, ◌⊕◌, ◌⊖◌, ◌⊗◌, ring}
use Rattle.exact.proofs.Fraction.{≤F_trans, ≈F_trans, ≈F_le, ≈F_ge, same_den_le, over_whole}
use Rattle.interval.specs.declared.Interval.{Interval}
use Rattle.interval.specs.Step.{b64}
use Rattle.interval.specs.Interval.{Arithmetic, sum, difference}
use Rattle.interval.specs.Nearest.{from_rational}
use Rattle.interval.specs.Encloses.{value}
use Rattle.interval.proofs.Membership.{zero_value, zero_encloses}
use Rattle.interval.proofs.Encloses.{add_encloses, sub_encloses, mul_encloses}
use Rattle.interval.proofs.Exact.{binary, exact_small}
use Rattle.interval.proofs.Narrower.{Sized, sized, low_end}
use Rattle.interval.proofs.Grid.{most_units, Near, exact_near, fraction_near, sum_near, difference_near}
use Rattle.interval.proofs.Grid.{product_below, product_above, product_near, quotient_high, quotient_low}
use Rattle.grade.specs.declared.Grade.{Grade}
use Rattle.limits.specs.Ticks.{at}
use Rattle.grade.specs.Grade.{minus, dot, direction, length_sq}
use Rattle.grade.specs.Exact.{linear_of, numbers, least_end, greatest_end, least_corner, greatest_corner, least_along, greatest_along}
use Rattle.grade.specs.Intervals.{unit, units, zero, linear_intervals, box_at, along_axis, parameter_of, parameter}
use Rattle.grade.specs.Extended.{WholeTicks}
use Rattle.grade.proofs.EntryLaws.{Sizes}
use Rattle.grade.proofs.Sizes.{end_within}
use Rattle.grade.proofs.AxisLaws.{within_at}
use Rattle.grade.proofs.MarginLaws.{fine, coarse, corner_below, corner_above, EndsBetween, ordered_ends}
use Rattle.grade.proofs.MarginLaws.{over, under, below_zero, below_length, above_zero, above_length}
use Rattle.grade.proofs.IntervalLaws.{units_at, direction_within, from_encloses, direction_encloses, length_most, length_encloses, length_apart}

-- ---- the sizes of three shares, added from zero
module _ {x : ℕ → ℤ} (h : (i : ℕ) → i < 3 → Within 1125899906842624 (x i)) where
  sum_one : Within 1125899906842624 (pos 0 +ℤ x 0)
  sum_one = within_add (within_zero 0) (h 0 (lit< tt))

  sum_two : Within 2251799813685248 (pos 0 +ℤ x 0 +ℤ x 1)
  sum_two = within_add sum_one (h 1 (lit< tt))

  sum_three : Within 3377699720527872 (pos 0 +ℤ x 0 +ℤ x 1 +ℤ x 2)
  sum_three = within_add sum_two (h 2 (lit< tt))

-- ---- t over a box whose ends are whole ticks, in order
finer : (z : ℤ) → binary z 10 ≈F binary (z *ℤ fine) 40
finer z = record { eq = ring 1 (λ z. z ⊗ lit (pos 1099511627776)) (λ z. z ⊗ lit fine ⊗ lit (pos 1024)) tt (z ∷ []) }

-- a tick's own interval
unit_near : {n : ℕ} (k : ℕ) (z : ℤ) → T (leb k 1022) → nat_abs z ≤ 2 ^ k * 1024 → Within n z → T (leb (n * 1073741824 + 0) most_units)
    → Near 40 (z *ℤ fine) (z *ℤ fine) 1 (unit z)
unit_near k z t h s r = fraction_near k (ratio z 1024 (pow_pos 10)) t tt h (finer z) (within_mul s (within_self fine)) r

module _ {lo hi : List ℤ} {w : List Interval} (box : WholeTicks lo hi w) (i : ℕ) (l : i < 3) where
  low_value : value (box_at w i).lo ≈F binary (at lo i) 10
  low_value = ≈F_trans (box.ends.lows i l).value (over_whole (at lo i) (pow_pos 10))

  high_value : value (box_at w i).hi ≈F binary (at hi i) 10
  high_value = ≈F_trans (box.ends.highs i l).value (over_whole (at hi i) (pow_pos 10))

  pub box_sized : Sized 10 (box_at w i)
  box_sized = record {
    lo = exact_small 10 10 (at lo i) (box_at w i).lo (box.ends.lows i l).finite low_value (within_at box.low i l).abs;
    hi = exact_small 10 10 (at hi i) (box_at w i).hi (box.ends.highs i l).finite high_value (within_at box.high i l).abs;
    order = ≤F_trans (≈F_le low_value) (≤F_trans (same_den_le (box.order i l)) (≈F_ge high_value));
  }

  box_near : Near 40 (at lo i *ℤ fine) (at hi i *ℤ fine) 0 (box_at w i)
  box_near = exact_near (≈F_trans low_value (finer (at lo i))) (≈F_trans high_value (finer (at hi i)))

module _ (ar : Arithmetic) (g : Grade) (s : Sizes g) (lo hi : List ℤ) (w : List Interval) (box : WholeTicks lo hi w) where
  module _ (i : ℕ) where
    abbrev f : ℤ
    f = at g.from i

    abbrev d : ℤ
    d = at (direction g) i

    abbrev least : ℤ
    least = least_end d (at lo i) (at hi i)

    abbrev greatest : ℤ
    greatest = greatest_end d (at lo i) (at hi i)

    -- (x − from)·d at either
    abbrev low_share : ℤ
    low_share = (least -ℤ f) *ℤ d

    abbrev high_share : ℤ
    high_share = (greatest -ℤ f) *ℤ d

    module _ (l : i < 3) where
      low : Within 1048576 (at lo i)
      low = within_at box.low i l

      high : Within 1048576 (at hi i)
      high = within_at box.high i l

      from_near : Near 40 (f *ℤ fine) (f *ℤ fine) 1 (box_at (units g.from) i)
      from_near = subst (Near 40 (f *ℤ fine) (f *ℤ fine) 1) (sym (units_at g.from i l))
          (unit_near 10 f tt (within_at s.from i l).abs (within_at s.from i l) tt)

      direction_near : Near 40 (d *ℤ fine) (d *ℤ fine) 1 (box_at (units (direction g)) i)
      direction_near = subst (Near 40 (d *ℤ fine) (d *ℤ fine) 1) (sym (units_at (direction g) i l))
          (unit_near 11 d tt (within_at (direction_within g s) i l).abs (within_at (direction_within g s) i l) tt)

      -- x − from
      moved_sized : Sized 13 (difference ar (box_at w i) (box_at (units g.from) i))
      moved_sized = sized (sub_encloses ar tt (low_end (box_sized box i l)) (from_encloses g s i l))

      moved_near : Near 40 ((at lo i -ℤ f) *ℤ fine) ((at hi i -ℤ f) *ℤ fine) 2 (difference ar (box_at w i) (box_at (units g.from) i))
      moved_near = subst₂ (λ (a b : ℤ). Near 40 a b 2 (difference ar (box_at w i) (box_at (units g.from) i))) (taken (at lo i)) (taken (at hi i))
          (difference_near tt (box_sized box i l) (sized (from_encloses g s i l)) tt (box_near box i l) from_near ar tt
          (size low) (size high))
        where
          taken : (z : ℤ) → z *ℤ fine -ℤ f *ℤ fine ≡ (z -ℤ f) *ℤ fine
          taken z = ring 2 (λ z f. z ⊗ lit fine ⊖ f ⊗ lit fine) (λ z f. (z ⊖ f) ⊗ lit fine) tt (z ∷ f ∷ [])

          size : {z : ℤ} → Within 1048576 z → Within 2251799813685248 (z *ℤ fine -ℤ f *ℤ fine)
          size z = within_sub (within_mul z (within_self fine)) (within_mul (within_at s.from i l) (within_self fine))

      -- (x − from)·d
      share_sized : Sized 26 (along_axis ar (linear_intervals ar (numbers g)) i (box_at w i))
      unfolding along_axis linear_intervals linear_of
      share_sized = sized (mul_encloses tt (low_end moved_sized) (direction_encloses g s i l))

      ends_within : {z : ℤ} → Within 1048576 z → Within 2097152 (z -ℤ f)
      ends_within z = within_sub z (within_at s.from i l)

      share_within : {z : ℤ} → Within 1048576 z → Within 1125899906842624 ((z -ℤ f) *ℤ d *ℤ coarse)
      share_within z = within_mul (within_mul (ends_within z) (within_at (direction_within g s) i l)) (within_self coarse)

      low_within : Within 1125899906842624 (low_share *ℤ coarse)
      low_within = share_within (end_within d low high)

      high_within : Within 1125899906842624 (high_share *ℤ coarse)
      high_within = share_within (end_within d high low)

      share_near : Near 28 (low_share *ℤ coarse) (high_share *ℤ coarse) 3 (along_axis ar (linear_intervals ar (numbers g)) i (box_at w i))
      unfolding along_axis linear_intervals linear_of
      share_near = product_near tt moved_sized (sized (direction_encloses g s i l)) moved_near direction_near tt low_within high_within tt (
        above low two_down one_down o.least_lo,
        above low two_down one_up o.least_lo,
        above high two_up one_down o.least_hi,
        above high two_up one_up o.least_hi,
      ) (
        below low two_down one_down o.greatest_lo,
        below low two_down one_up o.greatest_lo,
        below high two_up one_down o.greatest_hi,
        below high two_up one_up o.greatest_hi,
      )
        where
          two_down : Within 2 (negsuc 1)
          two_down = within_self (negsuc 1)

          two_up : Within 2 (pos 2)
          two_up = within_self (pos 2)

          one_down : Within 1 (negsuc 0)
          one_down = within_self (negsuc 0)

          one_up : Within 1 (pos 1)
          one_up = within_self (pos 1)

          above : {z e u : ℤ} → Within 1048576 z → Within 2 e → Within 1 u → low_share ≤ℤ ((z -ℤ f) *ℤ d)
              → binary (low_share *ℤ coarse -ℤ pos 2) 28 ≤F binary ((z -ℤ f) *ℤ fine +ℤ e) 40 *F binary (d *ℤ fine +ℤ u) 40
          above {z} {e} {u} Z E U h = product_above 40 40 28 52 refl ((z -ℤ f) *ℤ fine +ℤ e) (d *ℤ fine +ℤ u) (low_share *ℤ coarse -ℤ pos 2)
              (corner_above (z -ℤ f) d e u (ends_within Z) (within_at (direction_within g s) i l) E U low_share h)

          below : {z e u : ℤ} → Within 1048576 z → Within 2 e → Within 1 u → ((z -ℤ f) *ℤ d) ≤ℤ high_share
              → binary ((z -ℤ f) *ℤ fine +ℤ e) 40 *F binary (d *ℤ fine +ℤ u) 40 ≤F binary (high_share *ℤ coarse +ℤ pos 2) 28
          below {z} {e} {u} Z E U h = product_below 40 40 28 52 refl ((z -ℤ f) *ℤ fine +ℤ e) (d *ℤ fine +ℤ u) (high_share *ℤ coarse +ℤ pos 2)
              (corner_below (z -ℤ f) d e u (ends_within Z) (within_at (direction_within g s) i l) E U high_share h)

          o : EndsBetween f d (at lo i) (at hi i) least greatest
          o = ordered_ends f d (box.order i l)

  -- ---- the three together
  abbrev along_box : ℕ → Interval
  along_box i = along_axis ar (linear_intervals ar (numbers g)) i (box_at w i)

  abbrev shares : Interval
  shares = sum ar (sum ar (sum ar zero (along_box 0)) (along_box 1)) (along_box 2)

  -- each sum's operands have sizes
  one_sized : Sized 28 (sum ar zero (along_box 0))
  one_sized = sized (add_encloses ar tt zero_encloses (low_end (share_sized 0 (lit< tt))))

  two_sized : Sized 30 (sum ar (sum ar zero (along_box 0)) (along_box 1))
  two_sized = sized (add_encloses ar tt (low_end one_sized) (low_end (share_sized 1 (lit< tt))))

  shares_sized : Sized 32 shares
  shares_sized = sized (add_encloses ar tt (low_end two_sized) (low_end (share_sized 2 (lit< tt))))

  none : value (b64 0) ≈F binary (pos 0) 28
  none = ≈F_trans zero_value (record { eq = refl })

  one_near : Near 28 (pos 0 +ℤ low_share 0 *ℤ coarse) (pos 0 +ℤ high_share 0 *ℤ coarse) 4 (sum ar zero (along_box 0))
  one_near = sum_near tt (sized zero_encloses) (share_sized 0 (lit< tt)) tt (exact_near none none) (share_near 0 (lit< tt)) ar tt
      (sum_one low_within) (sum_one high_within)

  two_near : Near 28 (pos 0 +ℤ low_share 0 *ℤ coarse +ℤ low_share 1 *ℤ coarse) (pos 0 +ℤ high_share 0 *ℤ coarse +ℤ high_share 1 *ℤ coarse) 8
      (sum ar (sum ar zero (along_box 0)) (along_box 1))
  two_near = sum_near tt one_sized (share_sized 1 (lit< tt)) tt one_near (share_near 1 (lit< tt)) ar tt (sum_two low_within) (sum_two high_within)

  shares_near : Near 28 (least_along (numbers g) lo hi *ℤ coarse) (greatest_along (numbers g) lo hi *ℤ coarse) 12 shares
  unfolding least_along greatest_along least_corner greatest_corner dot minus linear_of
  shares_near = subst₂ (λ (a b : ℤ). Near 28 a b 12 shares)
      (gathered (low_share 0) (low_share 1) (low_share 2)) (gathered (high_share 0) (high_share 1) (high_share 2))
      (sum_near tt two_sized (share_sized 2 (lit< tt)) tt two_near (share_near 2 (lit< tt)) ar tt (sum_three low_within) (sum_three high_within))
    where
      gathered : (a b c : ℤ) → pos 0 +ℤ a *ℤ coarse +ℤ b *ℤ coarse +ℤ c *ℤ coarse ≡ (a +ℤ b +ℤ c) *ℤ coarse
      gathered a b c = ring 3 (λ a b c. lit (pos 0) ⊕ a ⊗ lit coarse ⊕ b ⊗ lit coarse ⊕ c ⊗ lit coarse) (λ a b c. (a ⊕ b ⊕ c) ⊗ lit coarse) tt
          (a ∷ b ∷ c ∷ [])

  -- ---- t
  module _ (apart : pos 0 <ℤ length_sq g) where
    length_within : Within 13194139533312 (length_sq g)
    length_within = record { abs = length_most g s apart }

    length_near : Near 28 (length_sq g *ℤ coarse) (length_sq g *ℤ coarse) 1 (from_rational (length_sq g) 1048576)
    length_near = fraction_near 24 (ratio (length_sq g) 1048576 (pow_pos 20)) tt tt (le_trans (length_most g s apart) (lit≤ tt))
        (record { eq = ring 1 (λ l. l ⊗ lit (pos 268435456)) (λ l. l ⊗ lit coarse ⊗ lit (pos 1048576)) tt (length_sq g ∷ []) })
        (within_mul length_within (within_self coarse)) tt

    abbrev t : Interval
    t = parameter ar (linear_intervals ar (numbers g)) w

    abbrev least_along_lem : ℤ
    least_along_lem = least_along (numbers g) lo hi

    abbrev greatest_along_lem : ℤ
    greatest_along_lem = greatest_along (numbers g) lo hi

    -- where the ends compare so with z of the units that a quotient is taken in
    module _ (z : ℤ) (r : Within most_units z) where
      high_by : ((u : ℤ) → Within 1 u → over greatest_along_lem ≤ℤ (z *ℤ (length_sq g *ℤ coarse +ℤ u))) → value t.hi ≤F binary (z +ℤ pos 1) 45
      unfolding parameter parameter_of linear_intervals linear_of
      high_by h = quotient_high 21 tt shares_sized (sized (length_encloses g s apart)) (length_apart g s apart) shares_near length_near 45 tt r
          (h (negsuc 0) (within_self (negsuc 0))) (h (pos 1) (within_self (pos 1)))

      low_by : ((u : ℤ) → Within 1 u → (z *ℤ (length_sq g *ℤ coarse +ℤ u)) ≤ℤ under least_along_lem) → binary (z -ℤ pos 1) 45 ≤F value t.lo
      unfolding parameter parameter_of linear_intervals linear_of
      low_by h = quotient_low 21 tt shares_sized (sized (length_encloses g s apart)) (length_apart g s apart) shares_near length_near 45 tt r
          (h (negsuc 0) (within_self (negsuc 0))) (h (pos 1) (within_self (pos 1)))

    -- THE FACTS
    pub high_zero : greatest_along_lem <ℤ pos 0 → value t.hi ≤F zero_f
    high_zero h = ≤F_trans (high_by (negsuc 0) (record { abs = lit≤ tt }) (λ u U. below_zero greatest_along_lem (length_sq g) u U length_within h))
        (≈F_le (record { eq = refl }))

    pub high_one : greatest_along_lem <ℤ length_sq g → value t.hi ≤F one_f
    high_one h = ≤F_trans (high_by (pos 35184372088831) (record { abs = lit≤ tt }) (λ u U. below_length greatest_along_lem (length_sq g) u U length_within h))
        (≈F_le (record { eq = refl }))

    pub low_zero : pos 0 <ℤ least_along_lem → zero_f ≤F value t.lo
    low_zero h = ≤F_trans (≈F_le (record { eq = refl }))
        (low_by (pos 1) (record { abs = lit≤ tt }) (λ u U. above_zero least_along_lem (length_sq g) u U length_within h))

    pub low_one : length_sq g <ℤ least_along_lem → one_f ≤F value t.lo
    low_one h = ≤F_trans (≈F_le (record { eq = refl }))
        (low_by (pos 35184372088833) (record { abs = lit≤ tt }) (λ u U. above_length least_along_lem (length_sq g) u U length_within h))
