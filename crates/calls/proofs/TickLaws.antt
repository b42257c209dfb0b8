-- A BOX OF WHOLE TICKS IN DOUBLES PASSES 9 AND 10: within document 01's limits, with no low above its high, its ends are ordered and far below
-- 2^40. So what the public calls answer over it, of an accepted description, is what the layer below says of the box of those ticks: neither
-- number refuses it, and a zero among its ends may have either sign. Assumes nothing.
use mathlib.Core.Path.{◌≡◌, refl, ap, ◌∙◌}
use mathlib.Core.Bool.{Bool, true, false, not, ◌&&◌, ◌||◌}
use mathlib.Core.List.{List, [], ◌∷◌}
use Prim.Native.Nat.{ℕ, ◌<◌}
use lib.Dec.{T, lit<, lit≤}
use lib.IntN.{ℤ}
use lib.Signed.{◌≤ℤ◌, lt_z, lt_z_no}
use lib.Ieee.{Float, neg, le, of_bits}
use lib.Ieee.Bits.{is_true}
use lib.Ieee.Fits.{and_i}
use Rattle.std.specs.Prelude.{Option}
use Rattle.exact.specs.Within.{Within}
use Rattle.exact.proofs.Fraction.{≤F_trans, ≈F_le, ≈F_ge, neg_mono_f, over_mono, whole_le}
use Rattle.interval.specs.declared.Interval.{Interval}
use Rattle.interval.specs.Interval.{ordered}
use Rattle.interval.specs.Encloses.{Small}
use Rattle.interval.proofs.Small.{double, double_value, small_abs, small_finite, small_more, finite_neg, value_neg}
use Rattle.interval.proofs.Compare.{value_le}
use Rattle.limits.specs.Ticks.{at, ticks, above}
use Rattle.limits.specs.Refusals.{◌or_else◌}
use Rattle.grade.specs.Said.{found, answered}
use Rattle.grade.specs.Intervals.{box_at}
use Rattle.grade.specs.InUse.{in_use}
use Rattle.grade.proofs.Axes.{three}
use Rattle.grade.proofs.AxisLaws.{within_at}
use Rattle.grade.proofs.EntryLaws.{not_either, ticks_within}
use Rattle.gyroid.specs.declared.Description.{Description}
use Rattle.gyroid.specs.declared.State.{State}
use Rattle.gyroid.specs.Refusals.{ends_within, all_finite}
use Rattle.gyroid.specs.Fits.{Accepted}
use Rattle.gyroid.specs.Residual.{state_number}
use Rattle.gyroid.specs.Admitted.{tick_box}
use Rattle.grade.specs.Holds.{AtTick, OfTicks}
use Rattle.gyroid.specs.InUse.{leaf, residual, box_state}
use Rattle.gyroid.proofs.AlikeLaws.{tick_small, residual_same, state_same}
use Rattle.calls.specs.Refusals.{farthest, near, all_ordered, all_near, box_refusal, finite_box_refusal}
use Rattle.calls.specs.Calls.{residual_values, residual_call, box_state_call}
use Rattle.calls.proofs.CallLaws.{residual_rows, state_rows}

and_false : (b : Bool) → (b && false) ≡ false
and_false true = refl
and_false false = refl

-- what no number refuses
answers : {A : Type 0} (v : List A) {m n : ℕ} → m ≡ 0 → n ≡ 0 → answered (m or_else n) v ≡ found v
answers v p q = λ i. answered (p i or_else q i) v

-- ---- two ends
tick_order : {x y : Float} {m n : ℤ} → AtTick x m → AtTick y n → m ≤ℤ n → T (le x y)
tick_order {x} {y} a b h =
    value_le x y a.finite b.finite (≤F_trans (≈F_le a.value) (≤F_trans (over_mono (lit< tt) (whole_le h)) (≈F_ge b.value)))

small_sized : (k : ℕ) (x : Float) → Small k x → T (le (neg (double k)) x) × T (le x (double k))
small_sized k x s =
    let a = small_abs k x s in
    let f = small_finite k x s in
    let low = ≤F_trans (≈F_le (value_neg (double k))) (≤F_trans (neg_mono_f (≈F_ge (double_value k))) a.low) in
    (value_le (neg (double k)) x (finite_neg (double k) tt) f low, value_le x (double k) f tt (≤F_trans a.high (≈F_ge (double_value k))))

tick_near : {x : Float} {z : ℤ} → Within 1048576 z → AtTick x z → T (le (neg farthest) x) × T (le x farthest)
unfolding of_bits
tick_near {x} h a = small_sized 40 x (small_more 10 40 x (lit≤ tt) (tick_small h a))

-- ---- a box
module _
    (lo hi : List ℤ) (low-ticks : T (ticks lo)) (high-ticks : T (ticks hi)) (order : T (not (above lo hi)))
    (w : List Interval) (h : OfTicks lo hi w) where
  in_order : (i : ℕ) → i < 3 → at lo i ≤ℤ at hi i
  in_order =
      let (xy, z) = not_either (lt_z (at hi 0) (at lo 0) || lt_z (at hi 1) (at lo 1)) (lt_z (at hi 2) (at lo 2)) order in
      let (x, y) = not_either (lt_z (at hi 0) (at lo 0)) (lt_z (at hi 1) (at lo 1)) xy in
      three (λ i. at lo i ≤ℤ at hi i) (lt_z_no x) (lt_z_no y) (lt_z_no z)

  end_order : (i : ℕ) → i < 3 → T (ordered (box_at w i))
  end_order i b = tick_order (h.lows i b) (h.highs i b) (in_order i b)

  end_near : (i : ℕ) → i < 3 → T (ends_within farthest (box_at w i))
  end_near i b =
      let l = (box_at w i).lo in
      let u = (box_at w i).hi in
      let (p, q) = tick_near (within_at (ticks_within lo low-ticks) i b) (h.lows i b) in
      let (r, s) = tick_near (within_at (ticks_within hi high-ticks) i b) (h.highs i b) in
      and_i (le (neg farthest) l && le l farthest && le (neg farthest) u) (le u farthest)
      (and_i (le (neg farthest) l && le l farthest) (le (neg farthest) u) (and_i (le (neg farthest) l) (le l farthest) p q) r) s

  every_i : (f : Interval → Bool) → ((i : ℕ) → i < 3 → T (f (box_at w i))) → T (f (box_at w 0) && f (box_at w 1) && f (box_at w 2))
  every_i f e =
      and_i (f (box_at w 0) && f (box_at w 1)) (f (box_at w 2)) (and_i (f (box_at w 0)) (f (box_at w 1)) (e 0 (lit< tt)) (e 1 (lit< tt))) (e 2 (lit< tt))

  all_ordered_lem : all_ordered w ≡ true
  unfolding all_ordered
  all_ordered_lem = is_true (all_ordered w) (every_i ordered end_order)

  near_all : all_near w ≡ true
  unfolding all_near near
  near_all = is_true (all_near w) (every_i (ends_within farthest) end_near)

  -- neither 9 nor 10
  pub ticks_box : box_refusal w ≡ 0
  unfolding box_refusal
  ticks_box = rw (all_ordered_lem, near_all) refl

  pub ticks_finite_box : finite_box_refusal w ≡ 0
  unfolding finite_box_refusal
  ticks_finite_box = rw (all_ordered_lem, near_all, and_false (all_finite w)) refl

  -- ---- what the public calls answer
  module _ (d : Description) (a : Accepted d) where
    pub residual_ticks : residual_call d w ≡ found (residual_values (residual (leaf d) (tick_box lo hi)))
    residual_ticks =
        residual_rows d w ∙ answers (residual_values (residual (leaf d) w)) a.none ticks_finite_box
        ∙ ap (λ (r : Option Interval). found (residual_values r)) (residual_same in_use d a lo hi low-ticks high-ticks w h)

    pub box_state_ticks : box_state_call d w ≡ found (state_number (box_state (leaf d) (tick_box lo hi)) ∷ [])
    box_state_ticks =
        state_rows d w ∙ answers (state_number (box_state (leaf d) w) ∷ []) a.none ticks_finite_box
        ∙ ap (λ (s : State). found (state_number s ∷ [])) (state_same in_use d a lo hi low-ticks high-ticks w h)
