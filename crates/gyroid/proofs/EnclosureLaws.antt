-- THE ENCLOSURE: of an accepted description and a box of whole ticks within the limits, what `residual` answers holds every admitted residual
-- at every rational point of the box; so `box_state` marks it inside only where all are below zero, and outside only where all are above.
-- Assumes nothing.
use mathlib.Core.Bool.{Bool, true, false, cond}
use mathlib.Core.List.{List, [], ◌∷◌}
use Prim.Native.Nat.{ℕ, ◌<◌}
use lib.Dec.{T, lit<}
use lib.IntN.{ℤ}
use lib.Ieee.{lt}
use Rattle.std.specs.Prelude.{Option, Some, None}
use Rattle.exact.specs.Fraction.{Fraction, ◌+F◌, ◌-F◌, ◌*F◌, ◌≈F◌}
use Rattle.exact.proofs.Ring.{◌⊕◌, ◌⊗◌}
use Rattle.exact.proofs.FractionRing.{ring_f}
use Rattle.exact.proofs.Fraction.{≈F_refl, ≈F_trans, add_cong_f, sub_cong_f, mul_cong_f}
use Rattle.interval.specs.declared.Interval.{Interval}
use Rattle.interval.specs.Step.{b64}
use Rattle.interval.specs.Interval.{Arithmetic}
use Rattle.interval.proofs.Membership.{In, wider, above_zero, below_zero}
use Rattle.limits.specs.Ticks.{ticks}
use Rattle.grade.specs.Grade.{Point, level}
use Rattle.grade.specs.Intervals.{box_at}
use Rattle.grade.specs.Fits.{Within3}
use Rattle.grade.specs.Holds.{InBox}
use Rattle.grade.specs.Extended.{in_units}
use Rattle.grade.proofs.EntryLaws.{ticks_within}
use Rattle.grade.proofs.Axes.{three}
use Rattle.gyroid.specs.declared.Description.{Description}
use Rattle.gyroid.specs.declared.State.{State}
use Rattle.gyroid.specs.Fits.{Accepted}
use Rattle.gyroid.specs.Leaf.{leaf}
use Rattle.gyroid.specs.Residual.{centre, residual, state_of, box_state}
use Rattle.gyroid.specs.Admitted.{centre_at, ends, tick_box, Chosen, wave, g, factor, admitted}
use Rattle.gyroid.specs.Settles.{Holds, Settles}
use Rattle.gyroid.proofs.AcceptedLaws.{Passed, accepted}
use Rattle.gyroid.proofs.CentreLaws.{centre_in, point_in, centre_above, centre_below}
use Rattle.gyroid.proofs.JetLaws.{per_millimetre, same_wave, jet_holds}
use Rattle.gyroid.proofs.BracketLaws.{term_holds}
use Rattle.gyroid.proofs.ExpansionLaws.{Expands, expansion_holds}
use Rattle.gyroid.proofs.ResidualLaws.{Has, equal_has, residual_has}

module _ (ar : Arithmetic) where
  module _ (d : Description) (passed : Passed d) (lo hi : List ℤ) (low-in : Within3 1048576 lo) (high-in : Within3 1048576 hi) where
    -- ---- the box and its centre in millimetres hold the point and the exact centre
    box_in : (p : Point) → InBox lo hi p → (i : ℕ) → i < 3 → In 40 (in_units (p i)) (box_at (tick_box lo hi) i)
    box_in p inside = three (λ i. In 40 (in_units (p i)) (box_at (tick_box lo hi) i)) (entry 0 (lit< tt)) (entry 1 (lit< tt)) (entry 2 (lit< tt))
      where
        entry : (i : ℕ) → i < 3 → In 40 (in_units (p i)) (ends lo hi i)
        entry i b = wider 40 tt (point_in lo hi low-in high-in i b p inside)

    middle_in : (i : ℕ) → i < 3 → In 40 (in_units (centre_at lo hi i)) (box_at (centre (tick_box lo hi)) i)
    unfolding centre
    middle_in = three (λ i. In 40 (in_units (centre_at lo hi i)) (box_at (centre (tick_box lo hi)) i)) (wider 40 tt (centre_in lo hi low-in high-in 0 (lit< tt)))
        (wider 40 tt (centre_in lo hi low-in high-in 1 (lit< tt))) (wider 40 tt (centre_in lo hi low-in high-in 2 (lit< tt)))

    module _ (h : Chosen d lo hi) (p : Point) (inside : InBox lo hi p) where
      centre_inside : InBox lo hi (centre_at lo hi)
      centre_inside = record { above = λ i b. centre_above lo hi low-in high-in i b p inside; below = λ i b. centre_below lo hi low-in high-in i b p inside }

      abbrev f : ℕ → Fraction
      f = factor d lo hi h

      abbrev o : ℕ → Fraction
      o i = in_units (p i -F centre_at lo hi i)

      abbrev k : Fraction
      k = h.w *F per_millimetre d passed.above

      -- what the residual holds, per millimetre; in ticks it is the admitted residual
      abbrev form : Fraction
      form = g d lo hi h +F (f 0 *F k *F o 0 +F f 1 *F k *F o 1 +F f 2 *F k *F o 2) +F h.e -F in_units (level d.level p)

      in_ticks : form ≈F admitted d lo hi h p
      unfolding admitted
      in_ticks = sub_cong_f (add_cong_f (add_cong_f (≈F_refl (g d lo hi h))
          (≈F_trans (ring_f 7 (λ k x y z a b c. x ⊗ k ⊗ a ⊕ y ⊗ k ⊗ b ⊕ z ⊗ k ⊗ c) (λ k x y z a b c. x ⊗ (k ⊗ a) ⊕ y ⊗ (k ⊗ b) ⊕ z ⊗ (k ⊗ c)) tt
          (k ∷ f 0 ∷ f 1 ∷ f 2 ∷ o 0 ∷ o 1 ∷ o 2 ∷ []))
          (≈F_trans (add_cong_f (add_cong_f (step 0) (step 1)) (step 2))
          (ring_f 7 (λ k x y z a b c. x ⊗ (k ⊗ a) ⊕ y ⊗ (k ⊗ b) ⊕ z ⊗ (k ⊗ c)) (λ k x y z a b c. k ⊗ (x ⊗ a ⊕ y ⊗ b ⊕ z ⊗ c)) tt
          (wave d lo hi h.w ∷ f 0 ∷ f 1 ∷ f 2 ∷ (p 0 -F centre_at lo hi 0) ∷ (p 1 -F centre_at lo hi 1) ∷ (p 2 -F centre_at lo hi 2) ∷ []))))) (≈F_refl h.e))
          (≈F_refl (in_units (level d.level p)))
        where
          step : (i : ℕ) → f i *F (k *F o i) ≈F f i *F (wave d lo hi h.w *F (p i -F centre_at lo hi i))
          step i = mul_cong_f (≈F_refl (f i)) (same_wave d passed.above h.w (p i -F centre_at lo hi i))

      expands : Expands ar (leaf ar d) (tick_box lo hi) (g d lo hi h) (λ i. f i *F k) h.e o
      unfolding leaf
      expands = expansion_holds ar (leaf ar d) lo hi low-in high-in p inside (g d lo hi h) h.e (λ i. f i *F k)
          (jet_holds ar d passed.above lo hi low-in high-in h) (term_holds ar d passed.above lo hi low-in high-in h p inside)

      admitted_has : Has (residual ar (leaf ar d) (tick_box lo hi)) (admitted d lo hi h p)
      admitted_has = equal_has form (admitted d lo hi h p) in_ticks (residual ar (leaf ar d) (tick_box lo hi))
          (residual_has ar d passed (tick_box lo hi) p (centre_at lo hi) (box_in p inside) (box_in (centre_at lo hi) centre_inside) middle_in
          (g d lo hi h) h.e (λ i. f i *F k) expands)

  -- ---- THE THEOREM
  module _ (d : Description) (none : Accepted d) (lo hi : List ℤ) (low-ticks : T (ticks lo)) (high-ticks : T (ticks hi)) where
    pub residual_holds : Holds d lo hi (residual ar (leaf ar d) (tick_box lo hi))
    residual_holds = go (residual ar (leaf ar d) (tick_box lo hi))
        (λ p inside h. admitted_has d (accepted d none.none).0 lo hi (ticks_within lo low-ticks) (ticks_within hi high-ticks) h p inside)
      where
        go : (r : Option Interval) → ((p : Point) → InBox lo hi p → (h : Chosen d lo hi) → Has r (admitted d lo hi h p)) → Holds d lo hi r
        go (Some v) f = f
        go None f = tt

    -- and so the two signs
    pub state_settles : Settles d lo hi (box_state ar (leaf ar d) (tick_box lo hi))
    unfolding box_state
    state_settles = go (residual ar (leaf ar d) (tick_box lo hi)) residual_holds
      where
        by_sign : (v : Interval) → Holds d lo hi (Some v) → (a b : Bool) → (T a → T (lt (b64 0) v.lo)) → (T b → T (lt v.hi (b64 0)))
            → Settles d lo hi (cond a State.Outside (cond b State.Inside State.Unsettled))
        by_sign v f true b s t = λ p inside h. above_zero (s tt) (f p inside h)
        by_sign v f false true s t = λ p inside h. below_zero (t tt) (f p inside h)
        by_sign v f false false s t = tt

        go : (r : Option Interval) → Holds d lo hi r → Settles d lo hi (state_of r)
        go (Some v) f = by_sign v f (lt (b64 0) v.lo) (lt v.hi (b64 0)) (λ t. t) (λ t. t)
        go None f = tt
