-- `residual` by the level: of any surface that `expansion` holds less an affine level, it holds the surface less the level at p. For the pieces
-- Start (a constant level's too), Ramp and End, and across the anchor planes. Assumes nothing.
use mathlib.Core.List.{List, [], ◌∷◌}
use Prim.Native.Nat.{ℕ, ◌<◌}
use lib.Dec.{lit<}
use lib.IntN.{pos}
use Rattle.std.specs.Prelude.{Option, Some, None}
use Rattle.exact.specs.Fraction.{Fraction, zero_f, ◌+F◌, ◌-F◌, ◌*F◌, ◌≈F◌}
use Rattle.exact.proofs.Ring.{lit, ◌⊕◌, ◌⊖◌, ◌⊗◌}
use Rattle.exact.proofs.FractionRing.{ring_f}
use Rattle.exact.proofs.Fraction.{≈F_refl, ≈F_sym, ≈F_trans, comm_f, add_cong_f, sub_cong_f, over_cong, over_add, over_mul}
use Rattle.interval.specs.declared.Interval.{Interval}
use Rattle.interval.specs.Encloses.{◌∈◌}
use Rattle.interval.specs.Interval.{Arithmetic}
use Rattle.interval.proofs.Membership.{In, equal_encloses, wider, zero_encloses}
use Rattle.interval.proofs.Encloses.{sub_encloses}
use Rattle.grade.specs.declared.GradeDef.{GradeDef}
use Rattle.grade.specs.declared.Piece.{Piece}
use Rattle.grade.specs.Grade.{Point, level}
use Rattle.grade.specs.Exact.{compiled}
use Rattle.grade.specs.Intervals.{grade_intervals, box_at, zero, zeros, interval, affine, piece_gradient, piece}
use Rattle.grade.specs.Holds.{SaysLevel}
use Rattle.grade.specs.Extended.{affine_level, slope, piece_slope, in_units}
use Rattle.grade.proofs.PieceLaws.{ramp_affine}
use Rattle.grade.proofs.IntervalLaws.{interval_encloses, affine_encloses, piece_says}
use Rattle.grade.proofs.SlopeLaws.{zeros_at, piece_gradient_encloses, affine_about}
use Rattle.gyroid.specs.declared.Description.{Description}
use Rattle.gyroid.specs.Leaf.{leaf}
use Rattle.gyroid.specs.Residual.{centre, expansion, less_level, residual_on, residual}
use Rattle.gyroid.proofs.AcceptedLaws.{Passed}
use Rattle.gyroid.proofs.SecondOrder.{expanded_at}
use Rattle.gyroid.proofs.ExpansionLaws.{HoldsIn, Expands}

-- a residual that is an enclosure holds a fraction
abbrev pub Has : Option Interval → Fraction → Type 0
Has (Some v) q = q ∈ v
Has None q = Unit {0}

pub equal_has : (a b : Fraction) → a ≈F b → (r : Option Interval) → Has r a → Has r b
equal_has a b e (Some v) h = equal_encloses e h
equal_has a b e None h = tt

unsized : (a : Fraction) (r : Option Interval) → HoldsIn r a → Has r a
unsized a (Some v) h = h.has
unsized a None h = tt

module _ (ar : Arithmetic) where
  less_has : (a b u : Fraction) {U : Interval} → a -F u ≈F b → (r : Option Interval) → HoldsIn r a → In 100 u U → Has (less_level ar r U) b
  less_has a b u e (Some v) h k = equal_encloses e (sub_encloses ar tt h k).has
  less_has a b u e None h k = tt

  module _
      (d : Description) (passed : Passed d) (w : List Interval) (p m : Point)
      (p-in : (i : ℕ) → i < 3 → In 40 (in_units (p i)) (box_at w i))
      (m-in : (i : ℕ) → i < 3 → In 40 (in_units (m i)) (box_at w i))
      (centre_in : (i : ℕ) → i < 3 → In 40 (in_units (m i)) (box_at (centre w) i))
      (v e : Fraction) (steep : ℕ → Fraction)
      (holds : Expands ar (leaf ar d) w v steep e (λ i. in_units (p i -F m i)))
    where
      abbrev o : ℕ → Fraction
      o i = in_units (p i -F m i)

      -- the surface about the centre, to second order
      abbrev pub surface : Fraction
      surface = v +F (steep 0 *F o 0 +F steep 1 *F o 1 +F steep 2 *F o 2) +F e

      -- ---- THE REGROUPING: a level that is l + s · (p − m) goes into the expansion
      affine_case : (l u : Fraction) (s : ℕ → Fraction) (L : Interval) (S : List Interval) → u ≈F l +F (s 0 *F o 0 +F s 1 *F o 1 +F s 2 *F o 2) → In 100 l L
          → ((i : ℕ) → i < 3 → In 100 (s i) (box_at S i)) → Has (expansion ar (leaf ar d) w L S) (surface -F u)
      affine_case l u s L S q level slope = equal_has (expanded_at v steep e l s o) (surface -F u) (≈F_trans
          (ring_f 12 (λ v l e d0 d1 d2 s0 s1 s2 x y z. v ⊖ l ⊕ ((d0 ⊖ s0) ⊗ x ⊕ (d1 ⊖ s1) ⊗ y ⊕ (d2 ⊖ s2) ⊗ z ⊕ e))
          (λ v l e d0 d1 d2 s0 s1 s2 x y z. v ⊕ (d0 ⊗ x ⊕ d1 ⊗ y ⊕ d2 ⊗ z) ⊕ e ⊖ (l ⊕ (s0 ⊗ x ⊕ s1 ⊗ y ⊕ s2 ⊗ z))) tt
          (v ∷ l ∷ e ∷ steep 0 ∷ steep 1 ∷ steep 2 ∷ s 0 ∷ s 1 ∷ s 2 ∷ o 0 ∷ o 1 ∷ o 2 ∷ []))
          (sub_cong_f (≈F_refl surface) (≈F_sym q))) (expansion ar (leaf ar d) w L S)
          (unsized (expanded_at v steep e l s o) (expansion ar (leaf ar d) w L S) (holds l s L S level slope))

      -- without a slope
      abbrev flat : ℕ → Fraction
      flat i = zero_f

      flat_in : (i : ℕ) → i < 3 → In 100 (flat i) (box_at zeros i)
      flat_in i b = wider 100 tt (zeros_at i b)

      unsloped : (l x : Fraction) → x ≈F l → x ≈F l +F (flat 0 *F o 0 +F flat 1 *F o 1 +F flat 2 *F o 2)
      unsloped l x q = ≈F_trans q (ring_f 4 (λ l x y z. l) (λ l x y z. l ⊕ (lit (pos 0) ⊗ x ⊕ lit (pos 0) ⊗ y ⊕ lit (pos 0) ⊗ z)) tt (l ∷ o 0 ∷ o 1 ∷ o 2 ∷ []))

      -- ---- the level
      abbrev u : Fraction
      u = in_units (level d.level p)

      abbrev C : GradeDef
      C = compiled d.level

      slope_in : (a : Piece) (i : ℕ) → i < 3 → In 100 (piece_slope d.level a i) (box_at (piece_gradient (grade_intervals ar C) a) i)
      slope_in = piece_gradient_encloses ar d.level passed.level passed.apart

      range_in : In 100 u (interval ar (grade_intervals ar C) w)
      range_in = interval_encloses ar d.level passed.level passed.apart p w p-in

      -- the same at p and at the centre
      same_level : (S : List Interval) → ((i : ℕ) → i < 3 → In 100 (flat i) (box_at S i)) → level d.level p ≈F level d.level m
          → Has (expansion ar (leaf ar d) w (interval ar (grade_intervals ar C) (centre w)) S) (surface -F u)
      same_level S s q = affine_case (in_units (level d.level m)) u flat (interval ar (grade_intervals ar C) (centre w)) S
          (unsloped (in_units (level d.level m)) u (over_cong (lit< tt) q))
          (interval_encloses ar d.level passed.level passed.apart m (centre w) centre_in) s

      -- on a ramp, about the centre
      abbrev rise : ℕ → Fraction
      rise i = slope d.level i *F (p i -F m i)

      ramp_about : level d.level p ≈F affine_level d.level p
          → u ≈F in_units (affine_level d.level m) +F (slope d.level 0 *F o 0 +F slope d.level 1 *F o 1 +F slope d.level 2 *F o 2)
      ramp_about q = ≈F_trans (over_cong (lit< tt) (≈F_trans q (affine_about d.level passed.apart p m)))
          (≈F_trans (over_add (affine_level d.level m) (rise 0 +F rise 1 +F rise 2) (lit< tt))
          (add_cong_f (≈F_refl (in_units (affine_level d.level m)))
          (≈F_trans (over_add (rise 0 +F rise 1) (rise 2) (lit< tt))
          (add_cong_f (≈F_trans (over_add (rise 0) (rise 1) (lit< tt)) (add_cong_f (along 0) (along 1))) (along 2)))))
        where
          along : (i : ℕ) → in_units (rise i) ≈F slope d.level i *F o i
          along i = ≈F_trans (over_cong (lit< tt) (comm_f (slope d.level i) (p i -F m i)))
              (≈F_trans (over_mul (p i -F m i) (slope d.level i) (lit< tt)) (comm_f (o i) (slope d.level i)))

      -- across an anchor plane
      across_case : Has (less_level ar (expansion ar (leaf ar d) w zero zeros) (interval ar (grade_intervals ar C) w)) (surface -F u)
      across_case = less_has (expanded_at v steep e zero_f flat o) (surface -F u) u
          (sub_cong_f (ring_f 8 (λ v e x y z a b c. v ⊖ lit (pos 0) ⊕ ((x ⊖ lit (pos 0)) ⊗ a ⊕ (y ⊖ lit (pos 0)) ⊗ b ⊕ (z ⊖ lit (pos 0)) ⊗ c ⊕ e))
          (λ v e x y z a b c. v ⊕ (x ⊗ a ⊕ y ⊗ b ⊕ z ⊗ c) ⊕ e) tt (v ∷ e ∷ steep 0 ∷ steep 1 ∷ steep 2 ∷ o 0 ∷ o 1 ∷ o 2 ∷ [])) (≈F_refl u))
          (expansion ar (leaf ar d) w zero zeros) (holds zero_f flat zero zeros (wider 100 tt zero_encloses) flat_in) range_in

      piece_case : (a : Option Piece) → SaysLevel d.level p a → SaysLevel d.level m a → Has (residual_on ar a (leaf ar d) w) (surface -F u)
      unfolding leaf
      piece_case (Some Piece.Start) h k = same_level (piece_gradient (grade_intervals ar C) Piece.Start) (slope_in Piece.Start)
          (≈F_trans h (≈F_sym k))
      piece_case (Some Piece.Ramp) h k = affine_case (in_units (affine_level d.level m)) u (slope d.level)
          (affine ar (grade_intervals ar C) (centre w)) (piece_gradient (grade_intervals ar C) Piece.Ramp) (ramp_about (ramp_affine d.level p h))
          (affine_encloses ar d.level passed.level passed.apart m (centre w) centre_in) (slope_in Piece.Ramp)
      piece_case (Some Piece.End) h k = same_level (piece_gradient (grade_intervals ar C) Piece.End) (slope_in Piece.End) (≈F_trans h (≈F_sym k))
      piece_case None h k = across_case

      -- THE FACT
      pub residual_has : Has (residual ar (leaf ar d) w) (surface -F u)
      unfolding residual leaf
      residual_has = piece_case (piece ar (grade_intervals ar C) w) (piece_says ar d.level passed.level passed.apart p w p-in)
          (piece_says ar d.level passed.level passed.apart m w m-in)
