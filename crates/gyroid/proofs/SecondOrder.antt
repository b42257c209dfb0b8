-- THE SECOND-ORDER STEP, of any surface: from what a value's, a gradient's, a level's and a slope's intervals hold, offsets within the
-- radii, and a term of second order. The operations enter by their laws alone. Assumes nothing.
use mathlib.Core.List.{List, [], ◌∷◌}
use Prim.Native.Nat.{ℕ, ◌<◌}
use lib.Dec.{lit<}
use lib.IntN.{pos}
use Rattle.exact.specs.Fraction.{Fraction, zero_f, ◌+F◌, ◌-F◌, ◌*F◌, ◌≈F◌, AbsF}
use Rattle.exact.proofs.Ring.{lit, ◌⊕◌}
use Rattle.exact.proofs.FractionRing.{ring_f}
use Rattle.exact.proofs.Fraction.{≤F_trans, ≈F_ge}
use Rattle.exact.proofs.FractionSize.{abs_add, abs_mul, abs_wider}
use Rattle.interval.specs.declared.Interval.{Interval}
use Rattle.interval.specs.Interval.{Arithmetic, sum, difference, magnitude}
use Rattle.interval.specs.Encloses.{value}
use Rattle.interval.proofs.Membership.{In, high, point_encloses, zero_encloses}
use Rattle.interval.proofs.Encloses.{add_encloses, sub_encloses, mul_encloses}
use Rattle.interval.proofs.Bounds.{magnitude_small, magnitude_bounds, symmetric_encloses}
use Rattle.grade.specs.Intervals.{box_at}
use Rattle.gyroid.specs.Turn.{symmetric}
use Rattle.gyroid.specs.Jet.{minus}
use Rattle.gyroid.specs.Residual.{reach, spread}

-- a surface about the centre, to second order, less a level l with the slope s
abbrev pub expanded_at : Fraction → (ℕ → Fraction) → Fraction → Fraction → (ℕ → Fraction) → (ℕ → Fraction) → Fraction
expanded_at v d e l s o = v -F l +F ((d 0 -F s 0) *F o 0 +F (d 1 -F s 1) *F o 1 +F (d 2 -F s 2) *F o 2 +F e)

module _
    (ar : Arithmetic) (v l e R : Fraction) (d s o r : ℕ → Fraction)
    (X L Q : Interval) (G S W : List Interval)
    (value_in : In 100 v X) (gradient-in : (i : ℕ) → i < 3 → In 100 (d i) (box_at G i))
    (level_in : In 100 l L) (slope_in : (i : ℕ) → i < 3 → In 100 (s i) (box_at S i))
    (radius_in : (i : ℕ) → i < 3 → In 20 (r i) (box_at W i)) (within : (i : ℕ) → i < 3 → AbsF (o i) (r i))
    (term_in : In 100 R Q) (second : AbsF e R)
  where
    -- the gradient less the slope, and the larger size of its ends
    steep : (i : ℕ) → i < 3 → In 102 (d i -F s i) (difference ar (box_at G i) (box_at S i))
    steep i b = sub_encloses ar tt (gradient-in i b) (slope_in i b)

    abbrev steepest : ℕ → Fraction
    steepest i = value (magnitude (difference ar (box_at G i) (box_at S i)))

    reach_in : (i : ℕ) → i < 3 → In 123 (steepest i *F r i) (reach (difference ar (box_at G i) (box_at S i)) (box_at W i))
    unfolding reach
    reach_in i b =
        mul_encloses {j = 102} tt (point_encloses (magnitude (difference ar (box_at G i) (box_at S i))) (magnitude_small (steep i b))) (radius_in i b)

    bound_in : In 131 (zero_f +F steepest 0 *F r 0 +F steepest 1 *F r 1 +F steepest 2 *F r 2 +F R) (sum ar (spread ar (minus ar G S) W) Q)
    unfolding spread minus
    bound_in =
        add_encloses ar tt (add_encloses ar tt (add_encloses ar tt (add_encloses ar tt zero_encloses (reach_in 0 (lit< tt))) (reach_in 1 (lit< tt)))
        (reach_in 2 (lit< tt))) term_in

    reached : (i : ℕ) → i < 3 → AbsF ((d i -F s i) *F o i) (steepest i *F r i)
    reached i b = abs_mul (magnitude_bounds (steep i b)) (within i b)

    bounded : AbsF ((d 0 -F s 0) *F o 0 +F (d 1 -F s 1) *F o 1 +F (d 2 -F s 2) *F o 2 +F e) (value (sum ar (spread ar (minus ar G S) W) Q).hi)
    bounded = abs_wider (abs_add (abs_add (abs_add (reached 0 (lit< tt)) (reached 1 (lit< tt))) (reached 2 (lit< tt))) second) (≤F_trans (≈F_ge gathered) (high bound_in))
      where
        gathered : zero_f +F steepest 0 *F r 0 +F steepest 1 *F r 1 +F steepest 2 *F r 2 +F R ≈F steepest 0 *F r 0 +F steepest 1 *F r 1 +F steepest 2 *F r 2 +F R
        gathered = ring_f 4 (λ x y z q. lit (pos 0) ⊕ x ⊕ y ⊕ z ⊕ q) (λ x y z q. x ⊕ y ⊕ z ⊕ q) tt ((steepest 0 *F r 0) ∷ (steepest 1 *F r 1) ∷ (steepest 2 *F r 2) ∷ R ∷ [])

    pub second_order_lem : In 133 (expanded_at v d e l s o) (sum ar (difference ar X L) (symmetric (sum ar (spread ar (minus ar G S) W) Q).hi))
    second_order_lem = add_encloses ar {k = 131} tt (sub_encloses ar tt value_in level_in)
        (symmetric_encloses (sum ar (spread ar (minus ar G S) W) Q).hi bound_in.small_hi bounded)
