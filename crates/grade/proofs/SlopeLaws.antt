-- The slope of the level's affine extension: the gradient's intervals hold it, and the extension is affine with that slope. Assumes nothing.
use mathlib.Core.Path.{◌≡◌, refl, sym, ap, ◌∙◌, subst}
use mathlib.Core.Bool.{Bool, true, false, cond, not, ◌&&◌}
use mathlib.Core.List.{[], ◌∷◌}
use Prim.Native.Nat.{ℕ, ◌*◌, ◌≤◌, ◌<◌}
use native.Mathlib.Nat.{le_trans}
use native.Mathlib.Omega.{arith}
use lib.Dec.{T}
use lib.IntN.{ℤ, pos, nat_abs, ◌-ℤ◌, ◌*ℤ◌, *ℤ-zero}
use Rattle.exact.specs.Fraction.{Fraction, ratio, whole, zero_f, ◌+F◌, ◌-F◌, ◌*F◌, ◌/F◌, ◌≈F◌}
use Rattle.exact.proofs.Size.{within_sub, within_mul}
use Rattle.exact.proofs.Ring.{lit, ◌⊕◌, ◌⊖◌, ◌⊗◌}
use Rattle.exact.proofs.FractionRing.{ring_f}
use Rattle.exact.proofs.Fraction.{≈F_refl, ≈F_sym, ≈F_trans, add_cong_f, mul_cong_f, over_is, over_zero, over_whole, whole_mul}
use Rattle.interval.specs.Interval.{Arithmetic}
use Rattle.interval.proofs.Membership.{In, equal_in, wider, zero_encloses}
use Rattle.interval.proofs.Encloses.{fraction_encloses}
use Rattle.grade.specs.declared.Grade.{Grade}
use Rattle.grade.specs.declared.Piece.{Piece}
use Rattle.grade.specs.declared.Piece.TheVariants.{Start, Ramp, End}
use Rattle.limits.specs.Ticks.{at}
use Rattle.grade.specs.Grade.{eq_z, is_linear, direction, length_sq, Point, along, t}
use Rattle.grade.specs.Exact.{linear_of, numbers, compiled}
use Rattle.grade.specs.Refusals.{coincident}
use Rattle.grade.specs.Fits.{InLimits}
use Rattle.grade.specs.Intervals.{slopes, slope_along, linear_intervals, grade_intervals, box_at, zeros, gradient, piece_gradient}
use Rattle.grade.specs.Extended.{affine_level, slope, piece_slope}
use Rattle.grade.proofs.Axes.{three}
use Rattle.grade.proofs.EntryLaws.{sizes}
use Rattle.grade.proofs.Sizes.{minus_within}
use Rattle.grade.proofs.AxisLaws.{within_at}
use Rattle.grade.proofs.Accepted.{linear_apart, by_kind}
use Rattle.grade.proofs.LevelLaws.{ramp_cong, rise_zero, affine_linear, affine_flat, length_pos}

-- ---- by the kind
slope_linear : (g : Grade) (i : ℕ) → T (is_linear g) → slope g i ≡ whole (at (direction g) i *ℤ (g.end -ℤ g.start)) /F nat_abs (length_sq g)
unfolding slope
slope_linear g i l = go (is_linear g) l
  where
    go : (b : Bool) → T b → cond b (whole (at (direction g) i *ℤ (g.end -ℤ g.start)) /F nat_abs (length_sq g)) zero_f ≡ whole (at (direction g) i *ℤ (g.end -ℤ g.start)) /F nat_abs (length_sq g)
    go true u = refl
    go false u = absurd u

slope_flat : (g : Grade) (i : ℕ) → T (not (coincident g)) → T (not (is_linear g && not (eq_z g.start g.end))) → slope g i ≈F zero_f
unfolding slope
slope_flat g i apart u = go (is_linear g) (eq_z g.start g.end) refl refl u
  where
    level_slope : T (is_linear g) → T (eq_z g.start g.end) → whole (at (direction g) i *ℤ (g.end -ℤ g.start)) /F nat_abs (length_sq g) ≈F zero_f
    level_slope l e = subst (λ (z : ℤ). whole z /F nat_abs (length_sq g) ≈F zero_f) (sym (ap (λ (r : ℤ). at (direction g) i *ℤ r) (rise_zero g e) ∙ *ℤ-zero (at (direction g) i))) (over_zero (length_pos g (linear_apart g l apart)))

    go : (b c : Bool) → is_linear g ≡ b → eq_z g.start g.end ≡ c → T (not (b && not c)) → cond b (whole (at (direction g) i *ℤ (g.end -ℤ g.start)) /F nat_abs (length_sq g)) zero_f ≈F zero_f
    go false c p q u = ≈F_refl zero_f
    go true false p q u = absurd u
    go true true p q u = level_slope (subst T (sym p) tt) (subst T (sym q) tt)

-- ---- in intervals
slopes_at : (g : Grade) (i : ℕ) → i < 3 → box_at (slopes (numbers g)) i ≡ slope_along (numbers g) (at (direction g) i)
unfolding linear_of
slopes_at g = three (λ i. box_at (slopes (numbers g)) i ≡ slope_along (numbers g) (at (direction g) i)) refl refl refl

pub zeros_at : (i : ℕ) → i < 3 → In 0 zero_f (box_at zeros i)
zeros_at = three (λ i. In 0 zero_f (box_at zeros i)) zero_encloses zero_encloses zero_encloses

-- ---- affine about any point
module _ (g : Grade) (l : T (is_linear g)) (apart : T (not (coincident g))) where
  N : 0 < nat_abs (length_sq g)
  N = length_pos g (linear_apart g l apart)

  -- with one over L as a factor
  extended : (p : Point) → affine_level g p ≈F whole g.start +F along g.from (direction g) p *F ratio (pos 1) (nat_abs (length_sq g)) N *F whole (g.end -ℤ g.start)
  unfolding t
  extended p = subst (λ (q : Fraction). q ≈F whole g.start +F along g.from (direction g) p *F ratio (pos 1) (nat_abs (length_sq g)) N *F whole (g.end -ℤ g.start)) (sym (affine_linear g p l))
      (ramp_cong g (over_is (along g.from (direction g) p) N))

  sloped : (i : ℕ) → slope g i ≈F whole (at (direction g) i) *F whole (g.end -ℤ g.start) *F ratio (pos 1) (nat_abs (length_sq g)) N
  sloped i = subst (λ (q : Fraction). q ≈F whole (at (direction g) i) *F whole (g.end -ℤ g.start) *F ratio (pos 1) (nat_abs (length_sq g)) N) (sym (slope_linear g i l))
      (≈F_trans (over_is (whole (at (direction g) i *ℤ (g.end -ℤ g.start))) N) (mul_cong_f (≈F_sym (whole_mul (at (direction g) i) (g.end -ℤ g.start))) (≈F_refl (ratio (pos 1) (nat_abs (length_sq g)) N))))

  ramp_about : (p m : Point) → affine_level g p ≈F affine_level g m +F (slope g 0 *F (p 0 -F m 0) +F slope g 1 *F (p 1 -F m 1) +F slope g 2 *F (p 2 -F m 2))
  unfolding along
  ramp_about p m = ≈F_trans (extended p)
      (≈F_trans
      (ring_f 15 (λ s r o p0 p1 p2 m0 m1 m2 f0 f1 f2 d0 d1 d2. s ⊕ ((p0 ⊖ f0) ⊗ d0 ⊕ (p1 ⊖ f1) ⊗ d1 ⊕ (p2 ⊖ f2) ⊗ d2) ⊗ o ⊗ r)
      (λ s r o p0 p1 p2 m0 m1 m2 f0 f1 f2 d0 d1 d2. s ⊕ ((m0 ⊖ f0) ⊗ d0 ⊕ (m1 ⊖ f1) ⊗ d1 ⊕ (m2 ⊖ f2) ⊗ d2) ⊗ o ⊗ r ⊕ (d0 ⊗ r ⊗ o ⊗ (p0 ⊖ m0) ⊕ d1 ⊗ r ⊗ o ⊗ (p1 ⊖ m1) ⊕ d2 ⊗ r ⊗ o ⊗ (p2 ⊖ m2))) tt
      (whole g.start ∷ whole (g.end -ℤ g.start) ∷ ratio (pos 1) (nat_abs (length_sq g)) N ∷ p 0 ∷ p 1 ∷ p 2 ∷ m 0 ∷ m 1 ∷ m 2 ∷ whole (at g.from 0) ∷ whole (at g.from 1) ∷ whole (at g.from 2) ∷ whole (at (direction g) 0) ∷ whole (at (direction g) 1) ∷ whole (at (direction g) 2) ∷ []))
      (add_cong_f (≈F_sym (extended m)) (add_cong_f (add_cong_f (step 0) (step 1)) (step 2))))
    where
      step : (i : ℕ) → whole (at (direction g) i) *F whole (g.end -ℤ g.start) *F ratio (pos 1) (nat_abs (length_sq g)) N *F (p i -F m i) ≈F slope g i *F (p i -F m i)
      step i = mul_cong_f (≈F_sym (sloped i)) (≈F_refl (p i -F m i))

pub affine_about : (g : Grade) → T (not (coincident g)) → (p m : Point) → affine_level g p ≈F affine_level g m +F (slope g 0 *F (p 0 -F m 0) +F slope g 1 *F (p 1 -F m 1) +F slope g 2 *F (p 2 -F m 2))
affine_about g apart p m = by_kind g (λ _. affine_level g p ≈F affine_level g m +F (slope g 0 *F (p 0 -F m 0) +F slope g 1 *F (p 1 -F m 1) +F slope g 2 *F (p 2 -F m 2)))
    (λ l. ramp_about g l apart p m)
    (λ u. ≈F_trans (affine_flat g p u) (≈F_sym (≈F_trans (add_cong_f (affine_flat g m u) (add_cong_f (add_cong_f (none 0 u) (none 1 u)) (none 2 u)))
    (ring_f 4 (λ s x y z. s ⊕ (lit (pos 0) ⊗ x ⊕ lit (pos 0) ⊗ y ⊕ lit (pos 0) ⊗ z)) (λ s x y z. s) tt (whole g.start ∷ (p 0 -F m 0) ∷ (p 1 -F m 1) ∷ (p 2 -F m 2) ∷ [])))))
  where
    none : (i : ℕ) → T (not (is_linear g && not (eq_z g.start g.end))) → slope g i *F (p i -F m i) ≈F zero_f *F (p i -F m i)
    none i u = mul_cong_f (slope_flat g i apart u) (≈F_refl (p i -F m i))

-- ---- the gradient's intervals, in either arithmetic
module _ (ar : Arithmetic) where
  pub gradient_encloses : (g : Grade) → InLimits g → T (not (coincident g)) → (i : ℕ) → i < 3
      → In 100 (slope g i) (box_at (gradient (grade_intervals ar (compiled g))) i)
  unfolding gradient grade_intervals linear_intervals linear_of
  gradient_encloses g limits apart i l = by_kind g (λ G. In 100 (slope g i) (box_at (gradient (grade_intervals ar G)) i))
      (λ k. subst (λ (q : Fraction). In 100 q (box_at (slopes (numbers g)) i)) (sym (slope_linear g i k))
      (subst (In 100 (whole numerator /F nat_abs (length_sq g))) (sym (slopes_at g i l)) (steep (length_pos g (linear_apart g k apart)))))
      (λ u. wider 100 tt (equal_in (≈F_sym (slope_flat g i apart u)) (zeros_at i l)))
    where
      numerator : ℤ
      numerator = at (direction g) i *ℤ (g.end -ℤ g.start)

      small : nat_abs (at (direction g) i *ℤ (g.end -ℤ g.start)) ≤ 17179869184
      small = (within_mul (within_at (minus_within (sizes g limits).to (sizes g limits).from) i l)
          (within_sub (sizes g limits).end (sizes g limits).start)).abs

      room : (n : ℕ) → 0 < n → 17179869184 ≤ 17179869184 * n
      room n h = omega arith

      steep : 0 < nat_abs (length_sq g) → In 100 (whole (at (direction g) i *ℤ (g.end -ℤ g.start)) /F nat_abs (length_sq g))
          (slope_along (numbers g) (at (direction g) i))
      steep N =
          wider 100 tt (equal_in (≈F_sym (over_whole (at (direction g) i *ℤ (g.end -ℤ g.start)) N))
          (fraction_encloses 34 (ratio (at (direction g) i *ℤ (g.end -ℤ g.start)) (nat_abs (length_sq g)) N) tt
          (le_trans small (room (nat_abs (length_sq g)) N))))

  -- of one piece
  pub piece_gradient_encloses : (g : Grade) → InLimits g → T (not (coincident g)) → (p : Piece) (i : ℕ) → i < 3
      → In 100 (piece_slope g p i) (box_at (piece_gradient (grade_intervals ar (compiled g)) p) i)
  unfolding piece_gradient
  piece_gradient_encloses g limits apart Start i l = wider 100 tt (zeros_at i l)
  piece_gradient_encloses g limits apart Ramp i l = gradient_encloses g limits apart i l
  piece_gradient_encloses g limits apart End i l = wider 100 tt (zeros_at i l)
