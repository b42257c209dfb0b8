-- The second-order term of each surface: all that is asked of a surface beside its jet. A bracket of half-widths grows with each of them, k² goes
-- into it, and its interval holds it; so the term over a box of ticks bounds the size of every admitted e. Assumes nothing.
use mathlib.Core.Path.{refl}
use mathlib.Core.List.{List, [], ◌∷◌}
use Prim.Native.Nat.{ℕ, ◌<◌}
use lib.Dec.{lit<, lit≤}
use lib.IntN.{ℤ, pos}
use lib.Signed.{◌<ℤ◌}
use lib.Ieee.{Float, of_bits}
use Rattle.exact.specs.Fraction.{Fraction, ratio, zero_f, ◌+F◌, ◌*F◌, ◌/F◌, ◌≤F◌, ◌≈F◌, AbsF}
use Rattle.exact.proofs.Ring.{lit, ◌⊕◌, ◌⊗◌}
use Rattle.exact.proofs.FractionRing.{ring_f}
use Rattle.exact.proofs.Fraction.{≤F_trans, ≈F_le, ≈F_ge, ≈F_sym, ≈F_trans, add_mono_f, mul_mono_f, add_cong_f, mul_cong_f, comm_f, nonneg_num}
use Rattle.exact.proofs.Fraction.{over_is, over_mono, over_cong, over_zero, over_mul}
use Rattle.exact.proofs.FractionSize.{abs_add, abs_mul, abs_wider, square_nonneg}
use Rattle.interval.specs.declared.Interval.{Interval}
use Rattle.interval.specs.Interval.{Arithmetic, point}
use Rattle.interval.specs.Encloses.{value, Small}
use Rattle.interval.proofs.Membership.{In, equal_in, wider, point_encloses}
use Rattle.interval.proofs.Encloses.{add_encloses, mul_encloses, square_encloses}
use Rattle.grade.specs.Grade.{Point}
use Rattle.grade.specs.Fits.{Within3}
use Rattle.grade.specs.Holds.{InBox}
use Rattle.grade.specs.Extended.{in_units}
use Rattle.gyroid.specs.declared.Description.{Description}
use Rattle.gyroid.specs.declared.Surface.{Surface}
use Rattle.gyroid.specs.Leaf.{leaf}
use Rattle.gyroid.specs.Residual.{radius, radii, bracket_at, second_order}
use Rattle.gyroid.specs.Admitted.{half_width, ends, tick_box, bracket_of, surface, Chosen, wave}
use Rattle.gyroid.proofs.CentreLaws.{doubled, radii_in, half_within}
use Rattle.gyroid.proofs.JetLaws.{per_millimetre, wave_squared_in, same_wave}

-- ---- THE LAW of a bracket B
pub record Bracket (B : Fraction → Fraction → Fraction → Fraction) : Type 0 where
  pub mono : {x y z u v w : Fraction} → AbsF x u → AbsF y v → AbsF z w → B x y z ≤F B u v w
  pub cong : {x y z u v w : Fraction} → x ≈F u → y ≈F v → z ≈F w → B x y z ≈F B u v w
  pub scaled : (k x y z : Fraction) → k *F k *F B x y z ≈F B (k *F x) (k *F y) (k *F z)
  pub nonneg : (x y z : Fraction) → zero_f ≤F B x y z

-- three squares
module _ (x y z : Fraction) where
  abbrev squares : Fraction
  squares = x *F x +F y *F y +F z *F z

  squares_nonneg : zero_f ≤F squares
  squares_nonneg = ≤F_trans (≈F_le (ring_f 1 (λ x. lit (pos 0)) (λ x. lit (pos 0) ⊕ lit (pos 0) ⊕ lit (pos 0)) tt (x ∷ [])))
      (add_mono_f (add_mono_f (square_nonneg x) (square_nonneg y)) (square_nonneg z))

  half_nonneg : zero_f ≤F squares /F 2
  half_nonneg = ≤F_trans (≈F_ge (over_zero (lit< tt))) (over_mono (lit< tt) squares_nonneg)

-- ---- the network's
-- twice the bracket is (x + y)² + (y + z)² + (z + x)²
network_nonneg : (x y z : Fraction) → zero_f ≤F bracket_of Surface.Network x y z
network_nonneg x y z = ≤F_trans (half_nonneg (x +F y) (y +F z) (z +F x))
    (≤F_trans (over_mono (lit< tt) (≈F_le (ring_f 3 (λ x y z. (x ⊕ y) ⊗ (x ⊕ y) ⊕ (y ⊕ z) ⊗ (y ⊕ z) ⊕ (z ⊕ x) ⊗ (z ⊕ x))
    (λ x y z. x ⊗ x ⊕ y ⊗ y ⊕ z ⊗ z ⊕ x ⊗ y ⊕ y ⊗ z ⊕ z ⊗ x ⊕ (x ⊗ x ⊕ y ⊗ y ⊕ z ⊗ z ⊕ x ⊗ y ⊕ y ⊗ z ⊕ z ⊗ x)) tt (x ∷ y ∷ z ∷ []))))
    (≈F_le (doubled (bracket_of Surface.Network x y z))))

network_bracket : Bracket (bracket_of Surface.Network)
network_bracket = record {
  mono = λ a b c. (abs_add (abs_add (abs_add (abs_add (abs_add (abs_mul a a) (abs_mul b b)) (abs_mul c c)) (abs_mul a b)) (abs_mul b c)) (abs_mul c a)).high;
  cong = λ a b c. add_cong_f (add_cong_f (add_cong_f (add_cong_f (add_cong_f (mul_cong_f a a) (mul_cong_f b b)) (mul_cong_f c c)) (mul_cong_f a b))
      (mul_cong_f b c)) (mul_cong_f c a);
  scaled = λ k x y z. ring_f 4 (λ k x y z. k ⊗ k ⊗ (x ⊗ x ⊕ y ⊗ y ⊕ z ⊗ z ⊕ x ⊗ y ⊕ y ⊗ z ⊕ z ⊗ x))
      (λ k x y z. k ⊗ x ⊗ (k ⊗ x) ⊕ k ⊗ y ⊗ (k ⊗ y) ⊕ k ⊗ z ⊗ (k ⊗ z) ⊕ k ⊗ x ⊗ (k ⊗ y) ⊕ k ⊗ y ⊗ (k ⊗ z) ⊕ k ⊗ z ⊗ (k ⊗ x)) tt (k ∷ x ∷ y ∷ z ∷ []);
  nonneg = network_nonneg;
}

-- ---- the primitive surface's
abbrev half : Fraction
half = ratio (pos 1) 2 (lit< tt)

half_in : (x : Float) → Small 0 x → value x ≈F half → In 0 half (point x)
half_in x s e = equal_in e (point_encloses x s)

primitive_scaled : (k x y z : Fraction) → k *F k *F (squares x y z /F 2) ≈F squares (k *F x) (k *F y) (k *F z) /F 2
primitive_scaled k x y z = ≈F_trans (comm_f (k *F k) (squares x y z /F 2)) (≈F_trans (≈F_sym (over_mul (squares x y z) (k *F k) (lit< tt)))
    (over_cong (lit< tt) (ring_f 4 (λ k x y z. (x ⊗ x ⊕ y ⊗ y ⊕ z ⊗ z) ⊗ (k ⊗ k)) (λ k x y z. k ⊗ x ⊗ (k ⊗ x) ⊕ k ⊗ y ⊗ (k ⊗ y) ⊕ k ⊗ z ⊗ (k ⊗ z)) tt
    (k ∷ x ∷ y ∷ z ∷ []))))

primitive_bracket : Bracket (bracket_of Surface.Primitive)
primitive_bracket = record {
  mono = λ a b c. over_mono (lit< tt) (abs_add (abs_add (abs_mul a a) (abs_mul b b)) (abs_mul c c)).high;
  cong = λ a b c. over_cong (lit< tt) (add_cong_f (add_cong_f (mul_cong_f a a) (mul_cong_f b b)) (mul_cong_f c c));
  scaled = primitive_scaled;
  nonneg = half_nonneg;
}

pub bracket_of_lem : (f : Surface) → Bracket (bracket_of f)
bracket_of_lem Surface.Network = network_bracket
bracket_of_lem Surface.Primitive = primitive_bracket

-- ---- a second-order term that bounds the size of e
pub record TermHolds (q : Interval) (e : Fraction) : Type 0 where
  pub most : Fraction
  pub holds : In 100 most q
  pub within : AbsF e most

-- ---- in either arithmetic
module _ (ar : Arithmetic) where
  -- what a bracket's interval holds
  bracket_encloses : (f : Surface) {x y z : Fraction} {X Y Z : Interval} → In 12 x X → In 12 y Y → In 12 z Z → In 35 (bracket_of f x y z) (bracket_at ar f X Y Z)
  unfolding bracket_at of_bits
  bracket_encloses Surface.Network x y z =
      add_encloses ar tt (add_encloses ar tt (add_encloses ar tt (add_encloses ar tt (add_encloses ar tt (square_encloses tt x) (square_encloses tt y))
      (square_encloses tt z)) (mul_encloses tt x y)) (mul_encloses tt y z)) (mul_encloses tt z x)
  bracket_encloses Surface.Primitive {x} {y} {z} X Y Z =
      equal_in (≈F_sym (over_is (squares x y z) (lit< tt)))
      (wider 35 tt (mul_encloses tt (add_encloses ar tt (add_encloses ar tt (square_encloses tt X) (square_encloses tt Y)) (square_encloses tt Z))
      (half_in _ (lit≤ tt) (record { eq = refl }))))

  module _
      (d : Description) (above : pos 0 <ℤ d.period) (lo hi : List ℤ) (low-in : Within3 1048576 lo) (high-in : Within3 1048576 hi)
      (h : Chosen d lo hi) (p : Point) (inside : InBox lo hi p) where
    abbrev f : Surface
    f = surface d lo hi

    law : Bracket (bracket_of f)
    law = bracket_of_lem f

    abbrev k : Fraction
    k = h.w *F per_millimetre d above

    -- the radii as fractions, and the half-widths, in millimetres
    abbrev r : ℕ → Fraction
    r i = value (radius ar (ends lo hi i))

    abbrev x : ℕ → Fraction
    x i = in_units (half_width lo hi i)

    at_most : (i : ℕ) → i < 3 → AbsF (x i) (r i)
    at_most i b = half_within ar lo hi low-in high-in i b p inside

    -- k is the same in either unit
    millimetres : wave d lo hi h.w *F wave d lo hi h.w *F bracket_of f (half_width lo hi 0) (half_width lo hi 1) (half_width lo hi 2)
        ≈F k *F k *F bracket_of f (x 0) (x 1) (x 2)
    millimetres = ≈F_trans (law.scaled (wave d lo hi h.w) (half_width lo hi 0) (half_width lo hi 1) (half_width lo hi 2))
        (≈F_trans (law.cong (same 0) (same 1) (same 2)) (≈F_sym (law.scaled k (x 0) (x 1) (x 2))))
      where
        same : (i : ℕ) → wave d lo hi h.w *F half_width lo hi i ≈F k *F x i
        same i = ≈F_sym (same_wave d above h.w (half_width lo hi i))

    -- THE FACT
    pub term_holds : TermHolds (second_order ar f (leaf ar d).wave_squared (radii ar (tick_box lo hi))) h.e
    unfolding second_order
    term_holds = record {
      most = k *F k *F bracket_of f (r 0) (r 1) (r 2);
      holds = wider 100 tt (mul_encloses tt (wave_squared_in ar d above h.w_between)
          (bracket_encloses f (radii_in ar lo hi low-in high-in 0 (lit< tt)) (radii_in ar lo hi low-in high-in 1 (lit< tt))
          (radii_in ar lo hi low-in high-in 2 (lit< tt))));
      within = abs_wider h.e_within (≤F_trans (≈F_le millimetres)
          (mul_mono_f (k *F k) (nonneg_num (square_nonneg k)) (law.mono (at_most 0 (lit< tt)) (at_most 1 (lit< tt)) (at_most 2 (lit< tt)))));
    }
