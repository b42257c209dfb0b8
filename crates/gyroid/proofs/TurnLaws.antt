-- `turn` holds the admitted sine and cosine: for any turn that its interval holds and any w between the ends of `two_pi`. Assumes nothing.
use mathlib.Core.Path.{refl}
use mathlib.Core.Bool.{Bool, true, false, cond, not}
use mathlib.Core.List.{[], ◌∷◌}
use Prim.Native.Nat.{ℕ, ◌*◌, ◌^◌, ◌≤◌, ◌<◌}
use native.Mathlib.Omega.{arith}
use lib.Dec.{T, eqb, lit<, lit≤}
use lib.IntN.{ℤ, pos, nat_abs}
use lib.Signed.{le_z_yes}
use lib.Ieee.{neg, lt, of_bits}
use lib.Ieee.Scale.{finite}
use Rattle.std.specs.Prelude.{Option, Some, None}
use Rattle.exact.specs.Fraction.{Fraction, ratio, whole, ◌+F◌, ◌-F◌, ◌*F◌, ◌/F◌, neg_f, ◌≤F◌, ◌≈F◌, AbsF}
use Rattle.exact.proofs.Ring.{lit, ◌⊕◌, ◌⊗◌}
use Rattle.exact.proofs.FractionRing.{ring_f}
use Rattle.exact.proofs.Fraction.{≤F_trans, ≈F_ge, neg_mono_f, ≈F_sym, ≈F_trans, over_is}
use Rattle.exact.proofs.FractionSize.{abs_wider}
use Rattle.interval.specs.declared.Interval.{Interval}
use Rattle.interval.specs.Step.{b64}
use Rattle.interval.specs.Interval.{Arithmetic, point, negation, mid, two_pi}
use Rattle.interval.specs.Nearest.{nearest}
use Rattle.interval.specs.Floor.{quarter_number, mod_four}
use Rattle.interval.specs.Series.{sine_term, cosine_term, term, nine, tail, tail_up}
use Rattle.interval.specs.Encloses.{value, Small, ◌∈◌}
use Rattle.interval.proofs.Small.{power, abs_small, small_finite, finite_neg, value_neg}
use Rattle.interval.proofs.Compare.{nlt_value}
use Rattle.interval.proofs.DoubleSizes.{mid_small, quarter_within}
use Rattle.interval.proofs.Exact.{binary, nearest_exact, exact_small}
use Rattle.interval.proofs.SeriesLaws.{sine_encloses, cosine_encloses, tail_above}
use Rattle.interval.proofs.Membership.{In, low, high, equal_in, wider, point_encloses}
use Rattle.interval.proofs.Encloses.{add_encloses, sub_encloses, mul_encloses, neg_encloses, square_encloses}
use Rattle.interval.proofs.Bounds.{symmetric_encloses}
use Rattle.grade.proofs.EntryLaws.{not_either}
use Rattle.gyroid.specs.declared.Description.{Description}
use Rattle.gyroid.specs.declared.Circle.{Circle}
use Rattle.gyroid.specs.Leaf.{leaf}
use Rattle.gyroid.specs.Turn.{turn, turned, reducible, reduced, beyond, horner, symmetric, sine_at, cosine_at, circle_at}
use Rattle.gyroid.specs.Admitted.{polynomial, sine_polynomial, cosine_polynomial, sine_tail, cosine_tail, turned_by}

-- ---- `two_pi`
two_pi_low : Small 3 two_pi.lo
unfolding of_bits
two_pi_low = lit≤ tt

two_pi_high : Small 3 two_pi.hi
unfolding of_bits
two_pi_high = lit≤ tt

pub two_pi_in : {w : Fraction} → w ∈ two_pi → In 3 w two_pi
two_pi_in h = record { small_lo = two_pi_low; small_hi = two_pi_high; has = h }

-- ---- a quarter
pub quarter_in : In 0 (ratio (pos 1) 4 (lit< tt)) (point (b64 0x3fd0_0000_0000_0000))
unfolding of_bits
quarter_in = equal_in (record { eq = refl }) (point_encloses (b64 0x3fd0_0000_0000_0000) (lit≤ tt))

-- ---- the quarter number of a turn's interval
module _ {t : Fraction} {I : Interval} (h : In 23 t I) where
  abbrev q : ℤ
  q = quarter_number (mid I)

  q_within : nat_abs (quarter_number (mid I)) ≤ 2 ^ 27
  q_within = (quarter_within 24 (mid I) tt (mid_small 23 I tt tt h.small_lo h.small_hi)).abs

  pub q_in : In 27 (whole q) (point (nearest q 1))
  q_in =
      let (f, e) = nearest_exact 0 q tt (below (nat_abs q) q_within) in
      equal_in (≈F_trans e whole_is) (point_encloses (nearest q 1) (exact_small 27 0 q (nearest q 1) f e (most (nat_abs q) q_within)))
    where
      below : (n : ℕ) → n ≤ 2 ^ 27 → n < 2 ^ 53
      below n h = omega arith

      whole_is : binary q 0 ≈F whole q
      whole_is = record { eq = refl }

      most : (n : ℕ) → n ≤ 2 ^ 27 → n ≤ 2 ^ 27 * 2 ^ 0
      most n h = omega arith

-- ---- what passes the test of 0.8 is at most 1 in size
module _ {u : Fraction} {U : Interval} (h : In 35 u U) (near : T (not (beyond U))) where
  limit_finite : T (finite (b64 0x3fe9_9999_9999_999a))
  unfolding of_bits
  limit_finite = tt

  limit_most : value (b64 0x3fe9_9999_9999_999a) ≤F power 0
  unfolding of_bits
  limit_most = record { le = le_z_yes tt }

  tests : T (not (lt U.lo (neg (b64 0x3fe9_9999_9999_999a)))) × T (not (lt (b64 0x3fe9_9999_9999_999a) U.hi))
  tests = not_either (lt U.lo (neg (b64 0x3fe9_9999_9999_999a))) (lt (b64 0x3fe9_9999_9999_999a) U.hi) near

  from : neg_f (power 0) ≤F value U.lo
  from = ≤F_trans (≤F_trans (neg_mono_f limit_most) (≈F_ge (value_neg (b64 0x3fe9_9999_9999_999a)))) (nlt_value U.lo (neg (b64 0x3fe9_9999_9999_999a)) (small_finite 35 U.lo h.small_lo) (finite_neg (b64 0x3fe9_9999_9999_999a) limit_finite) tests.0)

  to : value U.hi ≤F power 0
  to = ≤F_trans (nlt_value (b64 0x3fe9_9999_9999_999a) U.hi limit_finite (small_finite 35 U.hi h.small_hi) tests.1) limit_most

  pub near_in : In 0 u U
  near_in = record {
    small_lo = abs_small 0 U.lo (small_finite 35 U.lo h.small_lo) (record { low = from; high = ≤F_trans (low h) (≤F_trans (high h) to) });
    small_hi = abs_small 0 U.hi (small_finite 35 U.hi h.small_hi) (record { low = ≤F_trans from (≤F_trans (low h) (high h)); high = to });
    has = h.has;
  }

-- an error within the exact tail
tail_in : (n : ℕ) {e : Fraction} → AbsF e (tail n) → In 1 e (symmetric (tail_up n))
tail_in n h = let (above, small) = tail_above n in symmetric_encloses (tail_up n) small (abs_wider h above)

-- ---- a turn that is found holds a sine and a cosine
abbrev pub Sound : Option Circle → Fraction × Fraction → Type 0
Sound (Some r) x = In 36 x.0 r.sine × In 36 x.1 r.cosine
Sound None x = Unit {0}

turned_in : (n : ℕ) {s c : Fraction} {r : Circle} → In 36 s r.sine → In 36 c r.cosine → Sound (Some (turned n r)) (turned_by n s c)
unfolding turned_by turned
turned_in n {s} {c} {r} h k = go (eqb n 0) (eqb n 1) (eqb n 2)
  where
    one : Circle
    one = record { sine = r.cosine; cosine = negation r.sine }

    two : Circle
    two = record { sine = negation r.sine; cosine = negation r.cosine }

    three : Circle
    three = record { sine = negation r.cosine; cosine = r.sine }

    go : (x y z : Bool) → Sound (Some (cond x r (cond y one (cond z two three)))) (cond x (s, c) (cond y (c, neg_f s) (cond z (neg_f s, neg_f c) (neg_f c, s))))
    go true y z = (h, k)
    go false true z = (k, neg_encloses h)
    go false false true = (neg_encloses h, neg_encloses k)
    go false false false = (neg_encloses k, h)

-- ---- in either arithmetic
module _ (ar : Arithmetic) where
  -- ---- u, from the turn t and the quarter number of its interval
  module _ {t w : Fraction} {I : Interval} (h : In 23 t I) (between : w ∈ two_pi) where
    reduced_in : In 35 ((t -F whole (quarter_number (mid I)) /F 4) *F w) (reduced ar I (quarter_number (mid I)) two_pi)
    unfolding reduced
    reduced_in = wider 35 tt (mul_encloses tt (sub_encloses ar tt h
        (equal_in (≈F_sym (over_is (whole (quarter_number (mid I))) (lit< tt))) (mul_encloses tt (q_in h) quarter_in))) (two_pi_in between))

  -- ---- the series: Horner's rule holds the polynomial
  horner_in : (f : ℕ → Fraction) → ((i : ℕ) → In 1 (f i) (term f i)) → {x : Fraction} {X : Interval} → In 1 x X
      → In 33 (polynomial f 8 x) (horner ar (nine f) X 8)
  unfolding horner
  horner_in f F {x} h = equal_in
      (ring_f 10 (λ x a b c d e f g h i. (((((((i ⊗ x ⊕ h) ⊗ x ⊕ g) ⊗ x ⊕ f) ⊗ x ⊕ e) ⊗ x ⊕ d) ⊗ x ⊕ c) ⊗ x ⊕ b) ⊗ x ⊕ a)
      (λ x a b c d e f g h i. a ⊕ b ⊗ (lit (pos 1) ⊗ x) ⊕ c ⊗ (lit (pos 1) ⊗ x ⊗ x) ⊕ d ⊗ (lit (pos 1) ⊗ x ⊗ x ⊗ x) ⊕ e ⊗ (lit (pos 1) ⊗ x ⊗ x ⊗ x ⊗ x) ⊕ f ⊗
      (lit (pos 1) ⊗ x ⊗ x ⊗ x ⊗ x ⊗ x) ⊕ g ⊗ (lit (pos 1) ⊗ x ⊗ x ⊗ x ⊗ x ⊗ x ⊗ x) ⊕ h ⊗ (lit (pos 1) ⊗ x ⊗ x ⊗ x ⊗ x ⊗ x ⊗ x ⊗ x) ⊕ i ⊗
      (lit (pos 1) ⊗ x ⊗ x ⊗ x ⊗ x ⊗ x ⊗ x ⊗ x ⊗ x))
      tt (x ∷ f 0 ∷ f 1 ∷ f 2 ∷ f 3 ∷ f 4 ∷ f 5 ∷ f 6 ∷ f 7 ∷ f 8 ∷ []))
      (add_encloses ar tt (mul_encloses tt (add_encloses ar tt (mul_encloses tt (add_encloses ar tt (mul_encloses tt (add_encloses ar tt (mul_encloses tt
      (add_encloses ar tt (mul_encloses tt (add_encloses ar tt (mul_encloses tt (add_encloses ar tt (mul_encloses tt (add_encloses ar tt (mul_encloses tt
      (F 8) h) (F 7)) h) (F 6)) h) (F 5)) h) (F 4)) h) (F 3)) h) (F 2)) h) (F 1)) h) (F 0))

  -- ---- the turn
  module _
      (d : Description) {t w : Fraction} {I : Interval} (h : In 23 t I) (between : w ∈ two_pi)
      {e f : Fraction} (e_within : AbsF e sine_tail) (f-within : AbsF f cosine_tail) where
    abbrev U : Interval
    U = reduced ar I (quarter_number (mid I)) two_pi

    abbrev u : Fraction
    u = (t -F whole (quarter_number (mid I)) /F 4) *F w

    sine_in : In 0 u U → In 36 (sine_polynomial u +F e) (sine_at ar (leaf ar d) U)
    unfolding sine_polynomial sine_at leaf
    sine_in h = add_encloses ar tt (mul_encloses tt (horner_in sine_term sine_encloses (square_encloses tt h)) h) (tail_in 19 e_within)

    cosine_in : In 0 u U → In 36 (cosine_polynomial u +F f) (cosine_at ar (leaf ar d) U)
    unfolding cosine_polynomial cosine_at leaf
    cosine_in h = wider 36 tt (add_encloses ar tt (horner_in cosine_term cosine_encloses (square_encloses tt h)) (tail_in 18 f-within))

    pub turn_holds : Sound (turn ar (leaf ar d) I) (turned_by (mod_four (quarter_number (mid I))) (sine_polynomial u +F e) (cosine_polynomial u +F f))
    unfolding turn circle_at leaf
    turn_holds = go (not (reducible I)) (beyond U) (λ near. near_in (reduced_in h between) near)
      where
        go : (x y : Bool) → (T (not y) → In 0 u U)
            → Sound (cond x None (cond y None (Some (turned (mod_four (quarter_number (mid I))) (circle_at ar (leaf ar d) U)))))
            (turned_by (mod_four (quarter_number (mid I))) (sine_polynomial u +F e) (cosine_polynomial u +F f))
        go true y n = tt
        go false true n = tt
        go false false n = turned_in (mod_four (quarter_number (mid I))) (sine_in (n tt)) (cosine_in (n tt))
