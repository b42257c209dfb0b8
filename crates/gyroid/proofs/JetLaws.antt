-- The jet at the centre of a box of ticks holds the admitted value and gradient. Millimetres are kept apart from ticks here: the leaf's
-- intervals are per millimetre. Assumes nothing.
use mathlib.Core.List.{List, [], ◌∷◌}
use Prim.Native.Nat.{ℕ, ◌*◌, ◌^◌, ◌≤◌, ◌<◌}
use native.Mathlib.Omega.{arith}
use lib.Dec.{lit<}
use lib.IntN.{ℤ, pos, nat_abs}
use lib.Signed.{◌<ℤ◌}
use Rattle.std.specs.Prelude.{Option, Some, None, option_map}
use Rattle.exact.specs.Fraction.{Fraction, ratio, whole, ◌*F◌, ◌/F◌, ◌≈F◌}
use Rattle.exact.proofs.Size.{size_above}
use Rattle.exact.proofs.Ring.{◌⊗◌}
use Rattle.exact.proofs.FractionRing.{ring_f}
use Rattle.exact.proofs.Fraction.{≈F_refl, ≈F_sym, ≈F_trans, comm_f, mul_cong_f, over_is, over_cong, over_mul, over_times, over_whole}
use Rattle.interval.specs.declared.Interval.{Interval}
use Rattle.interval.specs.Interval.{Arithmetic, point, product, mid, two_pi}
use Rattle.interval.specs.Encloses.{◌∈◌}
use Rattle.interval.proofs.Membership.{In, equal_in, wider}
use Rattle.interval.proofs.Encloses.{add_encloses, sub_encloses, mul_encloses, neg_encloses, square_encloses, fraction_encloses}
use Rattle.grade.specs.Intervals.{box_at}
use Rattle.grade.specs.Fits.{Within3}
use Rattle.grade.specs.Extended.{in_units}
use Rattle.grade.proofs.Axes.{three}
use Rattle.gyroid.specs.declared.Description.{Description}
use Rattle.gyroid.specs.declared.Circle.{Circle}
use Rattle.gyroid.specs.declared.Waves.{Waves}
use Rattle.gyroid.specs.declared.Jet.{Jet}
use Rattle.gyroid.specs.declared.Surface.{Surface}
use Rattle.gyroid.specs.Leaf.{turns, leaf}
use Rattle.gyroid.specs.Turn.{turn}
use Rattle.gyroid.specs.Jet as float
use Rattle.gyroid.specs.Jet.{waves_of, value_at, entry_at, gradient_at, jet_of, jet}
use Rattle.gyroid.specs.Residual.{centre}
use Rattle.gyroid.specs.Admitted.{centre_at, ends, tick_box, value_of, factor_of, surface, Chosen, waves, s, c, g, factor}
use Rattle.gyroid.proofs.CentreLaws.{centre_in}
use Rattle.gyroid.proofs.TurnLaws.{Sound, two_pi_in, turn_holds}

-- ---- a jet that is found holds a value and a gradient
pub record JetIn (j : Jet) (v : Fraction) (d : ℕ → Fraction) : Type 0 where
  pub value : In 100 v j.value
  pub gradient : (i : ℕ) → i < 3 → In 100 (d i) (box_at j.gradient i)

abbrev pub JetHolds : Option Jet → Fraction → (ℕ → Fraction) → Type 0
JetHolds (Some j) v d = JetIn j v d
JetHolds None v d = Unit {0}

-- ---- per millimetre: 1024 / a
module _ (d : Description) (above : pos 0 <ℤ d.period) where
  abbrev pub per_millimetre : Fraction
  per_millimetre = ratio (pos 1024) (nat_abs d.period) (size_above above)

  pub turns_in : In 11 per_millimetre (turns d)
  turns_in = fraction_encloses 10 per_millimetre tt (room (nat_abs d.period) (size_above above))
    where
      room : (a : ℕ) → 0 < a → 1024 ≤ 2 ^ 10 * a
      room a h = omega arith

  -- a length in millimetres times 1024 / a is the length in ticks over a
  over_period : (x : Fraction) → in_units x *F per_millimetre ≈F x /F nat_abs d.period
  over_period x = ≈F_trans (mul_cong_f (≈F_refl (in_units x)) (≈F_sym (over_whole (pos 1024) (size_above above))))
      (≈F_trans (comm_f (in_units x) (whole (pos 1024) /F nat_abs d.period))
      (≈F_trans (≈F_sym (over_mul (whole (pos 1024)) (in_units x) (size_above above)))
      (over_cong (size_above above) (≈F_trans (comm_f (whole (pos 1024)) (in_units x)) (over_times x (lit< tt))))))

  -- so k is the same in either unit
  pub same_wave : (w x : Fraction) → w *F per_millimetre *F in_units x ≈F w /F nat_abs d.period *F x
  same_wave w x =
      let o = ratio (pos 1) (nat_abs d.period) (size_above above) in
      ≈F_trans (ring_f 3 (λ w k x. w ⊗ k ⊗ x) (λ w k x. w ⊗ (x ⊗ k)) tt (w ∷ per_millimetre ∷ in_units x ∷ []))
      (≈F_trans (mul_cong_f (≈F_refl w) (≈F_trans (over_period x) (over_is x (size_above above))))
      (≈F_trans (ring_f 3 (λ w x o. w ⊗ (x ⊗ o)) (λ w x o. w ⊗ o ⊗ x) tt (w ∷ x ∷ o ∷ [])) (mul_cong_f (≈F_sym (over_is w (size_above above))) (≈F_refl x))))

-- ---- in either arithmetic
module _ (ar : Arithmetic) (d : Description) (above : pos 0 <ℤ d.period) where
  -- w times that
  module _ {w : Fraction} (between : w ∈ two_pi) where
    pub wave_in : In 15 (w *F per_millimetre d above) (leaf ar d).wave
    unfolding leaf
    wave_in = mul_encloses tt (two_pi_in between) (turns_in d above)

    pub wave_squared_in : In 31 (w *F per_millimetre d above *F (w *F per_millimetre d above)) (leaf ar d).wave_squared
    unfolding leaf
    wave_squared_in = square_encloses tt wave_in

  -- ---- the waves at the centre of a box
  module _ (lo hi : List ℤ) (low-in : Within3 1048576 lo) (high-in : Within3 1048576 hi) (h : Chosen d lo hi) where
    wave_holds : (i : ℕ) → i < 3 → Sound (turn ar (leaf ar d) (product (point (mid (ends lo hi i))) (turns d))) (waves d lo hi h i)
    unfolding waves
    wave_holds i b =
        turn_holds ar d (equal_in (over_period d above (centre_at lo hi i))
        (wider 23 tt (mul_encloses tt (centre_in lo hi low-in high-in i b) (turns_in d above)))) h.w_between (h.sine_within i b) (h.cosine_within i b)

    abbrev k : Fraction
    k = h.w *F per_millimetre d above

    -- the value and the gradient of each surface, from the sines and cosines
    module _
        {x y z : Circle} (X : Sound (Some x) (waves d lo hi h 0)) (Y : Sound (Some y) (waves d lo hi h 1)) (Z : Sound (Some z) (waves d lo hi h 2)) where
      abbrev at_centre : Waves
      at_centre = record { x = x; y = y; z = z }

      value_holds : (f : Surface) → In 100 (value_of f (s d lo hi h) (c d lo hi h)) (value_at ar f at_centre)
      unfolding value_at
      value_holds Surface.Network = wider 100 tt (add_encloses ar tt (add_encloses ar tt (mul_encloses tt X.0 Y.1) (mul_encloses tt Y.0 Z.1))
          (mul_encloses tt Z.0 X.1))
      value_holds Surface.Primitive = wider 100 tt (add_encloses ar tt (add_encloses ar tt X.1 Y.1) Z.1)

      -- a factor of size 80, times the wave
      by_wave : {t : Fraction} {v : Interval} → In 80 t v → In 100 (t *F k) (product v (leaf ar d).wave)
      by_wave t = wider 100 tt (mul_encloses tt t (wave_in h.w_between))

      abbrev Entry : Surface → ℕ → Type 0
      Entry f i = In 100 (factor_of f (s d lo hi h) (c d lo hi h) i *F k) (box_at (gradient_at ar f at_centre (leaf ar d).wave) i)

      gradient_holds : (f : Surface) (i : ℕ) → i < 3 → Entry f i
      unfolding gradient_at entry_at
      gradient_holds Surface.Network = three (Entry Surface.Network)
          (by_wave (wider 80 tt (sub_encloses ar tt (mul_encloses tt X.1 Y.1) (mul_encloses tt Z.0 X.0))))
          (by_wave (wider 80 tt (sub_encloses ar tt (mul_encloses tt Y.1 Z.1) (mul_encloses tt X.0 Y.0))))
          (by_wave (wider 80 tt (sub_encloses ar tt (mul_encloses tt Z.1 X.1) (mul_encloses tt Y.0 Z.0))))
      gradient_holds Surface.Primitive = three (Entry Surface.Primitive)
          (by_wave (wider 80 tt (neg_encloses X.0))) (by_wave (wider 80 tt (neg_encloses Y.0))) (by_wave (wider 80 tt (neg_encloses Z.0)))

    abbrev Found : Option Circle → Option Circle → Option Circle → Type 0
    Found x y z = JetHolds (option_map (jet_of ar (surface d lo hi) (leaf ar d).wave) (waves_of x y z)) (g d lo hi h) (λ i. factor d lo hi h i *F k)

    found_holds : (x y z : Option Circle) → Sound x (waves d lo hi h 0) → Sound y (waves d lo hi h 1) → Sound z (waves d lo hi h 2) → Found x y z
    found_holds None y z X Y Z = tt
    found_holds (Some x) None z X Y Z = tt
    found_holds (Some x) (Some y) None X Y Z = tt
    found_holds (Some x) (Some y) (Some z) X Y Z = record { value = value_holds X Y Z (surface d lo hi); gradient = gradient_holds X Y Z (surface d lo hi) }

    -- THE FACT
    pub jet_holds : JetHolds (jet ar (leaf ar d) (centre (tick_box lo hi))) (g d lo hi h) (λ i. factor d lo hi h i *F k)
    unfolding jet float.waves centre leaf
    jet_holds = found_holds (at 0) (at 1) (at 2) (wave_holds 0 (lit< tt)) (wave_holds 1 (lit< tt)) (wave_holds 2 (lit< tt))
      where
        at : ℕ → Option Circle
        at i = turn ar (leaf ar d) (product (point (mid (ends lo hi i))) (turns d))
