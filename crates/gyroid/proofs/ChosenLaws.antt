-- There is something to choose: every box has an admitted residual at each of its points, and a box that is settled has one of the sign that
-- its state says. So no statement about all of them is empty. Assumes nothing.
use mathlib.Core.Path.{◌≡◌, subst}
use mathlib.Core.Bool.{not, ◌||◌}
use mathlib.Core.List.{List}
use Prim.Native.Nat.{ℕ}
use lib.Dec.{T}
use lib.IntN.{ℤ}
use lib.Signed.{lt_z, le_z_yes, lt_z_no}
use lib.Ieee.{of_bits}
use Rattle.exact.specs.Fraction.{Fraction, whole, zero_f, ◌*F◌, ◌≤F◌, ◌<F◌, AbsF}
use Rattle.exact.proofs.Fraction.{≤F_refl, ≤F_trans, ≈F_ge, num_nonneg, whole_le}
use Rattle.exact.proofs.FractionSize.{abs_of_nonneg}
use Rattle.interval.specs.Interval.{Arithmetic, two_pi}
use Rattle.interval.specs.Encloses.{value, ◌∈◌}
use Rattle.limits.specs.Ticks.{at, ticks, above}
use Rattle.grade.specs.Grade.{Point}
use Rattle.grade.specs.Holds.{InBox}
use Rattle.grade.proofs.EntryLaws.{not_either}
use Rattle.grade.proofs.Axes.{three}
use Rattle.gyroid.specs.declared.Description.{Description}
use Rattle.gyroid.specs.declared.State.{State}
use Rattle.gyroid.specs.Fits.{Accepted}
use Rattle.gyroid.specs.Leaf.{leaf}
use Rattle.gyroid.specs.Residual.{box_state}
use Rattle.gyroid.specs.Admitted.{half_width, tick_box, bracket_of, surface, Chosen, wave}
use Rattle.gyroid.specs.Settles.{Settles, Some}
use Rattle.gyroid.proofs.BracketLaws.{Bracket, bracket_of_lem}
use Rattle.gyroid.proofs.EnclosureLaws.{state_settles}

-- ---- zero is a choice for each error and for e
zero_within : {a : Fraction} → zero_f ≤F a → AbsF zero_f a
zero_within h = abs_of_nonneg (≤F_refl zero_f) h

two_pi_between : value two_pi.lo ∈ two_pi
unfolding of_bits
two_pi_between = record { above = ≤F_refl (value two_pi.lo); below = record { le = le_z_yes tt } }

-- the lower end of `two_pi`, and no error
pub chosen : (d : Description) (lo hi : List ℤ) → Chosen d lo hi
chosen d lo hi = record {
  w = value two_pi.lo;
  sine_error = λ i. zero_f;
  cosine_error = λ i. zero_f;
  e = zero_f;
  w_between = two_pi_between;
  sine_within = λ i b. zero_within (num_nonneg (le_z_yes tt));
  cosine_within = λ i b. zero_within (num_nonneg (le_z_yes tt));
  e_within = zero_within (≤F_trans (law.nonneg (k *F r 0) (k *F r 1) (k *F r 2)) (≈F_ge (law.scaled k (r 0) (r 1) (r 2))));
}
  where
    k : Fraction
    k = wave d lo hi (value two_pi.lo)

    law : Bracket (bracket_of (surface d lo hi))
    law = bracket_of_lem (surface d lo hi)

    r : ℕ → Fraction
    r i = half_width lo hi i

-- ---- a point of a box whose lows are not above its highs: its lowest corner
pub corner_inside : (lo hi : List ℤ) → T (not (above lo hi)) → InBox lo hi (λ i. whole (at lo i))
corner_inside lo hi t =
    let (s, z) = not_either (lt_z (at hi 0) (at lo 0) || lt_z (at hi 1) (at lo 1)) (lt_z (at hi 2) (at lo 2)) t in
    let (x, y) = not_either (lt_z (at hi 0) (at lo 0)) (lt_z (at hi 1) (at lo 1)) s in
    record {
      above = λ i _. ≤F_refl (whole (at lo i));
      below = three (λ i. whole (at lo i) ≤F whole (at hi i)) (whole_le (lt_z_no x)) (whole_le (lt_z_no y)) (whole_le (lt_z_no z));
    }

-- ---- so a settled box has an admitted residual, of the sign that its state says
module _
    (ar : Arithmetic) (d : Description) (none : Accepted d) (lo hi : List ℤ) (low-ticks : T (ticks lo)) (high-ticks : T (ticks hi))
    (order : T (not (above lo hi))) where
  abbrev corner : Point
  corner i = whole (at lo i)

  settles : (s : State) → box_state ar (leaf ar d) (tick_box lo hi) ≡ s → Settles d lo hi s
  settles s e = subst (Settles d lo hi) e (state_settles ar d none lo hi low-ticks high-ticks)

  pub inside_some : box_state ar (leaf ar d) (tick_box lo hi) ≡ State.Inside → Some d lo hi (λ q. q <F zero_f)
  inside_some e = record { p = corner; inside = corner_inside lo hi order; chosen = chosen d lo hi; says = settles State.Inside e corner (corner_inside lo hi order) (chosen d lo hi) }

  pub outside_some : box_state ar (leaf ar d) (tick_box lo hi) ≡ State.Outside → Some d lo hi (λ q. zero_f <F q)
  outside_some e = record { p = corner; inside = corner_inside lo hi order; chosen = chosen d lo hi; says = settles State.Outside e corner (corner_inside lo hi order) (chosen d lo hi) }
