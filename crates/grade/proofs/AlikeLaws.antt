-- Boxes whose ends have the same values, a zero of either sign among them, have the same level and the same piece, bit for bit: all that is
-- taken of an end is its difference from an anchor, which goes into a product, and that steps. Assumes nothing.
use mathlib.Core.Path.{◌≡◌, refl, sym, subst}
use mathlib.Core.List.{List}
use Prim.Native.Nat.{ℕ, suc, ◌*◌, ◌^◌, ◌≤◌, ◌<◌}
use lib.Dec.{T, leb, lit<}
use lib.IntN.{ℤ, nat_abs}
use Rattle.interval.specs.declared.Interval.{Interval}
use Rattle.interval.specs.Interval.{Arithmetic}
use Rattle.interval.proofs.Alike.{SameEnds, same_ends, sub_same, mul_same}
use Rattle.grade.specs.declared.GradeDef.{GradeDef}
use Rattle.grade.specs.declared.Linear.{Linear}
use Rattle.grade.specs.declared.LinearIntervals.{LinearIntervals}
use Rattle.limits.specs.Ticks.{at}
use Rattle.grade.specs.Fits.{LinearFits, DefFits}
use Rattle.grade.specs.Intervals.{unit, units, box_at, linear_intervals, grade_intervals, along_axis, parameter_of, parameter, interval, affine, piece}
use Rattle.grade.proofs.AxisLaws.{within_at}
use Rattle.grade.proofs.IntervalLaws.{units_at, unit_encloses}

-- ends of at most 2 ^ 11 in size
abbrev pub SameBox : List Interval → List Interval → Type 0
SameBox w v = (i : ℕ) → i < 3 → SameEnds 11 (box_at w i) (box_at v i)

-- an anchor's own ends
units_same : (k : ℕ) (v : List ℤ) (i : ℕ) → i < 3 → T (leb k 1022) → nat_abs (at v i) ≤ 2 ^ k * 1024
    → SameEnds (suc k) (box_at (units v) i) (box_at (units v) i)
units_same k v i b t s =
    let e = unit_encloses k (at v i) t s in
    subst (λ (x : Interval). SameEnds (suc k) x x) (sym (units_at v i b)) (same_ends (unit (at v i)) e.small_lo e.small_hi)

module _ (ar : Arithmetic) where
  module _ (g : Linear) (fits : LinearFits g) (w v : List Interval) (same : SameBox w v) where
    abbrev l : LinearIntervals
    l = linear_intervals ar g

    along_same : (i : ℕ) → i < 3 → along_axis ar l i (box_at w i) ≡ along_axis ar l i (box_at v i)
    unfolding along_axis linear_intervals
    along_same i b =
        let from = units_same 10 g.from i b tt (within_at fits.from i b).abs in
        let direction = units_same 11 g.direction i b tt (within_at fits.direction i b).abs in
        mul_same (sub_same ar tt (same i b) from) direction

    parameter_same : parameter ar l w ≡ parameter ar l v
    unfolding parameter
    parameter_same = λ k. parameter_of ar l (along_same 0 (lit< tt) k) (along_same 1 (lit< tt) k) (along_same 2 (lit< tt) k)

  pub interval_same : (g : GradeDef) → DefFits g → (w v : List Interval) → SameBox w v
      → interval ar (grade_intervals ar g) w ≡ interval ar (grade_intervals ar g) v
  unfolding interval grade_intervals
  interval_same (GradeDef.Constant c) fits w v same = refl
  interval_same (GradeDef.Linear g) fits w v same = rw (parameter_same g fits w v same) refl

  pub affine_same : (g : GradeDef) → DefFits g → (w v : List Interval) → SameBox w v → affine ar (grade_intervals ar g) w ≡ affine ar (grade_intervals ar g) v
  unfolding affine grade_intervals
  affine_same (GradeDef.Constant c) fits w v same = refl
  affine_same (GradeDef.Linear g) fits w v same = rw (parameter_same g fits w v same) refl

  pub piece_same : (g : GradeDef) → DefFits g → (w v : List Interval) → SameBox w v → piece ar (grade_intervals ar g) w ≡ piece ar (grade_intervals ar g) v
  unfolding piece grade_intervals
  piece_same (GradeDef.Constant c) fits w v same = refl
  piece_same (GradeDef.Linear g) fits w v same = rw (parameter_same g fits w v same) refl
