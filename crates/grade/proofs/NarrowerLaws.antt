-- "EXACT SUMS STAY NARROW", of the level: in either arithmetic t, the level and its affine extension over a box lie in the wide ones, and where the
-- wide arithmetic finds a piece, the other finds the same one. The gradient adds nothing and is the same. Assumes nothing.
use mathlib.Core.Path.{◌≡◌, refl}
use mathlib.Core.Bool.{not}
use mathlib.Core.List.{List}
use Prim.Native.Nat.{ℕ, ◌<◌}
use lib.Dec.{T, lit<}
use lib.IntN.{pos}
use lib.Signed.{◌<ℤ◌}
use Rattle.interval.specs.declared.Interval.{Interval}
use Rattle.interval.specs.Interval.{Arithmetic, Wide, sum}
use Rattle.interval.proofs.Membership.{zero_encloses}
use Rattle.interval.proofs.Narrower.{Sized, sized, Nested, itself, looser, sum_nested, difference_nested, clamp_nested}
use Rattle.interval.proofs.NarrowerProducts.{product_nested, quotient_nested}
use Rattle.grade.specs.declared.Grade.{Grade}
use Rattle.grade.specs.declared.GradeDef.{GradeDef}
use Rattle.grade.specs.declared.LinearIntervals.{LinearIntervals}
use Rattle.grade.specs.declared.Piece.{Piece}
use Rattle.grade.specs.Grade.{length_sq}
use Rattle.grade.specs.Exact.{linear_of, numbers, compiled}
use Rattle.grade.specs.Refusals.{coincident}
use Rattle.grade.specs.Fits.{InLimits}
use Rattle.grade.specs.Intervals.{unit, zero, linear_intervals, grade_intervals, box_at, along_axis, parameter_of, parameter, level_of}
use Rattle.grade.specs.Intervals.{interval, affine, gradient, piece_gradient}
use Rattle.grade.proofs.EntryLaws.{Sizes, sizes}
use Rattle.grade.proofs.Accepted.{linear_apart, by_kind}
use Rattle.grade.proofs.IntervalLaws.{unit_encloses, from_encloses, direction_encloses, length_encloses, length_apart}

-- ---- a level's numbers, in either arithmetic and in the wide one
abbrev linear : Arithmetic → Grade → LinearIntervals
linear ar g = linear_intervals ar (numbers g)

-- the shares of the axes, added
abbrev shares : Arithmetic → Grade → List Interval → Interval
shares ar g w =
    let share : ℕ → Interval = λ i. along_axis ar (linear ar g) i (box_at w i) in
    sum ar (sum ar (sum ar zero (share 0)) (share 1)) (share 2)

module _ (ar : Arithmetic) (g : Grade) (s : Sizes g) where
  start : Sized 3 (unit g.start)
  start = sized (unit_encloses 2 g.start tt s.start.abs)

  -- start + x (end − start)
  level_of_nested : {X Y : Interval} → Nested 83 X Y → Nested 91 (level_of ar (linear ar g) X) (level_of Wide (linear Wide g) Y)
  unfolding level_of linear_intervals linear_of
  level_of_nested h = sum_nested ar tt (itself start)
      (product_nested tt h (difference_nested ar tt (itself (sized (unit_encloses 2 g.end tt s.end.abs))) (itself start)))

  -- ---- t
  module _ (apart : pos 0 <ℤ length_sq g) (w : List Interval) (box : (i : ℕ) → i < 3 → Sized 40 (box_at w i)) where
    share_nested : (i : ℕ) → i < 3 → Nested 55 (along_axis ar (linear ar g) i (box_at w i)) (along_axis Wide (linear Wide g) i (box_at w i))
    unfolding along_axis linear_intervals linear_of
    share_nested i l = product_nested tt (difference_nested ar tt (itself (box i l)) (itself (sized (from_encloses g s i l))))
        (itself (sized (direction_encloses g s i l)))

    shares_nested : Nested 61 (shares ar g w) (shares Wide g w)
    shares_nested = sum_nested ar tt (sum_nested ar tt (sum_nested ar tt (itself (sized zero_encloses)) (share_nested 0 (lit< tt))) (share_nested 1 (lit< tt)))
        (share_nested 2 (lit< tt))

    parameter_nested : Nested 83 (parameter ar (linear ar g) w) (parameter Wide (linear Wide g) w)
    unfolding parameter parameter_of linear_intervals linear_of
    parameter_nested = quotient_nested 21 tt (length_apart g s apart) shares_nested (itself (sized (length_encloses g s apart)))

-- ---- THE FACTS, of an accepted level and a box
module _
    (ar : Arithmetic) (g : Grade) (limits : InLimits g) (apart : T (not (coincident g)))
    (w : List Interval) (box : (i : ℕ) → i < 3 → Sized 40 (box_at w i)) where
  flat : Nested 100 (unit g.start) (unit g.start)
  flat = looser 100 tt (itself (start ar g (sizes g limits)))

  pub interval_nested : Nested 100 (interval ar (grade_intervals ar (compiled g)) w) (interval Wide (grade_intervals Wide (compiled g)) w)
  unfolding interval grade_intervals linear_intervals
  interval_nested = by_kind g (λ G. Nested 100 (interval ar (grade_intervals ar G) w) (interval Wide (grade_intervals Wide G) w))
      (λ l. looser 100 tt (level_of_nested ar g (sizes g limits) (clamp_nested (parameter_nested ar g (sizes g limits) (linear_apart g l apart) w box))))
      (λ u. flat)

  pub affine_nested : Nested 100 (affine ar (grade_intervals ar (compiled g)) w) (affine Wide (grade_intervals Wide (compiled g)) w)
  unfolding affine grade_intervals linear_intervals
  affine_nested = by_kind g (λ G. Nested 100 (affine ar (grade_intervals ar G) w) (affine Wide (grade_intervals Wide G) w))
      (λ l. looser 100 tt (level_of_nested ar g (sizes g limits) (parameter_nested ar g (sizes g limits) (linear_apart g l apart) w box)))
      (λ u. flat)

-- the gradient of a piece is the same
pub piece_gradient_same : (ar : Arithmetic) (G : GradeDef) (p : Piece) → piece_gradient (grade_intervals ar G) p ≡ piece_gradient (grade_intervals Wide G) p
unfolding piece_gradient gradient grade_intervals linear_intervals
piece_gradient_same ar G Piece.Start = refl
piece_gradient_same ar (GradeDef.Constant c) Piece.Ramp = refl
piece_gradient_same ar (GradeDef.Linear g) Piece.Ramp = refl
piece_gradient_same ar G Piece.End = refl
