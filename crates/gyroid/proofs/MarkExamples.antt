-- The primitive surface marks boxes, by computation from the definitions: about the origin, where g is 3, about the centre of a period, where it is
-- −3, and between them. So the first two have admitted residuals of the sign that the mark says. Assumes nothing.
use mathlib.Core.Path.{◌≡◌, refl}
use mathlib.Core.List.{List, [], ◌∷◌}
use lib.IntN.{ℤ, pos}
use lib.Ieee.{of_bits, to_bits, is_nan, neg, add, sub, mul, div, lt, le, round}
use Rattle.exact.specs.Fraction.{Fraction, zero_f, ◌+F◌, ◌-F◌, ◌<F◌}
use Rattle.interval.specs.Step.{up_from, next_up, next_down}
use Rattle.interval.specs.Interval.{exact_sum, exact_difference, sum, difference, product, quotient, negation, square, mid, magnitude}
use Rattle.interval.specs.Nearest.{from_rational}
use Rattle.interval.specs.Floor.{quarter_number}
use Rattle.grade.specs.Grade as grade
use Rattle.grade.specs.Exact.{linear_of, compiled}
use Rattle.grade.specs.Certified.{certification}
use Rattle.grade.specs.Intervals.{grade_intervals, interval, piece, piece_gradient}
use Rattle.grade.specs.InUse.{in_use}
use Rattle.gyroid.specs.declared.Description.{Description}
use Rattle.gyroid.specs.declared.State.{State}
use Rattle.gyroid.specs.Description.{in_limits, frame_in_limits, part_frame, origin}
use Rattle.gyroid.specs.Refusals.{refusal, all_finite}
use Rattle.gyroid.specs.Fits.{Accepted}
use Rattle.gyroid.specs.Leaf.{leaf}
use Rattle.gyroid.specs.Turn.{reduced, horner, sine_at, cosine_at, circle_at, turned, turn}
use Rattle.gyroid.specs.Jet.{waves, value_at, entry_at, gradient_at, jet, minus}
use Rattle.gyroid.specs.Residual.{centre, radius, radii, reach, spread, bracket_at, second_order, bound, expansion, residual, box_state}
use Rattle.gyroid.specs.Admitted.{tick_box}
use Rattle.gyroid.specs.Settles.{Some}
use Rattle.gyroid.proofs.ChosenLaws.{inside_some, outside_some}

-- a period of 1 mm, at the level 0
abbrev description : Description
description = record {
  period = pos 1024;
  kind = pos 2;
  level = record { kind = pos 0; from = origin; to = origin; start = pos 0; end = pos 0 };
  frame = record { w = pos 1; x = pos 0; y = pos 0; z = pos 0; translation = origin };
}

accepted : Accepted description
unfolding refusal in_limits frame_in_limits part_frame grade.in_limits linear_of compiled certification
accepted = record { none = refl }

-- a corner of a cube
abbrev corner : ℤ → List ℤ
corner n = n ∷ n ∷ n ∷ []

abbrev mark : ℤ → ℤ → State
mark low high = box_state in_use (leaf in_use description) (tick_box (corner low) (corner high))

marks : (mark (pos 0) (pos 64) ≡ State.Outside) × (mark (pos 480) (pos 544) ≡ State.Inside) × (mark (pos 224) (pos 288) ≡ State.Unsettled)
unfolding of_bits to_bits is_nan neg add sub mul div lt le round up_from next_up next_down ◌+F◌ ◌-F◌ exact_sum exact_difference sum difference product quotient
    negation square mid magnitude from_rational quarter_number compiled grade_intervals leaf all_finite reduced horner sine_at cosine_at circle_at turned
    turn waves value_at entry_at gradient_at jet minus centre radius radii reach spread bracket_at second_order bound expansion residual box_state
    interval piece piece_gradient
marks = (refl, refl, refl)

above_zero : Some description (corner (pos 0)) (corner (pos 64)) (λ (x : Fraction). zero_f <F x)
above_zero = outside_some in_use description accepted (corner (pos 0)) (corner (pos 64)) tt tt tt marks.0

below_zero : Some description (corner (pos 480)) (corner (pos 544)) (λ (x : Fraction). x <F zero_f)
below_zero = inside_some in_use description accepted (corner (pos 480)) (corner (pos 544)) tt tt tt marks.1
