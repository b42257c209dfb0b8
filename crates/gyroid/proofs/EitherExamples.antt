-- Under either arithmetic, by computation from the definitions: the residual of the box that document 01's listing halves, and a box of whole ticks
-- that the narrow arithmetic alone settles, "left unsettled by a hair" (document 02, L2) by the wide one. Assumes nothing.
use mathlib.Core.Path.{◌≡◌, refl}
use mathlib.Core.List.{[], ◌∷◌}
use lib.IntN.{ℤ, pos}
use lib.Ieee.{of_bits, to_bits, is_nan, neg, add, sub, mul, div, lt, le, round}
use Rattle.exact.specs.Fraction.{◌+F◌, ◌-F◌}
use Rattle.std.specs.Prelude.{Option, Some}
use Rattle.interval.specs.declared.Interval.{Interval}
use Rattle.interval.specs.Step.{b64, up_from, next_up, next_down}
use Rattle.interval.specs.Interval.{Arithmetic, Wide, Narrow}
use Rattle.interval.specs.Interval.{exact_sum, exact_difference, sum, difference, product, quotient, negation, square, mid, magnitude}
use Rattle.interval.specs.Nearest.{from_rational}
use Rattle.interval.specs.Floor.{quarter_number}
use Rattle.grade.specs.Exact.{compiled}
use Rattle.grade.specs.Intervals.{grade_intervals, interval, piece, piece_gradient}
use Rattle.gyroid.specs.declared.Description.{Description}
use Rattle.gyroid.specs.declared.State.{State}
use Rattle.gyroid.specs.Description.{origin}
use Rattle.gyroid.specs.Refusals.{all_finite}
use Rattle.gyroid.specs.Leaf.{leaf}
use Rattle.gyroid.specs.Turn.{reduced, horner, sine_at, cosine_at, circle_at, turned, turn}
use Rattle.gyroid.specs.Jet.{waves, value_at, entry_at, gradient_at, jet, minus}
use Rattle.gyroid.specs.Residual.{centre, radius, radii, reach, spread, bracket_at, second_order, bound, expansion, residual, box_state}
use Rattle.gyroid.specs.Admitted.{tick_box}

-- a surface of a period, at a constant level
abbrev description : ℤ → ℤ → ℤ → Description
description period kind level = record {
  period = period;
  kind = kind;
  level = record { kind = pos 0; from = origin; to = origin; start = level; end = pos 0 };
  frame = record { w = pos 1; x = pos 0; y = pos 0; z = pos 0; translation = origin };
}

-- ---- the network with a period of 10 mm at the level 2, over the first cubic millimetre
abbrev listed : Arithmetic → Option Interval
listed ar = residual ar (leaf ar (description (pos 10240) (pos 0) (pos 2048))) (tick_box origin (pos 1024 ∷ pos 1024 ∷ pos 1024 ∷ []))

residuals : (listed Wide ≡ Some (record { lo = b64 0xc003_c8a9_2ea5_e623; hi = b64 0x3fce_4037_1fde_9e81 }))
    × (listed Narrow ≡ Some (record { lo = b64 0xc003_c8a9_2ea5_e61f; hi = b64 0x3fce_4037_1fde_9e60 }))
unfolding of_bits to_bits is_nan neg add sub mul div lt le round up_from next_up next_down ◌+F◌ ◌-F◌ exact_sum exact_difference sum difference product quotient
    negation square mid magnitude from_rational quarter_number compiled grade_intervals leaf all_finite reduced horner sine_at cosine_at circle_at turned
    turn waves value_at entry_at gradient_at jet minus centre radius radii reach spread bracket_at second_order bound expansion residual box_state
    interval piece piece_gradient
residuals = (refl, refl)

-- ---- the primitive surface with a period of 1024 mm at the level 1/4
abbrev hair : Arithmetic → State
hair ar = box_state ar (leaf ar (description (pos 1048576) (pos 2) (pos 256)))
    (tick_box (pos 460173 ∷ pos 269837 ∷ pos 3072 ∷ []) (pos 594317 ∷ pos 406029 ∷ pos 134144 ∷ []))

hairs : (hair Wide ≡ State.Unsettled) × (hair Narrow ≡ State.Inside)
unfolding of_bits to_bits is_nan neg add sub mul div lt le round up_from next_up next_down ◌+F◌ ◌-F◌ exact_sum exact_difference sum difference product quotient
    negation square mid magnitude from_rational quarter_number compiled grade_intervals leaf all_finite reduced horner sine_at cosine_at circle_at turned
    turn waves value_at entry_at gradient_at jet minus centre radius radii reach spread bracket_at second_order bound expansion residual box_state
    interval piece piece_gradient
hairs = (refl, refl)
