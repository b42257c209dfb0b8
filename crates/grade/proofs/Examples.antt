-- The laws at work on document 01's G: it is accepted, and marked value (3) is the level −128 at every rational point of its box. Assumes nothing.
use mathlib.Core.Path.{refl}
use mathlib.Core.Bool.{not}
use lib.Dec.{T, lit<}
use lib.IntN.{pos, negsuc}
use Rattle.exact.specs.Fraction.{whole, ◌/F◌, ◌≈F◌}
use Rattle.exact.proofs.Fraction.{≤F_trans, ≈F_trans, ≈F_le, ≈F_ge, ≤F_antisym, over_whole}
use Rattle.grade.specs.Grade.{in_limits, minus, dot, Point, level}
use Rattle.grade.specs.Exact.{linear_of, compiled, least_corner, greatest_corner, least_along, greatest_along, level_over, linear_range, range}
use Rattle.grade.specs.Refusals.{coincident}
use Rattle.grade.specs.Fits.{InLimits}
use Rattle.grade.specs.Holds.{InBox}
use Rattle.grade.specs.Marked.{along, G}
use Rattle.grade.proofs.RangeLaws.{range_holds}

limits : InLimits G
unfolding in_limits
limits = record { passed = tt }

apart : T (not (coincident G))
apart = tt

-- the marked numerator over L
three : whole (negsuc 13421772799) /F 104857600 ≈F whole (negsuc 127)
three = ≈F_trans (over_whole (negsuc 13421772799) (lit< tt)) (record { eq = refl })

quarter : (p : Point) → InBox (along (pos 2560)) (along (pos 2560)) p → level G p ≈F whole (negsuc 127)
unfolding minus dot linear_of compiled least_corner greatest_corner least_along greatest_along level_over linear_range range
quarter p inside =
    let (low, high) = (range_holds G (along (pos 2560)) (along (pos 2560)) apart).holds p inside in
    ≤F_antisym (≤F_trans high (≈F_le three)) (≤F_trans (≈F_ge three) low)
