-- `curvature` and `facet_residual`, in the original's order of operations. "`facet_residual` rounds lo − curved and hi + curved to nearest, so
-- it promises no enclosure". Definitions only; assumes nothing.
use Rattle.std.specs.Prelude.{List, [], ◌∷◌, Float, Option, option_map}
use Rattle.std.specs.Float.{binary64}
use Rattle.std.specs.Float.Ieee.{add, sub}
use Rattle.interval.specs.declared.Interval.{Interval}
use Rattle.interval.specs.Step.{b64}
use Rattle.interval.specs.Interval.{point, least, greatest, product, quotient, square}
use Rattle.grade.specs.Intervals.{box_at}
use Rattle.grade.specs.InUse.{sum}
use Rattle.gyroid.specs.declared.Gyroid.{Gyroid}
use Rattle.gyroid.specs.declared.Jet.{Jet}
use Rattle.gyroid.specs.InUse.{minus, affine_jet}
use Rattle.calls.specs.declared.Corners.{Corners}
use Rattle.calls.specs.Refusals.{corner}

-- an upper bound of the Hessian's norm: the wave's square times 3.5
unfoldable pub curvature : Gyroid → Interval
curvature g = product g.wave_squared (point (b64 0x400c_0000_0000_0000))

-- ---- the centroid: the corners' sum over 3
unfoldable pub third : Interval → Interval → Interval → Interval
third a b c = quotient (sum (sum a b) c) (point (b64 0x4008_0000_0000_0000))

unfoldable pub centroid_of : List Interval → List Interval → List Interval → List Interval
centroid_of a b c = third (box_at a 0) (box_at b 0) (box_at c 0) ∷ third (box_at a 1) (box_at b 1) (box_at c 1) ∷ third (box_at a 2) (box_at b 2) (box_at c 2) ∷ []

unfoldable pub centroid : List (List Interval) → List Interval
centroid c = centroid_of (corner c 0) (corner c 1) (corner c 2)

-- ---- over the corners: the rate along d, and the square of d
unfoldable pub dot : List Interval → List Interval → Interval
dot a b = sum (sum (product (box_at a 0) (box_at b 0)) (product (box_at a 1) (box_at b 1))) (product (box_at a 2) (box_at b 2))

unfoldable pub squared : List Interval → Interval
squared d = sum (sum (square (box_at d 0)) (square (box_at d 1))) (square (box_at d 2))

abbrev pub no_corners : Corners
no_corners = record { lo = b64 0; hi = b64 0; reach = b64 0 }

unfoldable pub joined : Corners → Interval → Interval → Corners
joined s rate size = record { lo = least s.lo rate.lo; hi = greatest s.hi rate.hi; reach = greatest s.reach size.hi }

unfoldable pub with_corner : Corners → List Interval → List Interval → Corners
with_corner s gradient d = joined s (dot gradient d) (squared d)

unfoldable pub corners : List Interval → List (List Interval) → List Interval → Corners
corners gradient c m = with_corner (with_corner (with_corner no_corners gradient (minus (corner c 0) m)) gradient (minus (corner c 1) m)) gradient (minus (corner c 2) m)

-- ---- the second-order term, and the answer
unfoldable pub facet_curved : Interval → Float → Float
facet_curved k reach = (product (product (point (b64 0x3fe0_0000_0000_0000)) k) (point reach)).hi

unfoldable pub facet_about : Interval → Jet → Corners → Interval
facet_about k j s = sum j.value (record { lo = sub binary64 s.lo (facet_curved k s.reach); hi = add binary64 s.hi (facet_curved k s.reach) })

unfoldable pub facet_residual : Gyroid → List (List Interval) → Option Interval
facet_residual g c = option_map (λ j. facet_about (curvature g) j (corners j.gradient c (centroid c))) (affine_jet g (centroid c))
