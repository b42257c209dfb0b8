-- `derivatives`: the gradient of g − c and the Hessian of g over a box on which the level is one piece, in the original's order of operations.
-- Of the primitive surface document 02 says: "The network's spreads and curvature are wide enough and stay in use for it." Definitions only;
-- assumes nothing.
use Rattle.std.specs.Prelude.{List, [], ◌∷◌, Float, Option, Some, None}
use Rattle.std.specs.Float.{binary64}
use Rattle.std.specs.Float.Ieee.{mul}
use Rattle.interval.specs.declared.Interval.{Interval}
use Rattle.interval.specs.Step.{b64}
use Rattle.interval.specs.Interval.{point, product}
use Rattle.grade.specs.declared.Piece.{Piece}
use Rattle.grade.specs.Intervals.{box_at, zero, piece_gradient}
use Rattle.grade.specs.InUse.{sum, difference}
use Rattle.gyroid.specs.declared.Surface.{Surface}
use Rattle.gyroid.specs.declared.Gyroid.{Gyroid}
use Rattle.gyroid.specs.declared.Waves.{Waves}
use Rattle.gyroid.specs.Turn.{symmetric}
use Rattle.gyroid.specs.Residual.{centre}
use Rattle.gyroid.specs.InUse.{waves, gradient_at, radii}
use Rattle.calls.specs.declared.Derivatives.{Derivatives}

abbrev one : Float
one = b64 0x3ff0_0000_0000_0000

abbrev two : Float
two = b64 0x4000_0000_0000_0000

-- widened both ways by s
unfoldable pub widened : Interval → Float → Interval
widened v s = sum v (symmetric s)

-- ---- the gradient: the network's second derivatives are at most 2k² on the diagonal and k² off it
-- k² (a·x + b·y + c·z) for the half-widths x, y, z, its high end
unfoldable pub across : Interval → Float → Float → Float → List Interval → Float
across k2 a b c r = (sum (sum (sum zero (product (product k2 (point a)) (box_at r 0))) (product (product k2 (point b)) (box_at r 1))) (product (product k2 (point c)) (box_at r 2))).hi

unfoldable pub wide_gradient : List Interval → List Interval → Interval → List Interval → List Interval
wide_gradient g slope k2 r =
    widened (difference (box_at g 0) (box_at slope 0)) (across k2 two one one r)
    ∷ widened (difference (box_at g 1) (box_at slope 1)) (across k2 one two one r)
    ∷ widened (difference (box_at g 2) (box_at slope 2)) (across k2 one one two r)
    ∷ []

-- ---- the Hessian: the network's third derivatives are at most 2k³
-- 2k³ (x + y + z), its high end
unfoldable pub hessian_spread : Interval → Interval → List Interval → Float
hessian_spread k k2 r = (product (point (mul binary64 two (product k2 k).hi)) (point (sum (sum (box_at r 0) (box_at r 1)) (box_at r 2)).hi)).hi

-- 0 − v k², widened
unfoldable pub opposite : Interval → Interval → Float → Interval
opposite v k2 s = widened (difference zero (product v k2)) s

-- the network's: 0 − (a·b + c·d) k², and 0 − a·b·k²
unfoldable pub on_diagonal : Interval → Interval → Interval → Interval → Interval → Float → Interval
on_diagonal a b c d k2 s = opposite (sum (product a b) (product c d)) k2 s

unfoldable pub off_diagonal : Interval → Interval → Interval → Float → Interval
off_diagonal a b k2 s = opposite (product a b) k2 s

-- row by row; of the primitive surface "−k² cos X, −k² cos Y, −k² cos Z on the diagonal and zeros off it",
-- which in floats is "0 − cx × wave squared, with plain zeros off the diagonal before the spread"
unfoldable pub hessian_at : Surface → Waves → Interval → Float → List Interval
hessian_at Surface.Network w k2 s =
    on_diagonal w.x.sine w.y.cosine w.z.sine w.x.cosine k2 s ∷ off_diagonal w.x.cosine w.y.sine k2 s ∷ off_diagonal w.x.sine w.z.cosine k2 s
    ∷ off_diagonal w.x.cosine w.y.sine k2 s ∷ on_diagonal w.y.sine w.z.cosine w.x.sine w.y.cosine k2 s ∷ off_diagonal w.y.cosine w.z.sine k2 s
    ∷ off_diagonal w.x.sine w.z.cosine k2 s ∷ off_diagonal w.y.cosine w.z.sine k2 s ∷ on_diagonal w.z.sine w.x.cosine w.y.sine w.z.cosine k2 s
    ∷ []
hessian_at Surface.Primitive w k2 s =
    opposite w.x.cosine k2 s ∷ widened zero s ∷ widened zero s
    ∷ widened zero s ∷ opposite w.y.cosine k2 s ∷ widened zero s
    ∷ widened zero s ∷ widened zero s ∷ opposite w.z.cosine k2 s
    ∷ []

-- ---- nothing where no waves are found
abbrev pub derivatives_of : Option Waves → Gyroid → List Interval → List Interval → Option Derivatives
derivatives_of None g slope r = None
derivatives_of (Some w) g slope r = Some (record {
  gradient = wide_gradient (gradient_at g.surface w g.wave) slope g.wave_squared r;
  hessian = hessian_at g.surface w g.wave_squared (hessian_spread g.wave g.wave_squared r);
})

unfoldable pub derivatives : Gyroid → List Interval → Piece → Option Derivatives
derivatives g w piece = derivatives_of (waves g (centre w)) g (piece_gradient g.intervals piece) (radii w)
