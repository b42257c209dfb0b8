-- The compiled grade and its exact answers, numerators over L: document 01's "Exact grade". Definitions only; assumes nothing.
use Rattle.std.specs.Prelude.{Bool, cond, Option, Some, None, not, ◌&&◌, List, [], ◌∷◌, ℤ, pos, ◌+ℤ◌, ◌-ℤ◌, ◌*ℤ◌}
use Rattle.std.specs.Int.Signed.{lt_z, le_z}
use Rattle.grade.specs.declared.Grade.{Grade}
use Rattle.grade.specs.declared.Linear.{Linear}
use Rattle.grade.specs.declared.Bounds.{Bounds}
use Rattle.grade.specs.declared.GradeDef.{GradeDef}
use Rattle.grade.specs.declared.Piece.{Piece}
use Rattle.grade.specs.declared.Piece.TheVariants.{Start, Ramp, End}
use Rattle.limits.specs.Ticks.{at}
use Rattle.grade.specs.Grade.{eq_z, is_linear, minus, dot}

-- ---- compiled: a constant, or the linear level's numbers
unfoldable pub linear_of : List ℤ → List ℤ → ℤ → ℤ → Linear
linear_of from to start end = record { from = from; direction = minus to from; length_sq = dot (minus to from) (minus to from); start = start; end = end }

abbrev pub numbers : Grade → Linear
numbers g = linear_of g.from g.to g.start g.end

-- "Equal start and end become a constant, anchors and range unchecked"
unfoldable pub compiled : Grade → GradeDef
compiled g = cond (is_linear g && not (eq_z g.start g.end)) (GradeDef.Linear (numbers g)) (GradeDef.Constant g.start)

-- ---- t's numerator over a box: along an axis it grows with the coordinate where d is above 0, and elsewhere it does not
-- the end of lo..hi where x·d is least, and the one where it is greatest
abbrev pub least_end : ℤ → ℤ → ℤ → ℤ
least_end d lo hi = cond (lt_z (pos 0) d) lo hi

abbrev pub greatest_end : ℤ → ℤ → ℤ → ℤ
greatest_end d lo hi = cond (lt_z (pos 0) d) hi lo

-- the corner of the box lo..hi where p·d is least, and the one where it is greatest
unfoldable pub least_corner : List ℤ → List ℤ → List ℤ → List ℤ
least_corner d lo hi = least_end (at d 0) (at lo 0) (at hi 0) ∷ least_end (at d 1) (at lo 1) (at hi 1) ∷ least_end (at d 2) (at lo 2) (at hi 2) ∷ []

unfoldable pub greatest_corner : List ℤ → List ℤ → List ℤ → List ℤ
greatest_corner d lo hi = greatest_end (at d 0) (at lo 0) (at hi 0) ∷ greatest_end (at d 1) (at lo 1) (at hi 1) ∷ greatest_end (at d 2) (at lo 2) (at hi 2) ∷ []

-- (p − from)·d at each of them
unfoldable pub least_along : Linear → List ℤ → List ℤ → ℤ
least_along g lo hi = dot (minus (least_corner g.direction lo hi) g.from) g.direction

unfoldable pub greatest_along : Linear → List ℤ → List ℤ → ℤ
greatest_along g lo hi = dot (minus (greatest_corner g.direction lo hi) g.from) g.direction

-- ---- "An answer is a numerator over L in level counts, unreduced, or over 1 for a constant"
-- "held to 0..1": the numerator to 0..l
abbrev pub held : ℤ → ℤ → ℤ
held t l = cond (lt_z t (pos 0)) (pos 0) (cond (lt_z l t) l t)

-- the level's numerator where t's is t
unfoldable pub level_over : Linear → ℤ → ℤ
level_over g t = g.start *ℤ g.length_sq +ℤ held t g.length_sq *ℤ (g.end -ℤ g.start)

-- two numerators in order
abbrev pub bounds_of : ℤ → ℤ → ℤ → Bounds
bounds_of a b over = record { low = cond (lt_z b a) b a; high = cond (lt_z b a) a b; over = over }

-- "takes both bounds at corners"
unfoldable pub linear_range : Linear → List ℤ → List ℤ → Bounds
linear_range g lo hi = bounds_of (level_over g (least_along g lo hi)) (level_over g (greatest_along g lo hi)) g.length_sq

unfoldable pub range : GradeDef → List ℤ → List ℤ → Bounds
range (GradeDef.Constant c) lo hi = record { low = c; high = c; over = pos 1 }
range (GradeDef.Linear g) lo hi = linear_range g lo hi

-- ---- "`exact_piece` tests in this order: constant Start; greatest t ≤ 0 Start; least t ≥ 1 End; both in 0..1 Ramp; else none."
abbrev pub chosen : Bool → Bool → Bool → Option Piece
chosen start end ramp = cond start (Some Start) (cond end (Some End) (cond ramp (Some Ramp) None))

-- t is its numerator over L, which is above 0
unfoldable pub linear_piece : Linear → List ℤ → List ℤ → Option Piece
linear_piece g lo hi =
    let least = least_along g lo hi in
    let greatest = greatest_along g lo hi in
    let l = g.length_sq in
    chosen (le_z greatest (pos 0)) (le_z l least) (le_z (pos 0) least && le_z greatest l)

unfoldable pub exact_piece : GradeDef → List ℤ → List ℤ → Option Piece
exact_piece (GradeDef.Constant c) lo hi = Some Start
exact_piece (GradeDef.Linear g) lo hi = linear_piece g lo hi
