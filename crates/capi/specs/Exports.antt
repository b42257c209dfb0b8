-- What each exported call says of the slices lent to it, `room` being how many numbers the last one holds. Definitions only; assumes nothing.
use Rattle.std.specs.Prelude.{◌≡◌, Bool, cond, List, map, ℕ, ◌≤◌, eqb, ℤ, pos, nat_abs, Float, length}
use Rattle.grade.specs.declared.Piece.{Piece}
use Rattle.grade.specs.declared.Piece.TheVariants.{Start, Ramp, End}
use Rattle.limits.specs.Refusals.{◌or_else◌}
use Rattle.grade.specs.Calls.{range_call}
use Rattle.grade.specs.Said.{Said, found, refusing}
use Rattle.calls.specs.Calls as calls
use Rattle.tree.specs.Box.{box_from}
use Rattle.walk.specs.declared.TieRule.{TieRule}
use Rattle.walk.specs.declared.TieRule.TheVariants.{GradeAxis, LowestAxis}
use Rattle.walk.specs.InUse.{walk_number, walk_table, Supposed, Demand}
use Rattle.capi.specs.Lent.{level, description, whole_point, point, box, triangle, lengths, piece_lent, walk_lent, unless}

-- ---- answers as rows of numbers
abbrev pub each : {A B : Type 0} → (A → B) → Said A → Said B
each f (refusing n) = refusing n
each f (found vs) = found (map f vs)

-- true is 1 and false is 0
abbrev pub bit : Bool → ℤ
bit b = cond b (pos 1) (pos 0)

-- ---- the calls on a description alone
unfoldable pub graded : List ℤ → ℕ → Said ℤ
graded ds room = unless (lengths (length ds) 0 0 room 1) (each bit (calls.graded_call (description ds)))

unfoldable pub saturated : List ℤ → ℕ → Said ℤ
saturated ds room = unless (lengths (length ds) 0 0 room 1) (each bit (calls.saturated_call (description ds)))

unfoldable pub planes : List ℤ → ℕ → Said ℤ
planes ds room = unless (lengths (length ds) 0 0 room 3) (calls.planes_call (description ds))

unfoldable pub curvature : List ℤ → ℕ → Said Float
curvature ds room = unless (lengths (length ds) 0 0 room 2) (calls.curvature_call (description ds))

unfoldable pub lipschitz : List ℤ → ℕ → Said Float
lipschitz ds room = unless (lengths (length ds) 0 0 room 2) (calls.lipschitz_call (description ds))

-- ---- over a box of whole ticks: three lows, then three highs
-- the lower numerator, the higher, and their denominator
unfoldable pub grade_range : List ℤ → List ℤ → ℕ → Said ℤ
grade_range ds bounds room = unless (lengths (length ds) (length bounds) 6 room 3) (range_call (level ds) (whole_point bounds 0) (whole_point bounds 3))

unfoldable pub level_piece : List ℤ → List ℤ → ℕ → Said ℤ
level_piece ds bounds room =
    unless (lengths (length ds) (length bounds) 6 room 1) (each pos (calls.level_piece_call (description ds) (whole_point bounds 0) (whole_point bounds 3)))

-- ---- over a box of doubles: the low end and the high end of each axis
unfoldable pub jet : List ℤ → List Float → ℕ → Said Float
jet ds world room = unless (lengths (length ds) (length world) 6 room 8) (calls.jet_call (description ds) (box world 0))

unfoldable pub affine_jet : List ℤ → List Float → ℕ → Said Float
affine_jet ds world room = unless (lengths (length ds) (length world) 6 room 8) (calls.affine_jet_call (description ds) (box world 0))

-- 0 Start, 1 Ramp, 2 End, the original's order; another number is refused 1: "entry outside its limits or kinds"
abbrev pub piece : ℕ → Piece
piece n = cond (eqb n 0) Start (cond (eqb n 1) Ramp End)

unfoldable pub derivatives : List ℤ → List Float → ℕ → ℕ → Said Float
derivatives ds world number room =
    unless (piece_lent (length ds) (length world) room number)
    (calls.derivatives_call (description ds) (box world 0) (piece number))

unfoldable pub residual : List ℤ → List Float → ℕ → Said Float
residual ds world room = unless (lengths (length ds) (length world) 6 room 2) (calls.residual_call (description ds) (box world 0))

unfoldable pub affine_residual : List ℤ → List Float → ℕ → Said Float
affine_residual ds world room = unless (lengths (length ds) (length world) 6 room 2) (calls.affine_residual_call (description ds) (box world 0))

unfoldable pub box_state : List ℤ → List Float → ℕ → Said ℤ
box_state ds world room = unless (lengths (length ds) (length world) 6 room 1) (each pos (calls.box_state_call (description ds) (box world 0)))

-- three corners, each as a box
unfoldable pub facet_residual : List ℤ → List Float → ℕ → Said Float
facet_residual ds corners room = unless (lengths (length ds) (length corners) 18 room 2) (calls.facet_residual_call (description ds) (triangle corners))

-- ---- at a point in doubles
unfoldable pub fast : List ℤ → List Float → ℕ → Said Float
fast ds p room = unless (lengths (length ds) (length p) 3 room 1) (calls.fast_call (description ds) (point p))

unfoldable pub fast_distance : List ℤ → List Float → ℕ → Said Float
fast_distance ds p room = unless (lengths (length ds) (length p) 3 room 1) (calls.fast_distance_call (description ds) (point p))

-- ---- the walk: what it returns, and what it leaves in the table t
-- 0 is the default tie rule, 1 the lowest axis; another number is refused 1, as a piece's is
abbrev pub tie_rule : ℕ → TieRule
tie_rule n = cond (eqb n 0) GradeAxis LowestAxis

unfoldable pub walk_status : List ℤ → List ℤ → ℤ → ℕ → ℕ → ℕ
walk_status ds ns D rule len =
    walk_lent (length ds) (length ns) rule or_else walk_number (description ds) (whole_point ns 0) (whole_point ns 3) D (tie_rule rule) len

unfoldable pub walk_left : List ℤ → List ℤ → ℤ → ℕ → List ℕ → List ℕ
walk_left ds ns D rule t =
    cond (eqb (walk_lent (length ds) (length ns) rule) 0) (walk_table (description ds) (whole_point ns 0) (whole_point ns 3) D (tie_rule rule) t) t

-- DEMAND 3 of it: what is supposed of the slices and the rule, and what is said of the bytes t that are left in the table
pub record WalkSupposed (ds ns : List ℤ) (D : ℤ) (rule len : ℕ) : Type 0 where
  -- the entries of a description are lent, and three lows and three highs;
  pub entries : length ds ≡ 18
  pub ends : length ns ≡ 6
  -- the rule is one of the two;
  pub rules : rule ≤ 1
  -- they and the table are as demand 3 supposes
  pub supposed : Supposed (description ds) (whole_point ns 0) (whole_point ns 3) D (tie_rule rule) len

abbrev pub WalkDemand : List ℤ → List ℤ → ℤ → ℕ → List ℕ → Type 0
WalkDemand ds ns D rule t = Demand (description ds) (box_from (whole_point ns 0) (whole_point ns 3)) (nat_abs D) (tie_rule rule) t
