-- The public calls: document 01's number and values for each case of an answer, and what each call says of any input.
-- Definitions only; assumes nothing.
use Rattle.std.specs.Prelude.{Bool, true, false, cond, not, ◌&&◌, List, [], ◌∷◌, ℕ, ◌<◌, ◌++◌, T, eqb, ℤ, pos, neg_ℤ, Float}
use Rattle.std.specs.Prelude.{Option, Some, None, IfSome, Result, Ok, Err, IfOk}
use Rattle.std.specs.Int.Signed.{le_z}
use Rattle.interval.specs.declared.Interval.{Interval}
use Rattle.interval.specs.Interval.{point}
use Rattle.grade.specs.declared.GradeDef.{GradeDef}
use Rattle.grade.specs.declared.Piece.{Piece}
use Rattle.grade.specs.Pieces.{piece_number}
use Rattle.grade.specs.declared.Planes.{Planes}
use Rattle.limits.specs.Ticks.{ticks, above}
use Rattle.grade.specs.Grade.{Point}
use Rattle.grade.specs.Exact.{compiled, exact_piece}
use Rattle.grade.specs.Certified.{planes}
use Rattle.grade.specs.Fast.{fast}
use Rattle.limits.specs.declared.refusals.Refusal.{Refusal}
use Rattle.limits.specs.Refusals.{refused, ◌or_else◌, number}
use Rattle.grade.specs.Holds as grade
use Rattle.grade.specs.Said.{Said, found, refusing, answered}
use Rattle.gyroid.specs.declared.Surface.{Surface}
use Rattle.gyroid.specs.declared.Description.{Description}
use Rattle.gyroid.specs.declared.Jet.{Jet}
use Rattle.gyroid.specs.declared.State.{State}
use Rattle.gyroid.specs.declared.State.TheVariants.{Unsettled}
use Rattle.gyroid.specs.Refusals.{refusal}
use Rattle.gyroid.specs.Leaf.{surface_of}
use Rattle.gyroid.specs.Residual.{state_number}
use Rattle.grade.specs.Holds.{OfTicks}
use Rattle.gyroid.specs.Settles.{Holds, Settles}
use Rattle.gyroid.specs.InUse.{leaf, jet, affine_jet, residual, affine_residual, box_state}
use Rattle.calls.specs.declared.Derivatives.{Derivatives}
use Rattle.calls.specs.Refusals.{all_ordered, has_infinite, all_near, box_refusal, triangle_refusal}
use Rattle.calls.specs.Facet.{curvature, facet_residual}
use Rattle.calls.specs.Derivatives.{derivatives}
use Rattle.calls.specs.Fast.{point_at, fast_distance}

-- ---- the number of an answer that refuses, and the values of one that is found: none of them where nothing is
abbrev pub said : {A B : Type 0} → (A → List B) → Result A Refusal → Said B
said values (Ok a) = found (values a)
said values (Err r) = refusing (number r)

abbrev pub one : {A : Type 0} → A → List A
one a = a ∷ []

abbrev pub any : {A B : Type 0} → (A → List B) → Option A → List B
any values None = []
any values (Some a) = values a

-- "low and high"
abbrev pub ends : Interval → List Float
ends i = i.lo ∷ i.hi ∷ []

abbrev pub residual_values : Option Interval → List Float
residual_values = any ends

abbrev pub bound_said : Result Interval Refusal → Said Float
bound_said = said ends

abbrev pub enclosure_said : Result (Option Interval) Refusal → Said Float
enclosure_said = said residual_values

abbrev pub double_said : Result Float Refusal → Said Float
double_said = said one

abbrev pub state_said : Result State Refusal → Said ℕ
state_said = said (λ s. state_number s ∷ [])

abbrev pub piece_values : Option Piece → List ℕ
piece_values = any (λ p. piece_number p ∷ [])

abbrev pub level_piece_said : Result (Option Piece) Refusal → Said ℕ
level_piece_said = said piece_values

abbrev pub truth_said : Result Bool Refusal → Said Bool
truth_said = said one

abbrev pub perhaps_said : Result (Option Bool) Refusal → Said Bool
perhaps_said = said (any one)

-- "the axis, then the positions of `from` and `to` in ticks, or none"
abbrev pub plane_values : Planes → List ℤ
plane_values p = pos p.axis ∷ p.from ∷ p.to ∷ []

abbrev pub planes_values : Option Planes → List ℤ
planes_values = any plane_values

abbrev pub planes_said : Result (Option Planes) Refusal → Said ℤ
planes_said = said planes_values

-- the axis of planes that are found is one of three
abbrev pub AxisBelow : Result (Option Planes) Refusal → Type 0
AxisBelow r = IfOk r (λ o. IfSome o (λ p. p.axis < 3))

-- the ends of intervals, one after the other
abbrev pub rows : List Interval → List Float
rows [] = []
rows (v ∷ vs) = v.lo ∷ v.hi ∷ rows vs

-- the value, then the gradient
abbrev pub jet_values : Jet → List Float
jet_values j = rows (j.value ∷ j.gradient)

abbrev pub jet_said : Result (Option Jet) Refusal → Said Float
jet_said = said (any jet_values)

-- the gradient, then the Hessian row by row
abbrev pub derivatives_values : Derivatives → List Float
derivatives_values d = rows (d.gradient ++ d.hessian)

abbrev pub derivatives_said : Result (Option Derivatives) Refusal → Said Float
derivatives_said = said (any derivatives_values)

-- ---- the calls on a description alone
abbrev pub is_graded : GradeDef → Bool
is_graded (GradeDef.Constant c) = false
is_graded (GradeDef.Linear l) = true

unfoldable pub graded_call : Description → Said Bool
graded_call d = answered (refusal d) (is_graded (compiled d.level) ∷ [])

-- 3/2 in level counts; of the primitive surface "Saturation moves to 3 and −3 for this kind"
abbrev pub saturation : Surface → ℤ
saturation Surface.Network = pos 1536
saturation Surface.Primitive = pos 3072

-- "true from 3/2, false to −3/2, else nothing"; a ramp gives nothing
abbrev pub saturated_at : Surface → ℤ → Option Bool
saturated_at f c = cond (le_z (saturation f) c) (Some true) (cond (le_z c (neg_ℤ (saturation f))) (Some false) None)

abbrev pub saturated_by : Surface → GradeDef → Option Bool
saturated_by f (GradeDef.Constant c) = saturated_at f c
saturated_by f (GradeDef.Linear l) = None

unfoldable pub saturated_call : Description → Said Bool
saturated_call d = answered (refusal d) (any one (saturated_by (surface_of d.kind) (compiled d.level)))

unfoldable pub planes_call : Description → Said ℤ
planes_call d = answered (refusal d) (planes_values (planes (compiled d.level)))

unfoldable pub curvature_call : Description → Said Float
curvature_call d = answered (refusal d) (ends (curvature (leaf d)))

unfoldable pub lipschitz_call : Description → Said Float
lipschitz_call d = answered (refusal d) (ends (leaf d).lipschitz)

-- ---- over a box of whole ticks: "description and whole-number box" is one row, and 6 comes "after the description"
unfoldable pub level_piece_refusal : Description → List ℤ → List ℤ → ℕ
level_piece_refusal d lo hi = refused (not (ticks lo && ticks hi)) 1 or_else refusal d or_else refused (above lo hi) 6

unfoldable pub level_piece_call : Description → List ℤ → List ℤ → Said ℕ
level_piece_call d lo hi = answered (level_piece_refusal d lo hi) (piece_values (exact_piece (compiled d.level) lo hi))

-- of an accepted call a found piece says what the level is at every rational point of the box
abbrev pub PieceSays : Description → List ℤ → List ℤ → Result (Option Piece) Refusal → Type 0
PieceSays d lo hi (Err r) = Unit {0}
PieceSays d lo hi (Ok None) = Unit {0}
PieceSays d lo hi (Ok (Some p)) = (q : Point) → grade.InBox lo hi q → grade.SaysLevel d.level q (Some p)

-- ---- over a box of doubles
unfoldable pub jet_call : Description → List Interval → Said Float
jet_call d p = answered (refusal d or_else box_refusal p) (any jet_values (jet (leaf d) p))

unfoldable pub affine_jet_call : Description → List Interval → Said Float
affine_jet_call d p = answered (refusal d or_else box_refusal p) (any jet_values (affine_jet (leaf d) p))

unfoldable pub derivatives_call : Description → List Interval → Piece → Said Float
derivatives_call d w piece = answered (refusal d or_else box_refusal w) (any derivatives_values (derivatives (leaf d) w piece))

-- "`residual`, `affine_residual` and `box_state` meet an infinite end after 9 and before 10: none, none, unsettled."
abbrev pub by_rows : {A : Type 0} → Description → List Interval → List A → List A → Said A
by_rows d w atInfinite values =
    cond (not (eqb (refusal d) 0)) (refusing (refusal d))
    (cond (not (all_ordered w)) (refusing 9)
    (cond (has_infinite w) (found atInfinite)
    (cond (not (all_near w)) (refusing 10)
    (found values))))

unfoldable pub residual_call : Description → List Interval → Said Float
residual_call d w = by_rows d w [] (residual_values (residual (leaf d) w))

-- over a box with the ends of whole ticks an enclosure that is found holds every admitted residual
abbrev pub EnclosureHolds : Description → List Interval → Result (Option Interval) Refusal → Type 0
EnclosureHolds d w (Err r) = Unit {0}
EnclosureHolds d w (Ok None) = Unit {0}
EnclosureHolds d w (Ok (Some v)) = (lo hi : List ℤ) → T (ticks lo) → T (ticks hi) → OfTicks lo hi w → Holds d lo hi (Some v)

unfoldable pub affine_residual_call : Description → List Interval → Said Float
affine_residual_call d w = by_rows d w [] (residual_values (affine_residual (leaf d) w))

unfoldable pub box_state_call : Description → List Interval → Said ℕ
box_state_call d w = by_rows d w (state_number Unsettled ∷ []) (state_number (box_state (leaf d) w) ∷ [])

-- and a state says the sign of all of them
abbrev pub StateSettles : Description → List Interval → Result State Refusal → Type 0
StateSettles d w (Err r) = Unit {0}
StateSettles d w (Ok s) = (lo hi : List ℤ) → T (ticks lo) → T (ticks hi) → OfTicks lo hi w → Settles d lo hi s

unfoldable pub facet_residual_call : Description → List (List Interval) → Said Float
facet_residual_call d c = answered (refusal d or_else triangle_refusal c) (residual_values (facet_residual (leaf d) c))

-- ---- at a point in doubles, which is refused as the box of its points
abbrev pub point_box : List Float → List Interval
point_box p = point (point_at p 0) ∷ point (point_at p 1) ∷ point (point_at p 2) ∷ []

unfoldable pub fast_call : Description → List Float → Said Float
fast_call d p = answered (refusal d or_else box_refusal (point_box p)) (fast (compiled d.level) p ∷ [])

unfoldable pub fast_distance_call : Description → List Float → Said Float
fast_distance_call d p = answered (refusal d or_else box_refusal (point_box p)) (fast_distance (leaf d) p ∷ [])
