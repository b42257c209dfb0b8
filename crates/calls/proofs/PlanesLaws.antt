-- The axis that `planes` answers is 0, 1 or 2. Assumes nothing.
use mathlib.Core.Path.{◌≡◌, sym, subst}
use mathlib.Core.List.{List, [], ◌∷◌}
use Prim.Native.Nat.{ℕ, ◌<◌}
use lib.Dec.{eqb}
use lib.IntN.{ℤ, pos, negsuc}
use Rattle.std.specs.Prelude.{Option, Some, None, Result, Ok, Err}
use Rattle.exact.proofs.Choice.{choose}
use Rattle.limits.specs.declared.refusals.Refusal.{Refusal}
use Rattle.grade.specs.declared.Planes.{Planes}
use Rattle.grade.specs.Exact.{compiled}
use Rattle.grade.specs.Certified.{planes}
use Rattle.grade.specs.Said.{Said, found, refusing, answered}
use Rattle.grade.proofs.AxisLaws.{PlanesBelow, planes_below}
use Rattle.gyroid.specs.declared.Description.{Description}
use Rattle.gyroid.specs.Refusals.{refusal}
use Rattle.calls.specs.Calls.{planes_said, AxisBelow, planes_values, planes_call}

abbrev FirstBelow : Said ℤ → Type 0
FirstBelow (refusing n) = Unit {0}
FirstBelow (found []) = Unit {0}
FirstBelow (found (pos i ∷ rest)) = i < 3
FirstBelow (found (negsuc i ∷ rest)) = Unit {0}

of_values : (p : Option Planes) → PlanesBelow p → FirstBelow (found (planes_values p))
of_values (Some p) h = h
of_values None h = tt

of_answer : (n : ℕ) (v : List ℤ) → FirstBelow (found v) → FirstBelow (answered n v)
of_answer n v h = choose (eqb n 0) (found v) (refusing n) FirstBelow (λ t. h) (λ t. tt)

of_call : (r : Result (Option Planes) Refusal) → FirstBelow (planes_said r) → AxisBelow r
of_call (Err e) h = tt
of_call (Ok (Some p)) h = h
of_call (Ok None) h = tt

pub planes_axis : (r : Result (Option Planes) Refusal) (d : Description) → planes_said r ≡ planes_call d → AxisBelow r
unfolding planes_call
planes_axis r d e =
    let p = planes (compiled d.level) in
    of_call r (subst FirstBelow (sym e) (of_answer (refusal d) (planes_values p) (of_values p (planes_below (compiled d.level)))))
