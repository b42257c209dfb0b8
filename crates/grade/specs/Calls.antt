-- The public call `grade_range`: document 01's number and values for each case of its answer, and what they are. Definitions only; assumes nothing.
use Rattle.std.specs.Prelude.{List, [], ◌∷◌, ℤ, Result, Ok, Err}
use Rattle.limits.specs.declared.refusals.Refusal.{Refusal}
use Rattle.limits.specs.Refusals.{number}
use Rattle.grade.specs.declared.Grade.{Grade}
use Rattle.grade.specs.declared.Bounds.{Bounds}
use Rattle.grade.specs.Exact.{compiled, range}
use Rattle.grade.specs.Refusals.{range_refusal}
use Rattle.grade.specs.Holds.{RangeHolds}
use Rattle.grade.specs.Said.{Said, found, refusing, answered}

-- two numerators and the denominator
abbrev pub three : Bounds → List ℤ
three b = b.low ∷ b.high ∷ b.over ∷ []

abbrev pub range_said : Result Bounds Refusal → Said ℤ
range_said (Err r) = refusing (number r)
range_said (Ok b) = found (three b)

unfoldable pub range_call : Grade → List ℤ → List ℤ → Said ℤ
range_call g lo hi = answered (range_refusal g lo hi) (three (range (compiled g) lo hi))

-- of an accepted call the bounds are ordered, hold every level of the box and are taken at its corners
abbrev pub AnswerHolds : Grade → List ℤ → List ℤ → Result Bounds Refusal → Type 0
AnswerHolds g lo hi (Err r) = Unit {0}
AnswerHolds g lo hi (Ok b) = RangeHolds g lo hi b
