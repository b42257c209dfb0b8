-- What document 01's table refuses of a level, and of `grade_range`. Definitions only; assumes nothing.
use Rattle.std.specs.Prelude.{Bool, not, ◌&&◌, List, ℕ, ℤ, pos}
use Rattle.limits.specs.Refusals.{refused, ◌or_else◌}
use Rattle.limits.specs.Ticks.{at, ticks, above}
use Rattle.grade.specs.declared.Grade.{Grade}
use Rattle.grade.specs.Grade.{in_limits, eq_z, is_linear}

abbrev pub same : List ℤ → List ℤ → Bool
same a b = eq_z (at a 0) (at b 0) && eq_z (at a 1) (at b 1) && eq_z (at a 2) (at b 2)

abbrev pub is_distance : Grade → Bool
is_distance g = eq_z g.kind (pos 2)

-- the two anchors are one point: "linear, from = to"
abbrev pub coincident : Grade → Bool
coincident g = is_linear g && same g.from g.to

-- `grade_range`: "1: entry outside its limits or kinds", "6: a low above its high; 7: distance; 8: from = to"
unfoldable pub range_refusal : Grade → List ℤ → List ℤ → ℕ
range_refusal g lo hi = refused (not (in_limits g && ticks lo && ticks hi)) 1 or_else refused (above lo hi) 6 or_else refused (is_distance g) 7 or_else refused (coincident g) 8
