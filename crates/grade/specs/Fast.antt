-- `fast`, the grade in doubles, in the original's order of operations. Definitions only; assumes nothing.
use Rattle.std.specs.Prelude.{cond, List, ℕ, ℤ, get_or, Float}
use Rattle.std.specs.Float.{binary64, nan}
use Rattle.std.specs.Float.Ieee.{add, sub, mul, div, lt}
use Rattle.interval.specs.Step.{b64}
use Rattle.interval.specs.Nearest.{nearest}
use Rattle.grade.specs.declared.Linear.{Linear}
use Rattle.grade.specs.declared.GradeDef.{GradeDef}
use Rattle.limits.specs.Ticks.{at}

-- ticks in millimetres, and level counts as levels
abbrev pub near : ℤ → Float
near z = nearest z 1024

-- held to 0..1; a NaN stays
abbrev pub clamp : Float → Float
clamp t = cond (lt t (b64 0)) (b64 0) (cond (lt (b64 0x3ff0_0000_0000_0000) t) (b64 0x3ff0_0000_0000_0000) t)

-- (x − from) × d
abbrev pub fast_along : Float → ℤ → ℤ → Float
fast_along x from d = mul binary64 (sub binary64 x (near from)) (near d)

abbrev pub fast_axis : Linear → List Float → ℕ → Float
fast_axis g p i = fast_along (get_or p i nan) (at g.from i) (at g.direction i)

-- t, left to right
abbrev pub fast_parameter : Linear → List Float → Float
fast_parameter g p = div binary64 (add binary64 (add binary64 (fast_axis g p 0) (fast_axis g p 1)) (fast_axis g p 2)) (nearest g.length_sq 1048576)

unfoldable pub linear_fast : Linear → List Float → Float
linear_fast g p = add binary64 (near g.start) (mul binary64 (clamp (fast_parameter g p)) (sub binary64 (near g.end) (near g.start)))

unfoldable pub fast : GradeDef → List Float → Float
fast (GradeDef.Constant c) p = near c
fast (GradeDef.Linear g) p = linear_fast g p
