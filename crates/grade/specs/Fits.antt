-- The sizes that the layer's functions ask of their arguments: what document 01's limits leave. Definitions only; assumes nothing.
use Rattle.std.specs.Prelude.{List, ℕ, T, ℤ, pos, ◌<ℤ◌}
use Rattle.exact.specs.Within.{Within}
use Rattle.grade.specs.declared.Linear.{Linear}
use Rattle.grade.specs.declared.Grade.{Grade}
use Rattle.grade.specs.declared.GradeDef.{GradeDef}
use Rattle.grade.specs.declared.Slope.{Slope}
use Rattle.limits.specs.Ticks.{at}
use Rattle.grade.specs.Grade.{in_limits}

-- a vector of entries within n
pub record Within3 (n : ℕ) (v : List ℤ) : Type 0 where
  pub x : Within n (at v 0)
  pub y : Within n (at v 1)
  pub z : Within n (at v 2)

-- entries that refusal 1 has passed
pub record InLimits (g : Grade) : Type 0 where
  pub passed : T (in_limits g)

-- |d| is at most 2^21 on each axis, and L at most 3·2^42
pub record LinearFits (g : Linear) : Type 0 where
  pub from : Within3 1048576 g.from
  pub direction : Within3 2097152 g.direction
  pub length : Within 13194139533312 g.length_sq
  pub apart : pos 0 <ℤ g.length_sq
  pub start : Within 4096 g.start
  pub end : Within 4096 g.end

abbrev pub DefFits : GradeDef → Type 0
DefFits (GradeDef.Constant c) = Within 4096 c
DefFits (GradeDef.Linear g) = LinearFits g

-- the slope's parts, of a grade that certification has passed
pub record SlopeFits (s : Slope) : Type 0 where
  pub rise : Within 8192 s.rise
  pub distance : Within 6291456 s.distance
  pub apart : pos 0 <ℤ s.distance
