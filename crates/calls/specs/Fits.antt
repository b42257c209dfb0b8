-- What the layer's functions ask of their arguments, and callers have shown. Definitions only; assumes nothing.
use Rattle.std.specs.Prelude.{List, Float}
use Rattle.interval.specs.Encloses.{Small}
use Rattle.grade.specs.Fits.{DefFits}
use Rattle.gyroid.specs.declared.Gyroid.{Gyroid}
use Rattle.calls.specs.Fast.{point_at}

-- a turn in doubles is at most 2^50: a point at most 2^40, times at most 2^10
pub record FastFits (g : Gyroid) : Type 0 where
  pub turns : Small 10 g.fast_turns
  pub grade : DefFits g.grade

pub record Near (p : List Float) : Type 0 where
  pub x : Small 40 (point_at p 0)
  pub y : Small 40 (point_at p 1)
  pub z : Small 40 (point_at p 2)
