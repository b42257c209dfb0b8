-- What the code asks of a box before it shifts its coordinates. Definitions only; assumes nothing.
use Rattle.exact.specs.Within.{Within}
use Rattle.tree.specs.declared.Axis.{Axis}
use Rattle.tree.specs.Box.{Box, low, high}

-- ends within "−2^20 to 2^20", which refusal 1 sees to
pub record InTicks (b : Box) : Type 0 where
  pub lows : (a : Axis) → Within 1048576 (low a b)
  pub highs : (a : Axis) → Within 1048576 (high a b)
