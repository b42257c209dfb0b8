-- THE ARITHMETIC IN USE, and its sums and differences: what contracts say, here and in the layers above. The laws are of either arithmetic.
-- Definitions only; assumes nothing.
use Rattle.interval.specs.declared.Interval.{Interval}
use Rattle.interval.specs.Interval
use Rattle.interval.specs.Interval.{Arithmetic, Narrow}

abbrev pub in_use : Arithmetic
in_use = Narrow

abbrev pub sum : Interval → Interval → Interval
sum = Interval.sum in_use

abbrev pub difference : Interval → Interval → Interval
difference = Interval.difference in_use
