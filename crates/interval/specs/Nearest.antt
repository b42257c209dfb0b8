-- "A fraction's nearest double comes from one rounding; `from_rational` steps it both ways." Definitions only; assumes nothing.
use Rattle.std.specs.Prelude.{ℕ, suc, true, false, ℤ, pos, negsuc, Float}
use Rattle.std.specs.Float.{binary64}
use Rattle.std.specs.Float.Ieee.{round}
use Rattle.interval.specs.declared.Interval.{Interval}
use Rattle.interval.specs.Interval.{outward}

-- the double nearest to z / d, for a d above 0, ties to even
abbrev pub nearest : ℤ → ℕ → Float
nearest (pos n) d = round binary64 false n d
nearest (negsuc n) d = round binary64 true (suc n) d

unfoldable pub from_rational : ℤ → ℕ → Interval
from_rational z d = outward (nearest z d) (nearest z d)
