-- By computation, from the exact fractions. Assumes nothing.
use Rattle.std.proofs.Common.{refl}
use lib.Ieee.{of_bits, to_bits, is_nan, round, neg}
use Rattle.interval.specs.Step.{next_up, next_down}
use Rattle.interval.specs.Nearest.{from_rational}
use Rattle.interval.proofs.Interval.cosine.Goals as goal

pub returns : goal.returns
unfolding of_bits neg next_up next_down from_rational round is_nan to_bits
returns c = refl
