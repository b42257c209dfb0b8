-- By computation, from the exact fractions. Assumes nothing.
use Rattle.std.proofs.Common.{refl}
use lib.Ieee.{of_bits, round, neg}
use Rattle.interval.proofs.Interval.sine_nearest.Goals as goal

pub returns : goal.returns
unfolding of_bits neg round
returns c = refl
