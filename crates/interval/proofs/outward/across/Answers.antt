-- Both sizes rise, and the signs of zeros do not matter. Assumes nothing.
use Rattle.std.proofs.Common.{arith}
use Rattle.interval.proofs.StepCode.{down_across, up_across, DownAcross, UpAcross, both}
use Rattle.interval.proofs.outward.across.Goals as goal

low : (c : goal.Start) → DownAcross c.args.low
low c = down_across c.args.low c.well_formed.0.1 c.requires.0 c.requires.1

high : (c : goal.Start) → UpAcross c.args.high
high c = up_across c.args.high c.well_formed.1.0.1 c.requires.2 c.requires.3

pub overflow_add-result : goal.overflow_add-result
overflow_add-result c = omega (arith, (low c).fits)

pub float_from_bits-result : goal.float_from_bits-result
float_from_bits-result c = (low c).good

pub overflow_add-result-2 : goal.overflow_add-result-2
overflow_add-result-2 c = omega (arith, (high c).fits)

pub float_from_bits-result-2 : goal.float_from_bits-result-2
float_from_bits-result-2 c = (high c).good

pub returns : goal.returns
returns c = both c.args.low c.args.high _ _ (low c) (high c)
