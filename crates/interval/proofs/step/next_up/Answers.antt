-- Below zero the pattern falls toward zero; from zero up to the largest double it rises; what is left stays. Assumes nothing.
use Rattle.std.proofs.Common.{sym, arith}
use Rattle.interval.proofs.StepCode.{up_below, up_across, up_stays, UpBelow, UpAcross}
use Rattle.interval.proofs.step.next_up.Goals as goal

nearer : (c : goal.Then-x) → UpBelow c.args.x
nearer c = up_below c.args.x c.well_formed.0.1 c.if-x.true

away : (c : goal.Then-x-2) → UpAcross c.args.x
away c = up_across c.args.x c.well_formed.0.1 c.if-x.false c.if-x-2.true

pub overflow_sub-result : goal.overflow_sub-result
overflow_sub-result c = (nearer c).fits

pub float_from_bits-result : goal.float_from_bits-result
float_from_bits-result c = (nearer c).good

pub returns-then-x : goal.returns-then-x
returns-then-x c = sym (nearer c).next

pub overflow_add-result : goal.overflow_add-result
overflow_add-result c = omega (arith, (away c).fits)

pub float_from_bits-result-then-x-2 : goal.float_from_bits-result-then-x-2
float_from_bits-result-then-x-2 c = (away c).good

pub returns-then-x-2 : goal.returns-then-x-2
returns-then-x-2 c = sym (away c).next

pub returns : goal.returns
returns c = up_stays c.args.x c.well_formed.0.1 c.if-x-2.false
