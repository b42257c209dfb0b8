-- What is left is no NaN's pattern: its size is at most that of infinity. Assumes nothing.
use Rattle.std.proofs.Common.{arith}
use Rattle.std.proofs.lemmas.Float.{not_nan_f64_bits}
use Rattle.replay.proofs.words.float_of.Goals as goal

pub float_from_bits-result : goal.float_from_bits-result
float_from_bits-result c = not_nan_f64_bits c.args.n (omega (arith, c.if-m-gt9218868437227405312.false))
