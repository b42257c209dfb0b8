-- Both patterns are positive: the low one falls and the high one rises, and is put back where the end is exact. Assumes nothing.
use Rattle.std.proofs.Common.{◌≡◌, ℕ, ◌+◌, ◌-◌, ◌<◌, ◌≤◌, cond, true, arith, rules}
use lib.Ieee.{fits, binary64, lt, le}
use Rattle.std.specs.Int.{from_bool}
use Rattle.interval.specs.declared.outward.End.{End}
use Rattle.interval.specs.Step.{b64, next_up, next_down}
use Rattle.interval.proofs.SignTests.{largest}
use Rattle.interval.proofs.StepCode.{Moved, bits_of, down_above, up_above, falls, rises, both_ends}
use Rattle.interval.proofs.outward.above.Goals as goal

low : (e : End) {n : ℕ} → fits binary64 e.value ≡ true → n ≡ from_bool e.exact → lt (b64 0) e.value ≡ true
    → Moved e.value (cond e.exact e.value (next_down e.value)) (bits_of e.value - 1 + n)
    ((1 ≤ bits_of e.value) × (bits_of e.value - 1 + n < 0x1_0000_0000_0000_0000))
low e f p h = falls e.value f e.exact _ p (down_above e.value f h)

high : (e : End) {n : ℕ} → fits binary64 e.value ≡ true → n ≡ from_bool e.exact → lt (b64 0) e.value ≡ true → le e.value largest ≡ true
    → Moved e.value (cond e.exact e.value (next_up e.value)) (bits_of e.value + 1 - n) (bits_of e.value + 1 < 0x1_0000_0000_0000_0000)
high e f p h k = rises e.value f e.exact _ p (up_above e.value f h k)

pub overflow_sub-result : goal.overflow_sub-result
overflow_sub-result c = (down_above c.args.low.value (search rules) c.requires.0).fits

pub overflow_add-result : goal.overflow_add-result
overflow_add-result c = omega (arith, (low c.args.low (search rules) c.from.ensures c.requires.0).fits.1)

pub float_from_bits-result : goal.float_from_bits-result
float_from_bits-result c = (low c.args.low (search rules) c.from.ensures c.requires.0).good

pub overflow_add-result-2 : goal.overflow_add-result-2
overflow_add-result-2 c = omega (arith, (up_above c.args.high.value (search rules) c.requires.1 c.requires.2).fits)

pub float_from_bits-result-2 : goal.float_from_bits-result-2
float_from_bits-result-2 c = (high c.args.high (search rules) c.from-2.ensures c.requires.1 c.requires.2).good

pub returns : goal.returns
returns c = both_ends _ _ _ _ (low c.args.low (search rules) c.from.ensures c.requires.0)
    (high c.args.high (search rules) c.from-2.ensures c.requires.1 c.requires.2)
