-- What is asked is the line with the numbers read so far, and as many others as are left. Assumes nothing.
use Rattle.std.proofs.Common.{◌≡◌, ◌-◌, length, take}
use Rattle.text.specs.Line.{line_from, line_of}
use Rattle.text.proofs.parse.parse.Given as goal

abbrev pub invariant-loop-k : goal.invariant-loop-k
invariant-loop-k l = (length l.numbers ≡ 17) × (line_of l.input ≡ line_from (17 - l.k) (take l.k l.numbers) l.input l.at)
