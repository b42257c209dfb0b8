-- The parts are at most 2^38 in size. Assumes nothing.
use Prim.Native.Nat.{◌*◌, ◌+◌}
use lib.IntN.{ℤ, pos, ◌+ℤ◌, ◌*ℤ◌}
use mir.Syntax.{w64}
use mir.Val.{to_z, of_z}
use Rattle.exact.specs.Within.{Within}
use Rattle.exact.proofs.Size.{within_self}
use Rattle.exact.proofs.Signed.{Is, is, bit, add, mul}
use Rattle.grade.specs.declared.Slope.{Slope}
use Rattle.grade.specs.Fits.{SlopeFits}
use Rattle.gyroid.proofs.leaf.lipschitz_top.Goals as goal

abbrev bits : ℤ → ℤ
bits z = to_z w64 (of_z w64 z)

both : {p : ℤ} {s : Slope} → Within 1048576 p → SlopeFits s
    → Is (22528 * 6291456 + 8192 * 1048576) (bits (pos 22528 *ℤ bits s.distance) +ℤ bits (bits s.rise *ℤ bits p)) (pos 22528 *ℤ s.distance +ℤ s.rise *ℤ p)
both h f = add (bit tt (mul (is (within_self (pos 22528))) (bit tt (is f.distance)))) (bit tt (mul (bit tt (is f.rise)) (bit tt (is h))))

pub returns : goal.returns
returns c = (bit tt (both c.requires.0 c.requires.1)).same
