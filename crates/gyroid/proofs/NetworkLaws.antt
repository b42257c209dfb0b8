-- A network in the part frame, its entries within the limits, is refused by its level alone. Assumes nothing.
use mathlib.Core.Path.{◌≡◌, refl}
use mathlib.Core.Bool.{true, false}
use Prim.Native.Nat.{ℕ, zero, suc}
use lib.Dec.{eqb-suc-zero}
use lib.IntN.{ℤ, pos}
use lib.Signed.{le_z}
use Rattle.grade.specs.declared.Grade.{Grade}
use Rattle.grade.specs.Grade as grade
use Rattle.limits.specs.Ticks.{tick}
use Rattle.grade.specs.Exact.{compiled}
use Rattle.grade.specs.Certified.{certification}
use Rattle.limits.specs.Refusals.{refused, ◌or_else◌}
use Rattle.grade.specs.Refusals.{is_distance, coincident}
use Rattle.gyroid.specs.Description.{in_limits, frame_in_limits, part_frame, origin}
use Rattle.gyroid.specs.Refusals.{refusal}

or_none : (n : ℕ) → (n or_else 0) ≡ n
or_none zero = refl
or_none (suc n) = rw (eqb-suc-zero n) refl

pub network_refusal : (p : ℤ) (g : Grade) → tick p ≡ true → le_z p (pos 0) ≡ false → grade.in_limits g ≡ true → refusal (record { period = p; kind = pos 0; level = g; frame = record { w = pos 1; x = pos 0; y = pos 0; z = pos 0; translation = origin } }) ≡ (refused (coincident g) 2 or_else refused (is_distance g) 3 or_else certification (compiled g))
unfolding refusal in_limits frame_in_limits part_frame
network_refusal p g t a l = rw (t, a, l, or_none (certification (compiled g))) refl
