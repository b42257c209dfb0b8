-- A minus and the size, or the size alone. Assumes nothing.
use mathlib.Core.Path.{◌≡◌, ap, sym, ◌∙◌}
use mathlib.Core.Bool.{Bool}
use Prim.Native.Nat.{ℕ}
use native.Mathlib.Omega.{arith}
use lib.IntN.{ℤ, pos, nat_abs}
use lib.ListN.{length}
use lib.Signed.{lt_z}
use Rattle.exact.proofs.Signed.{back}
use Rattle.text.specs.Decimal.{decimal}
use Rattle.text.proofs.DecimalLaws.{signed_below, signed_above, length_signed_below}
use Rattle.text.proofs.AppendLaws.{as_appended, then_appended}
use Rattle.text.proofs.print.Text.signed.Goals as goal

-- what is tested of a number as it is read back, w, is so of the number
test_is : {w x : ℤ} {b : Bool} → w ≡ x → lt_z w (pos 0) ≡ b → lt_z x (pos 0) ≡ b
test_is e t = sym (ap (λ (z : ℤ). lt_z z (pos 0)) e) ∙ t

size_is : {w x : ℤ} {n : ℕ} → w ≡ x → n ≡ nat_abs w → decimal (nat_abs x) ≡ decimal n
size_is e f = ap decimal (sym (f ∙ ap nat_abs e))

pub byte-requires : goal.byte-requires
byte-requires c = omega (arith, length_signed_below c.args.x (test_is (back c.ranges.x) c.if-x-lt0.true))

pub decimal-requires : goal.decimal-requires
decimal-requires c =
    omega (
      arith,
      length_signed_below c.args.x (test_is (back c.ranges.x) c.if-x-lt0.true),
      ap length (size_is (back c.ranges.x) c.unsigned_abs-size.ensures.value),
    )

pub returns-then-x-lt0 : goal.returns-then-x-lt0
returns-then-x-lt0 c =
    as_appended (signed_below c.args.x (test_is (back c.ranges.x) c.if-x-lt0.true))
    (then_appended _ _ c.byte.ensures (as_appended (size_is (back c.ranges.x) c.unsigned_abs-size.ensures.value) c.decimal.ensures))

pub decimal-requires-2 : goal.decimal-requires-2
decimal-requires-2 c =
    omega (
      arith,
      ap length (signed_above c.args.x (test_is (back c.ranges.x) c.if-x-lt0.false)),
      ap length (size_is (back c.ranges.x) c.unsigned_abs-size.ensures.value),
    )

pub returns : goal.returns
returns c =
    as_appended
    (signed_above c.args.x (test_is (back c.ranges.x) c.if-x-lt0.false) ∙ size_is (back c.ranges.x) c.unsigned_abs-size.ensures.value)
    c.decimal-2.ensures
