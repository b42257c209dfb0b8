-- The digits begin behind the minus, where there is one. Assumes nothing.
use mathlib.Core.Path.{◌≡◌, sym, ap}
use mathlib.Core.Bool.{Bool, true, false, cond}
use mathlib.Core.List.{List}
use Prim.Native.Nat.{ℕ, ◌+◌}
use native.Mathlib.Omega.{arith}
use lib.Dec.{eqb}
use mir.Val.{bool_byte}
use Rattle.std.specs.Prelude.{Option, ℤ}
use Rattle.text.specs.Line.{byte_at, digits_at, some_digits, number_at}
use Rattle.text.specs.declared.parse.Read.{Read}
use Rattle.text.proofs.parse.number_at.Goals as goal

behind : (m : Bool) (i : ℕ) {k : ℕ} → k ≡ bool_byte m → i + k ≡ cond m (i + 1) i
behind true i e = omega (arith, e)
behind false i e = omega (arith, e)

read_from : (t : List ℕ) (i : ℕ) (m : Bool) {j : ℕ} {d : Read ℕ} {r : Option (Read ℤ)} → eqb (byte_at t i) 45 ≡ m → j ≡ cond m (i + 1) i
    → d ≡ digits_at 7 0 t j → r ≡ some_digits m j d → r ≡ number_at t i
unfolding number_at
read_from t i true p e f g = rw (p, ← e, ← f) g
read_from t i false p e f g = rw (p, ← e, ← f) g

pub returns : goal.returns
returns c =
    let minus = ap (λ b. eqb b 45) (sym c.byte_at-minus.ensures) in
    read_from _ c.args.i _ minus (behind _ _ c.from.ensures) c.digits_at.ensures.value c.some_digits.ensures
