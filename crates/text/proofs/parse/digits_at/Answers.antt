-- A digit more, or the end of the digits. Assumes nothing.
use mathlib.Core.Path.{◌≡◌, sym, ◌∙◌}
use mathlib.Core.Bool.{true, false}
use native.Mathlib.Omega.{arith}
use Prim.Native.Nat.{◌+◌, ◌-◌}
use Rattle.text.specs.Line.{is_digit}
use Rattle.text.proofs.LineLaws.{digit_range, digits_step, digits_stop, digits_done, room_below, room_step}
use Rattle.text.proofs.parse.digits_at.Goals as goal

pub overflow_mul-value : goal.overflow_mul-value
overflow_mul-value c = record { fits = omega (arith, room_below _ _ c.loop.invariant.1) }

pub overflow_add-value : goal.overflow_add-value
overflow_add-value c = record { fits = omega (arith, room_below _ _ c.loop.invariant.1, c.byte_at-b.type_inv) }

pub loop-preserved : goal.loop-preserved
loop-preserved c =
    let d : is_digit c.byte_at-b.result ≡ true = sym c.is_ascii_digit.ensures.value ∙ c.if-not-is_ascii_digit.false in
    let left : 7 - (c.loop.counter + 1) ≡ 7 - c.loop.counter - 1 = omega arith in
    rw left (
      c.loop.invariant.0 ∙ digits_step _ _ _ _ c.byte_at-b.ensures _ (omega arith) d,
      room_step _ _ _ (omega arith) (digit_range _ d).1 c.loop.invariant.1,
    )

pub returns-after-loop-clause-value : goal.returns-after-loop-clause-value
returns-after-loop-clause-value c = sym (c.loop.invariant.0 ∙ digits_done _ _ _ _ (omega (arith, c.loop-test.false)))

pub returns-then-not-is_ascii_digit-clause-value : goal.returns-then-not-is_ascii_digit-clause-value
returns-then-not-is_ascii_digit-clause-value c =
    let d : is_digit c.byte_at-b.result ≡ false = sym c.is_ascii_digit.ensures.value ∙ c.if-not-is_ascii_digit.true in
    sym (c.loop.invariant.0 ∙ digits_stop _ _ _ _ c.byte_at-b.ensures _ d)

pub returns-then-not-is_ascii_digit-clause-value_bound : goal.returns-then-not-is_ascii_digit-clause-value_bound
returns-then-not-is_ascii_digit-clause-value_bound c = room_below _ _ c.loop.invariant.1
