-- The line so far, and then a number, what stands behind it, or the text's end. Assumes nothing.
use mathlib.Core.Path.{refl, sym, ap, ◌∙◌}
use mathlib.Core.List.{List}
use Prim.Native.Nat.{◌+◌, ◌-◌}
use native.Mathlib.Omega.{arith}
use borrow.Author.Rules.{rules}
use Rattle.exact.proofs.Signed.{back}
use lib.IntN.{ℤ}
use lib.Seq.{take_all}
use lib.ListN.{length-set}
use Rattle.std.specs.Prelude.{Some}
use Rattle.text.specs.Line.{line_from, line_of}
use Rattle.text.proofs.LineLaws.{stored, line_no_number, line_no_separator, line_step, line_bytes_after, line_whole}
use Rattle.text.proofs.parse.parse.Goals as goal

pub loop-k-init : goal.loop-k-init
unfolding line_of
loop-k-init c = (refl, refl)

pub returns-in_err-number : goal.returns-in_err-number
returns-in_err-number c =
    c.from_residual.ensures
    ∙ sym (c.loop-k.invariant.1 ∙ line_no_number _ _ _ _ c.loop-k-test.true c.number_at.ensures c.in_err-number.was)

pub returns-then-byte_at-separator : goal.returns-then-byte_at-separator
returns-then-byte_at-separator c =
    sym (c.loop-k.invariant.1
    ∙ line_no_separator _ _ _ _ c.loop-k-test.true c.number_at.ensures c.in_ok-number.was c.byte_at.ensures c.separator.ensures
    c.if-byte_at-separator.true)

pub loop-k-preserved : goal.loop-k-preserved
loop-k-preserved c =
    let x = back {x = c.in_ok-number.number.value} (record { sfits = search rules }) in (
      simp length-set c.loop-k.invariant.0,
      c.loop-k.invariant.1
          ∙ line_step _ _ _ _ c.loop-k-test.true c.number_at.ensures c.in_ok-number.was c.byte_at.ensures c.separator.ensures
          c.if-byte_at-separator.false
          ∙ ap (λ (ns : List ℤ). line_from (17 - (c.loop-k.k + 1)) ns c.args.input.now (c.in_ok-number.number.next + 1))
          (stored c.loop-k.numbers c.loop-k.k x (omega (arith, c.loop-k-test.true, c.loop-k.invariant.0))),
    )

pub returns-then-at-input : goal.returns-then-at-input
returns-then-at-input c = sym (c.loop-k.invariant.1 ∙ line_bytes_after _ _ _ _ c.loop-k-test.false c.if-at-input.true)

pub returns : goal.returns
returns c =
    sym (c.loop-k.invariant.1 ∙ line_whole _ _ _ _ c.loop-k-test.false c.if-at-input.false
    ∙ ap Some (take_all c.loop-k.k c.loop-k.numbers (omega (arith, c.loop-k.invariant.0, c.loop-k-test.false))))
