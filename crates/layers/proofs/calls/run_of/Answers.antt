-- The last refusal; the others are found. Assumes nothing.
use mathlib.Core.Path.{ap, sym, ◌∙◌}
use mathlib.Core.Bool.{not}
use Prim.Native.Nat.{◌*◌}
use lib.Dec.{ltb}
use Rattle.exact.proofs.Signed.{heard₂}
use Rattle.std.proofs.lemmas.Result.{err_from_is_err_and}
use Rattle.limits.specs.Ticks.{side}
use Rattle.limits.specs.Refusals.{refused, number, number_of}
use Rattle.limits.proofs.TestLaws.{is_true}
use Rattle.limits.proofs.RefusalLaws.{kept, none_last, passed_on}
use Rattle.layers.specs.Layers.{layers_number}
use Rattle.layers.proofs.CallLaws.{many_layers}
use Rattle.layers.proofs.calls.run_of.Goals as goal

pub returns-in_err-refuse-3-clause-answer : goal.returns-in_err-refuse-3-clause-answer
unfolding layers_number
returns-in_err-refuse-3-clause-answer c =
    let a = c.args in
    let sound = c.in_ok-refuse.ensures ∙ (λ k. refused (not (c.sound.ensures k)) 15) in
    let run = c.in_ok-refuse-2.ensures ∙ ap (λ s. refused (not s) 16) (heard₂ side {x = a.low} {y = a.high} c.ranges.low c.ranges.high c.side.ensures) in
    let is_run = is_true _ (kept (side a.low a.high) (none_last (not (side a.low a.high)) 15 (sym run))) in
    let many = many_layers c.shift-from.result c.shift.result c.ranges.low c.ranges.high is_run c.shift-from.ensures c.shift.ensures in
    let p = err_from_is_err_and _ c.from_residual-in_err-refuse-3.ensures.1 in
    ap number_of p.1 ∙ ap number p.2 ∙ c.in_err-refuse-3.ensures ∙ (λ k. refused (ltb a.room (24 * many k)) 17)
    ∙ sym (passed_on sound ∙ passed_on run)
