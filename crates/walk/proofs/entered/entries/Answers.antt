-- The tests one by one, in the order of the refusals. Assumes nothing.
use mathlib.Core.Path.{ap, sym, ◌∙◌}
use mathlib.Core.Bool.{not, ◌&&◌}
use Rattle.std.proofs.lemmas.Result.{err_from_is_err_and}
use Rattle.limits.specs.Refusals.{refused, number, number_of}
use Rattle.limits.proofs.RefusalLaws.{stopped, passed_on}
use Rattle.exact.proofs.Signed.{heard}
use Rattle.walk.specs.Walk.{depths, entry_refusal}
use Rattle.walk.proofs.entered.entries.Goals as goal

pub returns-in_err-refuse-clause-answer : goal.returns-in_err-refuse-clause-answer
unfolding entry_refusal
returns-in_err-refuse-clause-answer c =
    let limits = c.in_err-refuse.ensures ∙ (λ k. refused (not (c.ticks.ensures k && c.ticks-2.ensures k)) 1) in
    stopped _ _ _ c.from_residual.ensures limits

pub returns-in_err-leaf-clause-answer : goal.returns-in_err-leaf-clause-answer
unfolding entry_refusal
returns-in_err-leaf-clause-answer c =
    let limits = c.in_ok-refuse.ensures ∙ (λ k. refused (not (c.ticks.ensures k && c.ticks-2.ensures k)) 1) in
    stopped _ _ _ c.from_residual-in_err-leaf.ensures c.in_err-leaf.ensures.number ∙ sym (passed_on limits)

pub returns-in_err-refuse-2-clause-answer : goal.returns-in_err-refuse-2-clause-answer
unfolding entry_refusal
returns-in_err-refuse-2-clause-answer c =
    let limits = c.in_ok-refuse.ensures ∙ (λ k. refused (not (c.ticks.ensures k && c.ticks-2.ensures k)) 1) in
    let short = c.in_err-refuse-2.ensures ∙ (λ k. refused (not (c.spans.ensures k)) 11) in
    stopped _ _ _ c.from_residual-in_err-refuse-2.ensures short ∙ sym (passed_on limits ∙ passed_on c.in_ok-leaf.ensures.number)

pub returns-in_err-refuse-3-clause-answer : goal.returns-in_err-refuse-3-clause-answer
unfolding entry_refusal
returns-in_err-refuse-3-clause-answer c =
    let limits = c.in_ok-refuse.ensures ∙ (λ k. refused (not (c.ticks.ensures k && c.ticks-2.ensures k)) 1) in
    let short = c.in_ok-refuse-2.ensures ∙ (λ k. refused (not (c.spans.ensures k)) 11) in
    let deep = heard depths {x = c.args.depth} c.ranges.depth c.depths.ensures in
    let p = err_from_is_err_and _ c.from_residual-in_err-refuse-3.ensures.1 in
    ap number_of p.1 ∙ ap number p.2 ∙ c.in_err-refuse-3.ensures ∙ ap (λ t. refused (not t) 12) deep
    ∙ sym (passed_on limits ∙ passed_on c.in_ok-leaf.ensures.number ∙ passed_on short)

pub returns-clause-answer : goal.returns-clause-answer
unfolding entry_refusal
returns-clause-answer c =
    let limits = c.in_ok-refuse.ensures ∙ (λ k. refused (not (c.ticks.ensures k && c.ticks-2.ensures k)) 1) in
    let short = c.in_ok-refuse-2.ensures ∙ (λ k. refused (not (c.spans.ensures k)) 11) in
    let deep = heard depths {x = c.args.depth} c.ranges.depth c.depths.ensures in
    c.in_ok-refuse-3.ensures ∙ ap (λ t. refused (not t) 12) deep ∙ sym (passed_on limits ∙ passed_on c.in_ok-leaf.ensures.number ∙ passed_on short)
