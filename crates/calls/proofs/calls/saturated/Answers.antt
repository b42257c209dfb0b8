-- A constant level is read back from its bits. Assumes nothing.
use mathlib.Core.Path.{sym, ap, ◌∙◌}
use mir.Syntax.{w64}
use mir.Val.{SFits}
use borrow.Author.Rules.{rules}
use Rattle.exact.proofs.Signed.{back}
use Rattle.calls.specs.Calls.{any, one, saturated_at, saturated_by, saturated_call}
use Rattle.calls.proofs.CallLaws.{found_is, leaf_surface, leaf_level}
use Rattle.calls.proofs.calls.saturated.Goals as goal

pub returns-in-Constant : goal.returns-in-Constant
unfolding saturated_call
returns-in-Constant c =
    let d = c.args.description in
    let l = c.in_ok-leaf.ensures.leaf in
    let fits : SFits w64 c.in-Constant.level = search rules in
    let surface = ap (λ g. g.surface) l ∙ leaf_surface d in
    let grade = sym c.in-Constant.is ∙ leaf_level d l in
    found_is c.in_ok-leaf.ensures.number
    (ap (any one) (c.saturated_at.ensures ∙ (λ k. saturated_at c.in_ok-leaf.leaf.surface (back fits k)) ∙ (λ k. saturated_by (surface k) (grade k))))
