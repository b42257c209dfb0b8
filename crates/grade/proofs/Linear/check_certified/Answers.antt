-- By the definition, from the calls: what each test says, in their order; ten times a rise fits. Assumes nothing.
use mathlib.Core.Path.{◌∙◌, sym}
use mathlib.Core.Bool.{not, ◌&&◌}
use lib.IntN.{pos}
use lib.Signed.{lt_z}
use Rattle.exact.proofs.Size.{within_fits, within_self}
use Rattle.exact.proofs.Signed.{is, fits, bit, got, mul, heard}
use Rattle.limits.specs.Refusals.{refused}
use Rattle.limits.proofs.RefusalLaws.{stopped, passed_on}
use Rattle.grade.specs.Certified.{ending, linear_certification}
use Rattle.grade.proofs.Sizes.{distance_within, rise_within}
use Rattle.grade.proofs.AxisLaws.{one_test}
use Rattle.grade.proofs.Linear.check_certified.Goals as goal

pub returns-in_err-refuse : goal.returns-in_err-refuse
unfolding linear_certification
returns-in_err-refuse c =
    let axis = c.in_err-refuse.ensures ∙ (λ k. refused (one_test c.is_none.ensures c.axis.ensures k) 4) in
    stopped _ _ _ c.from_residual.ensures axis

pub returns-in_err-refuse-2 : goal.returns-in_err-refuse-2
unfolding linear_certification
returns-in_err-refuse-2 c =
    let g = c.args.self.now in
    let p = c.requires in
    let axis = c.in_ok-refuse.ensures ∙ (λ k. refused (one_test c.is_none.ensures c.axis.ensures k) 4) in
    let s = heard ending {x = g.start} (within_fits tt p.start) c.ending.ensures in
    let e = heard ending {x = g.end} (within_fits tt p.end) c.ending-2.ensures in
    let ends = c.in_err-refuse-2.ensures ∙ (λ k. refused (not (s k && e k)) 5) in
    stopped _ _ _ c.from_residual-in_err-refuse-2.ensures ends ∙ sym (passed_on axis)

pub overflow_mul-rise : goal.overflow_mul-rise
overflow_mul-rise c =
    fits tt (mul (is (within_self (pos 10))) (bit tt (got c.rise.ensures (rise_within _ c.requires))))

pub returns : goal.returns
unfolding linear_certification
returns c =
    let g = c.args.self.now in
    let p = c.requires in
    let axis = c.in_ok-refuse.ensures ∙ (λ k. refused (one_test c.is_none.ensures c.axis.ensures k) 4) in
    let s = heard ending {x = g.start} (within_fits tt p.start) c.ending.ensures in
    let e = heard ending {x = g.end} (within_fits tt p.end) c.ending-2.ensures in
    let ends = c.in_ok-refuse-2.ensures ∙ (λ k. refused (not (s k && e k)) 5) in
    let d = bit tt (got c.distance.ensures (distance_within g p)) in
    let r = bit tt (mul (is (within_self (pos 10))) (bit tt (got c.rise.ensures (rise_within g p)))) in
    c.refuse-3.ensures ∙ (λ k. refused (lt_z (d.same k) (r.same k)) 5) ∙ sym (passed_on axis ∙ passed_on ends)
