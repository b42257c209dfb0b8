-- The refusals say what the calls behind them ask. Assumes nothing.
use mathlib.Core.Path.{refl, sym, ap, ◌∙◌, subst⁻¹}
use Rattle.grade.specs.Holds.{RangeHolds}
use Rattle.grade.specs.Exact.{range}
use Rattle.grade.specs.Said.{found, refusing}
use Rattle.grade.specs.Calls.{three, range_said, range_call}
use Rattle.grade.specs.Fits.{DefFits}
use Rattle.grade.proofs.RangeLaws.{range_holds}
use Rattle.limits.proofs.RefusalLaws.{refused_said, answer_is}
use Rattle.grade.proofs.Accepted.{accepted, compiled_fits}
use Rattle.grade.proofs.range.grade_range.Goals as goal

pub returns-in_err-range_refusal-clause-answer : goal.returns-in_err-range_refusal-clause-answer
unfolding range_call
returns-in_err-range_refusal-clause-answer c =
    refused_said range_said (λ n. refusing n) _ _ _ (λ y. refl) c.from_residual.ensures c.in_err-range_refusal.ensures

pub compile-requires : goal.compile-requires
compile-requires c = (accepted c.args.grade c.args.lo c.args.hi (sym c.in_ok-range_refusal.ensures)).limits

pub range-requires : goal.range-requires
range-requires c =
    let a = accepted c.args.grade c.args.lo c.args.hi (sym c.in_ok-range_refusal.ensures) in
    (subst⁻¹ DefFits c.compile.ensures (compiled_fits c.args.grade a.limits a.apart), (a.low, a.high))

pub returns-clause-answer : goal.returns-clause-answer
unfolding range_call
returns-clause-answer c =
    let b = c.range.ensures ∙ ap (λ d. range d c.args.lo c.args.hi) c.compile.ensures in
    answer_is _ c.in_ok-range_refusal.ensures refl (ap (λ r. found (three r)) b)

pub returns-clause-holds : goal.returns-clause-holds
returns-clause-holds c =
    let g = c.args.grade in
    let lo = c.args.lo in
    let hi = c.args.hi in
    let b = c.range.ensures ∙ ap (λ d. range d lo hi) c.compile.ensures in
    subst⁻¹ (RangeHolds g lo hi) b (range_holds g lo hi (accepted g lo hi (sym c.in_ok-range_refusal.ensures)).apart)
