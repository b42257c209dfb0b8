-- What is left by a refusal, and by none, and what its bytes say. Assumes nothing.
use mathlib.Core.Path.{◌≡◌, refl, ◌∙◌}
use mathlib.Core.List.{List}
use Prim.Native.Nat.{ℕ}
use lib.IntN.{ℤ}
use mir.Syntax.{w64}
use mir.Val.{to_z, of_z, SFits}
use Rattle.exact.proofs.Signed.{back}
use Rattle.limits.proofs.RefusalLaws.{refused_said, answer_is}
use Rattle.table.specs.Read.{records_in}
use Rattle.layers.specs.Layers.{report_of, layers_in, layers_report}
use Rattle.layers.proofs.CallLaws.{says}
use Rattle.layers.proofs.calls.layers.Goals as goal

-- the ends that the inner call hears
ends : (t r : List ℕ) {low high : ℤ} → SFits w64 low → SFits w64 high
    → layers_report t (to_z w64 (of_z w64 low)) (to_z w64 (of_z w64 high)) r ≡ layers_report t low high r
ends t r f g i = layers_report t (back f i) (back g i) r

pub returns-in_err-run-clause-left : goal.returns-in_err-run-clause-left
unfolding layers_report
returns-in_err-run-clause-left c =
    let r = c.args.report.now in
    refused_said (λ _. r) (λ _. r) _ _ _ (λ _. refl) c.from_residual.ensures c.in_err-run.ensures.answer
    ∙ ends c.args.table.now r {low = c.args.low} {high = c.args.high} c.ranges.low c.ranges.high

pub returns-clause-left : goal.returns-clause-left
unfolding layers_report
returns-clause-left c =
    let a = c.args in
    let run = c.in_ok-run.ensures.run in
    answer_is a.report.now c.in_ok-run.ensures.answer refl
    (c.write.ensures ∙ (λ i. report_of (records_in a.table.now) (run.many i) (run.low_is i) a.report.now))
    ∙ ends a.table.now a.report.now {low = a.low} {high = a.high} c.ranges.low c.ranges.high

pub returns-clause-reported : goal.returns-clause-reported
returns-clause-reported c =
    let a = c.args in
    let run = c.in_ok-run.ensures.run in
    let low = back {x = a.low} c.ranges.low in
    let high = back {x = a.high} c.ranges.high in
    λ _. says a.table.now a.low a.high a.report.now run.is_sound _
    (c.write.ensures ∙ (λ i. report_of (records_in a.table.now) ((run.many ∙ (λ j. layers_in (low j) (high j))) i) ((run.low_is ∙ low) i) a.report.now))
