-- Each position is an anchor's, and their sum fits. Assumes nothing.
use mathlib.Core.Path.{ap, ◌∙◌}
use Rattle.std.specs.Prelude.{Some}
use Rattle.exact.proofs.Signed.{is, fits, bit, add}
use Rattle.grade.specs.Certified.{planes_on}
use Rattle.grade.proofs.AxisLaws.{linear_axis_one, within_at}
use Rattle.grade.proofs.Linear.planes.Goals as goal

pub overflow_add-result : goal.overflow_add-result
overflow_add-result c =
    let i = c.in_ok-axis.axis in
    let b = linear_axis_one c.args.self.now c.axis.ensures c.in_ok-axis.was in
    fits tt (add (bit tt (is (within_at c.requires.from i b))) (bit tt (is (within_at c.requires.direction i b))))

pub returns : goal.returns
returns c =
    let i = c.in_ok-axis.axis in
    let b = linear_axis_one c.args.self.now c.axis.ensures c.in_ok-axis.was in
    let f = bit tt (is (within_at c.requires.from i b)) in
    let t = bit tt (add f (bit tt (is (within_at c.requires.direction i b)))) in
    (λ k. Some (record { axis = i; from = f.same k; to = t.same k })) ∙ ap (λ a. planes_on a c.args.self.now) c.in_ok-axis.ensures
