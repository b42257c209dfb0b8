-- What the refusals before 13 leave is what is asked to hold the call. Assumes nothing.
use mathlib.Core.Path.{ap, ◌∙◌, subst⁻¹}
use lib.IntN.{nat_abs}
use Rattle.std.proofs.lemmas.Result.{err_from_is_err_and}
use Rattle.exact.proofs.Signed.{back}
use Rattle.limits.specs.Refusals.{number, number_of}
use Rattle.gyroid.proofs.LeafLaws.{grade_is}
use Rattle.tree.specs.Box.{Good}
use Rattle.walk.proofs.CallLaws.{entry_number, passed, depth_cast, depth_small}
use Rattle.walk.proofs.TieLaws.{cut_of_lem}
use Rattle.walk.proofs.entered.Entered.of.Goals as goal

pub returns-in_err-leaf-clause-answer : goal.returns-in_err-leaf-clause-answer
returns-in_err-leaf-clause-answer c =
    let a = c.args in
    let p = err_from_is_err_and _ c.from_residual.ensures.1 in
    ap number_of p.1 ∙ ap number p.2 ∙ entry_number a.description a.lo a.hi c.ranges.depth c.in_err-leaf.ensures.answer

pub of-requires : goal.of-requires
of-requires c = (passed c.args.description c.args.lo c.args.hi c.ranges.depth c.in_ok-leaf.ensures.answer).box

pub overflow_cast-result : goal.overflow_cast-result
overflow_cast-result c =
    let a = c.args in
    depth_cast a.description a.lo a.hi c.ranges.depth (passed a.description a.lo a.hi c.ranges.depth c.in_ok-leaf.ensures.answer)

pub invariant_of-result : goal.invariant_of-result
invariant_of-result c =
    let a = c.args in
    let t = passed a.description a.lo a.hi c.ranges.depth c.in_ok-leaf.ensures.answer in
    record { good = subst⁻¹ Good c.of.ensures t.good; shallow = depth_small a.description a.lo a.hi c.ranges.depth t }

pub returns-clause-answer : goal.returns-clause-answer
returns-clause-answer c =
    let a = c.args in
    entry_number a.description a.lo a.hi c.ranges.depth c.in_ok-leaf.ensures.answer

pub returns-clause-entered : goal.returns-clause-entered
returns-clause-entered c =
    let a = c.args in
    record {
      leaf_is = c.in_ok-leaf.ensures.leaf;
      box_is = c.of.ensures;
      depth_is = ap nat_abs (back {x = a.depth} c.ranges.depth);
      axis_is = cut_of_lem a.rule a.description c.ties_by.ensures c.axis.ensures (grade_is a.description c.in_ok-leaf.ensures.leaf);
    }
