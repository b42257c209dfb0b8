-- By what the lengths and the rule refuse, then by what the walk in two passes promises: capi's laws of the two cases. Assumes nothing.
use mathlib.Core.Path.{refl, ◌∙◌}
use lib.IntN.{pos}
use Rattle.capi.proofs.FaultLaws.{fault_none}
use Rattle.capi.proofs.WalkLaws.{walk_stopped, walk_passed}
use Rattle.twice.proofs.gyroid_walk_twice.Goals as goal

-- ---- a length or the rule is wrong
pub returns-in-Err-clause-answer : goal.returns-in-Err-clause-answer
returns-in-Err-clause-answer c =
    let a = c.args in
    let wrong = fault_none c.in-Err.fault in
    c.into.ensures ∙ (walk_stopped a.description.now a.bounds.now a.depth a.rule a.table.now c.in-Err.ensures.number wrong).0

pub returns-in-Err-clause-left : goal.returns-in-Err-clause-left
returns-in-Err-clause-left c =
    let a = c.args in
    let wrong = fault_none c.in-Err.fault in
    (walk_stopped a.description.now a.bounds.now a.depth a.rule a.table.now c.in-Err.ensures.number wrong).1

-- ---- none is
pub returns-in-Ok-clause-answer : goal.returns-in-Ok-clause-answer
returns-in-Ok-clause-answer c =
    let a = c.args in
    let lo = c.three_at.ensures (pos 0) in
    let hi = c.three_at-in-Ok.ensures (pos 0) in
    (walk_passed a.description.now a.bounds.now a.depth a.rule a.table.now c.in-Ok.ensures.number refl c.ranges.depth c.describe.ensures lo hi
    c.in-Ok.ensures.rule (c.done.ensures ∙ c.walk_twice.ensures.answer) c.walk_twice.ensures.left).0

pub returns-in-Ok-clause-left : goal.returns-in-Ok-clause-left
returns-in-Ok-clause-left c =
    let a = c.args in
    let lo = c.three_at.ensures (pos 0) in
    let hi = c.three_at-in-Ok.ensures (pos 0) in
    (walk_passed a.description.now a.bounds.now a.depth a.rule a.table.now c.in-Ok.ensures.number refl c.ranges.depth c.describe.ensures lo hi
    c.in-Ok.ensures.rule (c.done.ensures ∙ c.walk_twice.ensures.answer) c.walk_twice.ensures.left).1
