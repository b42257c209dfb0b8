-- The refusals before 13, then the walk. Assumes nothing.
use Rattle.walk.proofs.CallLaws.{entry_number, entered_by, walk_refused, walk_ran}
use Rattle.twice.proofs.two_passes.walk_twice.Goals as goal

pub returns-in_err-e : goal.returns-in_err-e
returns-in_err-e c =
    let a = c.args in
    let n = entry_number a.description a.lo a.hi c.ranges.depth c.in_err-e.ensures.answer in
    let w = walk_refused a.description a.lo a.hi a.depth a.rule a.table.now _ _ c.from_residual.ensures n in
    record { answer = w.0; left = w.1 }

pub returns : goal.returns
returns c =
    let a = c.args in
    let of = c.in_ok-e.ensures in
    let none = entry_number a.description a.lo a.hi c.ranges.depth of.answer in
    let enters = entered_by a.description a.lo a.hi c.ranges.depth a.rule c.in_ok-e.e of.entered in
    let run = c.run_twice.ensures in
    let w = walk_ran a.description a.lo a.hi a.depth a.rule a.table.now _ enters none run.answer run.left in
    record { answer = w.0; left = w.1 }
