-- The refusals before 13, then the walk; demand 3 of the table that it leaves. Assumes nothing.
use lib.IntN.{nat_abs}
use lib.ListN.{length}
use Rattle.grade.specs.InUse.{in_use}
use Rattle.gyroid.specs.Fits.{Accepted}
use Rattle.tree.specs.Box.{box_from}
use Rattle.walk.proofs.CallLaws.{entry_number, entered_by, passed, walk_refused, refused_one, ran_table, walk_ran}
use Rattle.walk.proofs.DemandLaws.{demand}
use Rattle.walk.proofs.SupposedLaws.{entry_none, room_none}
use Rattle.walk.proofs.calls.walk.Goals as goal

pub returns-in_err-of : goal.returns-in_err-of
returns-in_err-of c =
    let a = c.args in
    let n = entry_number a.description a.lo a.hi c.ranges.depth c.in_err-of.ensures.answer in
    let w = walk_refused a.description a.lo a.hi a.depth a.rule a.table.now _ _ c.from_residual.ensures n in
    record {
      answer = w.0;
      left = w.1;
      demand = λ h. absurd (refused_one a.description a.lo a.hi a.depth a.rule a.table.now _ _ c.from_residual.ensures n
          (entry_none in_use a.description a.lo a.hi a.depth a.rule (length a.table.now) h));
    }

pub returns : goal.returns
returns c =
    let a = c.args in
    let d = a.description in
    let len = length a.table.now in
    let of = c.in_ok-of.ensures in
    let none = entry_number d a.lo a.hi c.ranges.depth of.answer in
    let enters = entered_by d a.lo a.hi c.ranges.depth a.rule c.in_ok-of.field-0 of.entered in
    let t = passed d a.lo a.hi c.ranges.depth of.answer in
    let run = c.run.ensures in
    let w = walk_ran d a.lo a.hi a.depth a.rule a.table.now _ enters none run.answer run.left in
    let left = ran_table d a.lo a.hi a.depth a.rule a.table.now _ enters none run.left in
    let accepted : Accepted d = record { none = t.described } in
    record {
      answer = w.0;
      left = w.1;
      demand = λ h. demand in_use d accepted (nat_abs a.depth) a.rule t.depth_most (box_from a.lo a.hi) t.good len
          (room_none in_use d a.lo a.hi a.depth a.rule len h) left;
    }
