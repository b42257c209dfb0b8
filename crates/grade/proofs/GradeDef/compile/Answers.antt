-- The anchors are within the limits. Assumes nothing.
use Rattle.grade.proofs.EntryLaws.{sizes}
use Rattle.grade.proofs.GradeDef.compile.Goals as goal

pub new-requires : goal.new-requires
new-requires c =
    let s = sizes c.args.g c.requires in
    (s.from, s.to)
