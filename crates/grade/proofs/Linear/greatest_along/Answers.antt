-- The least of the box with its ends exchanged. Assumes nothing.
use mathlib.Core.Path.{◌∙◌}
use Rattle.exact.proofs.Signed.{got, bit}
use Rattle.grade.proofs.Sizes.{exchanged, greatest_along_within}
use Rattle.grade.proofs.Linear.greatest_along.Goals as goal

pub returns : goal.returns
returns c =
    let g = c.args.self.now in
    let p = c.requires in
    (bit tt (got (c.least_along.ensures ∙ exchanged g c.args.lo c.args.hi) (greatest_along_within g p.0 p.1.0 p.1.1))).same
