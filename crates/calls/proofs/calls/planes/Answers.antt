-- By the leaf, which is the description's. Assumes nothing.
use Rattle.std.specs.Prelude.{Ok}
use mathlib.Core.Path.{ap, ◌∙◌}
use Rattle.grade.specs.Certified.{planes}
use Rattle.calls.specs.Calls.{planes_values, planes_call}
use Rattle.calls.proofs.CallLaws.{found_is, leaf_level}
use Rattle.calls.proofs.PlanesLaws.{planes_axis}
use Rattle.calls.proofs.calls.planes.Goals as goal

pub returns-clause-answer : goal.returns-clause-answer
unfolding planes_call
returns-clause-answer c =
    found_is c.in_ok-leaf.ensures.number (ap planes_values (c.planes.ensures ∙ ap planes (leaf_level c.args.description c.in_ok-leaf.ensures.leaf)))

pub returns-clause-below : goal.returns-clause-below
returns-clause-below c = planes_axis (Ok c.planes.result) c.args.description (returns-clause-answer c)
