-- By the leaf, which is the description's. Assumes nothing.
use mathlib.Core.Path.{ap, ◌∙◌}
use Rattle.gyroid.specs.InUse.{residual}
use Rattle.calls.proofs.CallLaws.{enclosure_holds}
use Rattle.calls.proofs.calls.residual.Goals as goal

pub returns-clause-holds : goal.returns-clause-holds
returns-clause-holds c =
    enclosure_holds c.args.description c.args.world c.in_ok-leaf.ensures.number
    (c.residual.ensures ∙ ap (λ g. residual g c.args.world) c.in_ok-leaf.ensures.leaf)
