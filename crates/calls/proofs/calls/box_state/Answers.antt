-- By the leaf, which is the description's. Assumes nothing.
use mathlib.Core.Path.{ap, ◌∙◌}
use Rattle.gyroid.specs.InUse.{box_state}
use Rattle.calls.proofs.CallLaws.{state_settled}
use Rattle.calls.proofs.calls.box_state.Goals as goal

pub returns-clause-settles : goal.returns-clause-settles
returns-clause-settles c =
    state_settled c.args.description c.args.world c.in_ok-leaf.ensures.number
    (c.box_state.ensures ∙ ap (λ g. box_state g c.args.world) c.in_ok-leaf.ensures.leaf)
