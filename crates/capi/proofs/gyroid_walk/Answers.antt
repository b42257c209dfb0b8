-- By what the walk promises; and slices that demand 3 supposes are not refused. Assumes nothing.
use mathlib.Core.Path.{◌∙◌, transport}
use lib.IntN.{pos, nat_abs}
use lib.ListN.{length}
use Rattle.exact.proofs.Signed.{back}
use Rattle.tree.specs.Box.{box_from}
use Rattle.walk.specs.InUse.{Supposed, Demand}
use Rattle.capi.proofs.FaultLaws.{fault_none}
use Rattle.capi.proofs.WalkLaws.{lent_right}
use Rattle.capi.proofs.gyroid_walk.Goals as goal

pub returns-in-Ok-clause-demand : goal.returns-in-Ok-clause-demand
returns-in-Ok-clause-demand c =
    let d = c.describe.ensures in
    let lo = c.three_at.ensures (pos 0) in
    let hi = c.three_at-in-Ok.ensures (pos 0) in
    let depth = back {x = c.args.depth} c.ranges.depth in
    let rule = c.in-Ok.ensures.rule in
    λ s. transport
    (λ i. Supposed (d i) (lo i) (hi i) (depth i) (rule i) (length c.args.table.now)
    → Demand (d i) (box_from (lo i) (hi i)) (nat_abs (depth i)) (rule i) c.walk.new.table) c.walk.ensures.demand s.supposed

pub returns-in-Err-clause-demand : goal.returns-in-Err-clause-demand
returns-in-Err-clause-demand c =
    let a = c.args in
    λ s. absurd (fault_none c.in-Err.fault (c.in-Err.ensures.number ∙ lent_right a.description.now a.bounds.now a.depth a.rule (length a.table.now) s))
