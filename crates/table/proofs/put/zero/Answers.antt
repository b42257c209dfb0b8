-- The bytes from the index on are as many zeros. Assumes nothing.
use mathlib.Core.Path.{ap, ◌∙◌}
use Prim.Native.Nat.{ℕ, ◌-◌}
use native.Mathlib.Omega.{arith}
use lib.ListN.{length, drop, replicate, length-drop, length-replicate}
use lib.Seq.{length-take-le}
use Rattle.table.proofs.Stores.{part_stored}
use Rattle.table.proofs.put.zero.Goals as goal

pub returns : goal.returns
returns c =
    let t = c.args.t.now in
    let n : ℕ = length t - c.args.from in
    let z : ℕ = 0 in
    let part = length-take-le n (drop c.args.from t) (omega (arith, length-drop c.args.from t)) in
    let long = length-replicate n z in
    part_stored t c.args.from (replicate n z) (c.fill.ensures.after (λ y e. e) ∙ ap (λ (k : ℕ). replicate k z) part)
    (omega (arith, long)) (omega (arith, long))
