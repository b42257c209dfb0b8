-- A step in each series, and the end after eight. Assumes nothing.
use mathlib.Core.Path.{◌≡◌, ap, ◌∙◌}
use mathlib.Core.List.{List}
use Prim.Native.Nat.{ℕ, suc, ◌+◌, ◌-◌}
use native.Mathlib.Omega.{arith}
use Rattle.interval.specs.declared.Interval.{Interval}
use Rattle.interval.specs.Interval.{sum, product}
use Rattle.grade.specs.InUse.{in_use}
use Rattle.grade.specs.Intervals.{box_at}
use Rattle.gyroid.specs.Turn.{horner}
use Rattle.gyroid.proofs.turns.series.Goals as goal

-- a step, by what its product and its sum promise
step : (cs : List Interval) (x : Interval) (i : ℕ) {s p r : Interval} → s ≡ horner in_use cs x i → p ≡ product s x → r ≡ sum in_use p (box_at cs (7 - i))
    → r ≡ horner in_use cs x (i + 1)
unfolding horner
step cs x i {r} h e f =
    let one : r ≡ horner in_use cs x (suc i) = f ∙ ap (λ (p : Interval). sum in_use p (box_at cs (7 - i))) (e ∙ ap (λ (s : Interval). product s x) h) in
    let more : suc i ≡ i + 1 = omega arith in
    one ∙ ap (λ (n : ℕ). horner in_use cs x n) more

pub loop-i-preserved : goal.loop-i-preserved
loop-i-preserved c =
    let (s, d) = c.loop-i.invariant in
    let x = c.args.x in
    let i = c.loop-i.i in (
      step c.args.sine.now x i s c.mul.ensures c.add-s.ensures,
      step c.args.cosine.now x i d c.mul-in-loop-i.ensures c.add-c.ensures,
    )

pub returns : goal.returns
returns c =
    let e : c.loop-i.i ≡ 8 = omega arith in
    let (s, d) = c.loop-i.invariant in
    let sine : c.loop-i.s ≡ _ = s ∙ ap (λ (n : ℕ). horner in_use c.args.sine.now c.args.x n) e in
    let cosine : c.loop-i.c ≡ _ = d ∙ ap (λ (n : ℕ). horner in_use c.args.cosine.now c.args.x n) e in
    λ k. record { sine = sine k; cosine = cosine k }
