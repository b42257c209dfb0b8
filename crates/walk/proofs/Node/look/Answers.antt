-- By the test. Assumes nothing.
use mathlib.Core.Path.{◌≡◌, sym, ap, ◌∙◌}
use mathlib.Core.Bool.{Bool, true, false, ◌||◌}
use Prim.Native.Nat.{ℕ}
use lib.Dec.{eqb}
use Rattle.gyroid.specs.declared.Gyroid.{Gyroid}
use Rattle.gyroid.specs.declared.State.{State}
use Rattle.tree.specs.declared.Axis.{Axis}
use Rattle.tree.specs.Box.{Box, cut, one_cube, box_of}
use Rattle.walk.specs.declared.Step.{Step}
use Rattle.walk.specs.Walk.{is_settled}
use Rattle.walk.specs.FunctionsInUse.{state_at}
use Rattle.walk.specs.Step.{step_at}
use Rattle.walk.proofs.EndLaws.{state_is}
use Rattle.walk.proofs.Node.look.Goals as goal

module _ (g : Gyroid) (axis : Box → Axis) (d : ℕ) (b : Box) {s : State} {t : Bool} (own : s ≡ state_at g b)
    (test : t ≡ (is_settled s || eqb d 0 || one_cube b)) where
  -- the test of the box's own state
  tested : (is_settled (state_at g b) || eqb d 0 || one_cube b) ≡ t
  tested = ap (λ (r : State). is_settled r || eqb d 0 || one_cube b) (sym own) ∙ sym test

  cell : t ≡ true → Step.Cell s ≡ step_at g axis d b
  unfolding step_at
  cell e = rw (tested ∙ e) (ap (λ (r : State). Step.Cell r) own)

  halves : t ≡ false → {a : Axis} → a ≡ axis b → Step.Halves a ≡ step_at g axis d b
  unfolding step_at
  halves e f = rw (tested ∙ e) (ap (λ (x : Axis). Step.Halves x) f)

pub returns-then-stops-clause-value : goal.returns-then-stops-clause-value
returns-then-stops-clause-value c =
    let a = c.args in
    let b = box_of a.self.b in
    cell _ (cut a.ties) a.depth b (c.state-s.ensures.value ∙ sym (state_is _ b)) c.stops.ensures c.if-stops.true

pub returns-clause-value : goal.returns-clause-value
returns-clause-value c =
    let a = c.args in
    let b = box_of a.self.b in
    halves _ (cut a.ties) a.depth b (c.state-s.ensures.value ∙ sym (state_is _ b)) c.stops.ensures c.if-stops.false c.cut.ensures
