-- The sides stand in their slots; the second-order term touches none of them. Assumes nothing.
use Rattle.std.proofs.Common.{◌≡◌, sym, ap, ◌∙◌, subst, List, Option}
use Rattle.gyroid.specs.declared.Gyroid.{Gyroid}
use Rattle.gyroid.specs.declared.Part.{Part}
use Rattle.gyroid.specs.InUse.{box_state}
use Rattle.gyroid.specs.FunctionsInUse.{joined}
use Rattle.gyroid.specs.Residual.{state_of}
use Rattle.gyroid.specs.Admitted.{tick_box}
use Rattle.tree.specs.Box.{lows, highs, box_of}
use Rattle.memory.specs.declared.Slot.{Slot}
use Rattle.memory.specs.Memory.{slot_at, part_in, Ready, IsTermOf}
use Rattle.memory.proofs.BoxLaws.{state_is, none_joined}
use Rattle.memory.proofs.Memory.state.Goals as goal
use Rattle.memory.proofs.Memory.state.Goals.{After-part-3}

-- the state by what was read of the memory, which has the leaf as it had
read : (c : After-part-3) {x y z : Option Part} → let m = c.second-second.new.self in let p = c.slots-p.result in
    x ≡ part_in (slot_at m.slots p.x) → y ≡ part_in (slot_at m.slots p.y) → z ≡ part_in (slot_at m.slots p.z)
    → state_of (joined m.leaf x y z) ≡ box_state c.args.self.now.leaf (tick_box (lows (box_of c.args.b)) (highs (box_of c.args.b)))
read c ex ey ez =
    let m = c.second-second.new.self in
    let term = c.second-second.ensures in
    let ready = subst (λ (s : List (Option Slot)). Ready s c.args.b c.slots-p.result) (sym term.slots_2) c.ready.ensures.ready in
    state_is m.leaf m.slots m.terms c.args.b c.slots-p.result m.remembers c.slots-p.ensures.among ready ex ey ez
    ∙ ap (λ (g : Gyroid). box_state g (tick_box (lows (box_of c.args.b)) (highs (box_of c.args.b)))) (term.leaf ∙ c.ready.ensures.leaf)

pub returns-in-Some-Some-Some-Some-clause-value : goal.returns-in-Some-Some-Some-Some-clause-value
returns-in-Some-Some-Some-Some-clause-value c =
    let s = c.in-Some-Some-Some-Some in
    c.state_of_parts.ensures ∙ read (goal.at.returns-in-Some-Some-Some-Some-clause-value c).After-part-3 s.ensures s.ensures' s.ensures''

pub returns-in_default-clause-value : goal.returns-in_default-clause-value
returns-in_default-clause-value c =
    let s = c.in_default in
    read (goal.at.returns-in_default-clause-value c).After-part-3 s.ensures s.ensures' s.ensures''

pub returns-in_default-2-clause-value : goal.returns-in_default-2-clause-value
returns-in_default-2-clause-value c =
    let s = c.in_default in
    read (goal.at.returns-in_default-2-clause-value c).After-part-3 s.ensures s.ensures' c.part-3.ensures

pub returns-in_default-3-clause-value : goal.returns-in_default-3-clause-value
returns-in_default-3-clause-value c = read (goal.at.returns-in_default-3-clause-value c).After-part-3 c.in_default.ensures c.part-2.ensures c.part-3.ensures

-- without a second-order term there are not three parts
pub returns-in_default-4-clause-value : goal.returns-in_default-4-clause-value
returns-in_default-4-clause-value c =
    let e = c.second-second.ensures in
    let term = subst (λ (s : List (Option Slot)). IsTermOf c.ready.new.self.leaf s c.slots-p.result c.second-second.result) (sym e.slots_2) e.value in
    none_joined _ _ _ _ _ c.in_default.is-0
    (λ x y z hx hy hz. term x y z (sym c.part.ensures ∙ hx) (sym c.part-2.ensures ∙ hy) (sym c.part-3.ensures ∙ hz))
    ∙ read (goal.at.returns-in_default-4-clause-value c).After-part-3 c.part.ensures c.part-2.ensures c.part-3.ensures
