-- THE SIDES OF A BOX THAT STAND IN THEIR SLOTS give it its state. Assumes nothing.
use Rattle.std.proofs.Common.{◌≡◌, refl, sym, ap, ◌∙◌, ℕ, ◌/◌, ◌<◌, List, Option, Some, None, arith}
use Rattle.grade.specs.InUse.{in_use}
use Rattle.interval.specs.declared.Interval.{Interval}
use Rattle.gyroid.specs.declared.Gyroid.{Gyroid}
use Rattle.gyroid.specs.declared.Part.{Part}
use Rattle.gyroid.specs.declared.State.TheVariants.{Unsettled}
use Rattle.gyroid.specs.FunctionsInUse.{part, joined, radius, second_of}
use Rattle.gyroid.specs.Residual.{state_of}
use Rattle.gyroid.specs.InUse.{box_state}
use Rattle.gyroid.specs.Admitted.{tick_box}
use Rattle.gyroid.proofs.PartLaws.{radius_found, joined_state}
use Rattle.tree.specs.declared.Side.{Side}
use Rattle.tree.specs.declared.ShiftedBox.{ShiftedBox}
use Rattle.tree.specs.Box.{Box, lows, highs, box_of}
use Rattle.tree.proofs.Coordinates.{coordinates}
use Rattle.memory.specs.declared.Places.{Places}
use Rattle.memory.specs.declared.Slot.{Slot}
use Rattle.memory.specs.declared.Term.{Term}
use Rattle.memory.specs.Memory.{side, slot_at, part_in, Remembers, Holds, Slots, Ready}
use Rattle.memory.proofs.SlotLaws.{kept, none_some}

-- three parts have a second-order term, so that where there is none, a part is missing
pub none_joined : (g h : Gyroid) (x y z : Option Part) {q : Option Interval} → q ≡ None
    → ((a b c : Part) → x ≡ Some a → y ≡ Some b → z ≡ Some c → q ≡ Some (second_of h a.radius b.radius c.radius)) → Unsettled ≡ state_of (joined g x y z)
none_joined g h (Some a) (Some b) (Some c) e f = none_some (sym e ∙ f a b c refl refl refl)
none_joined g h (Some a) (Some b) None e f = refl
none_joined g h (Some a) None z e f = refl
none_joined g h None y z e f = refl

module _ (g : Gyroid) (slots : List (Option Slot)) (terms : List (Option Term)) (b : ShiftedBox) (p : Places) (remembers : Remembers g slots terms)
    (at : Slots p) (ready : Ready slots b p) where
  -- the part in each slot
  part_is : (a s : ℕ) (c : Side) → s < 192 → s / 64 ≡ a → Holds slots s c → part_in (slot_at slots s) ≡ part g a (side c)
  part_is a s c inside own holds = kept g slots terms s c inside remembers holds ∙ ap (λ (n : ℕ). part g n (side c)) own

  pub part_x : part_in (slot_at slots p.x) ≡ part g 0 (side b.x)
  part_x = part_is 0 p.x b.x (omega (arith, at.of_x)) (omega (arith, at.of_x)) ready.on_x

  pub part_y : part_in (slot_at slots p.y) ≡ part g 1 (side b.y)
  part_y = part_is 1 p.y b.y (omega (arith, at.of_y)) (omega (arith, at.from_y, at.of_y)) ready.on_y

  pub part_z : part_in (slot_at slots p.z) ≡ part g 2 (side b.z)
  part_z = part_is 2 p.z b.z at.of_z (omega (arith, at.from_z, at.of_z)) ready.on_z

  -- its radius, where there is one, is that of the side
  radius_is : {o : Option Part} (a : ℕ) (c : Interval) (x : Part) → o ≡ part g a c → o ≡ Some x → x.radius ≡ radius c
  radius_is a c x e h = radius_found in_use g a c (sym e ∙ h)

  pub radius_x : (x : Part) → part_in (slot_at slots p.x) ≡ Some x → x.radius ≡ radius (side b.x)
  radius_x x h = radius_is 0 (side b.x) x part_x h

  pub radius_y : (y : Part) → part_in (slot_at slots p.y) ≡ Some y → y.radius ≡ radius (side b.y)
  radius_y y h = radius_is 1 (side b.y) y part_y h

  pub radius_z : (z : Part) → part_in (slot_at slots p.z) ≡ Some z → z.radius ≡ radius (side b.z)
  radius_z z h = radius_is 2 (side b.z) z part_z h

  -- the state, by what was read in the slots
  pub state_is : {x y z : Option Part} → x ≡ part_in (slot_at slots p.x) → y ≡ part_in (slot_at slots p.y) → z ≡ part_in (slot_at slots p.z)
      → state_of (joined g x y z) ≡ box_state g (tick_box (lows (box_of b)) (highs (box_of b)))
  state_is ex ey ez =
      (λ i. state_of (joined g ((ex ∙ part_x) i) ((ey ∙ part_y) i) ((ez ∙ part_z) i)))
      ∙ joined_state in_use g _ ∙ ap (λ (c : Box). box_state g (tick_box (lows c) (highs c))) (sym (coordinates b))
