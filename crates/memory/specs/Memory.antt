-- WHAT A MEMORY OF PARTS HOLDS: 64 slots an axis, those of x first, and 32 second-order terms. A slot may hold a side, in shifted ticks, and with it
-- its part; a term stands with the three spans of the boxes that it is of. Definitions only; assumes nothing.
use Rattle.std.specs.Prelude.{◌≡◌, List, ◌⊎◌, ℕ, ◌/◌, ◌≤◌, ◌<◌, get_or, Float, Option, Some, None}
use Rattle.interval.specs.declared.Interval.{Interval}
use Rattle.interval.specs.Nearest.{nearest}
use Rattle.gyroid.specs.declared.Gyroid.{Gyroid}
use Rattle.gyroid.specs.declared.Part.{Part}
use Rattle.gyroid.specs.FunctionsInUse.{part, radius, second_of}
use Rattle.tree.specs.declared.Side.{Side}
use Rattle.tree.specs.declared.ShiftedBox.{ShiftedBox}
use Rattle.tree.specs.Box.{unshifted}
use Rattle.memory.specs.declared.Places.{Places}
use Rattle.memory.specs.declared.Slot.{Slot}
use Rattle.memory.specs.declared.Term.{Term}

-- the side of a box along one axis, "its ends n/1024 exactly"
abbrev pub side : Side → Interval
side s = record { lo = nearest (unshifted s.low) 1024; hi = nearest (unshifted s.high) 1024 }

-- the radius of a side that is n ticks long: wherever it lies
abbrev pub radius_of : ℕ → Float
radius_of n = radius (side (record { low = 0; high = n }))

-- the second-order term of the boxes with three spans
abbrev pub term_of : Gyroid → List ℕ → Interval
term_of g spans = second_of g (radius_of (get_or spans 0 0)) (radius_of (get_or spans 1 0)) (radius_of (get_or spans 2 0))

-- what stands in slot s, and which term d
abbrev pub slot_at : List (Option Slot) → ℕ → Option Slot
slot_at slots s = get_or slots s None

abbrev pub term_at : List (Option Term) → ℕ → Option Term
term_at kept d = get_or kept d None

-- THE INVARIANT: every slot that holds a side holds what its axis, s div 64, gives over that side, and every term that has spans is that of a box
-- with these spans
pub record Remembers (g : Gyroid) (slots : List (Option Slot)) (kept : List (Option Term)) : Type 0 where
  pub parts : (s : ℕ) → s < 192 → (x : Slot) → slot_at slots s ≡ Some x → x.part ≡ part g (s / 64) (side x.side)
  pub terms : (d : ℕ) → d < 32 → (q : Term) → term_at kept d ≡ Some q → q.value ≡ term_of g q.spans

-- the side in a slot, and the part
abbrev pub side_in : Option Slot → Option Side
side_in None = None
side_in (Some x) = Some x.side

abbrev pub part_in : Option Slot → Option Part
part_in None = None
part_in (Some x) = x.part

-- slot s holds this side
abbrev pub Holds : List (Option Slot) → ℕ → Side → Type 0
Holds slots s b = side_in (slot_at slots s) ≡ Some b

-- the slots but s hold in l what they hold in k
abbrev pub Others : ℕ → List (Option Slot) → List (Option Slot) → Type 0
Others s k l = (t : ℕ) (b : Side) → (t < s) ⊎ (s < t) → Holds k t b → Holds l t b

-- three slots, each among those of its axis
pub record Slots (p : Places) : Type 0 where
  pub of_x : p.x < 64
  pub from_y : 64 ≤ p.y
  pub of_y : p.y < 128
  pub from_z : 128 ≤ p.z
  pub of_z : p.z < 192

-- they hold the sides of a box
pub record Ready (slots : List (Option Slot)) (b : ShiftedBox) (p : Places) : Type 0 where
  pub on_x : Holds slots p.x b.x
  pub on_y : Holds slots p.y b.y
  pub on_z : Holds slots p.z b.z

-- the second-order term of the parts that stand in three slots, if there are three
abbrev pub IsTermOf : Gyroid → List (Option Slot) → Places → Option Interval → Type 0
IsTermOf g slots p q = (x y z : Part) → part_in (slot_at slots p.x) ≡ Some x → part_in (slot_at slots p.y) ≡ Some y → part_in (slot_at slots p.z) ≡ Some z
    → q ≡ Some (second_of g x.radius y.radius z.radius)
