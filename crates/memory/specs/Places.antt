-- WHERE THE SIDES OF A BOX ARE LOOKED UP: nothing that is promised of a box depends on it. Definitions only; assumes nothing.
use Rattle.std.specs.Prelude.{ℕ, ◌+◌, ◌-◌, ◌*◌, ◌/◌, ◌%◌}
use Rattle.tree.specs.declared.Axis.{Axis}
use Rattle.tree.specs.declared.Axis.TheVariants.{X, Y, Z}
use Rattle.tree.specs.declared.Half.{Half}
use Rattle.tree.specs.declared.Half.TheVariants.{Lower, Upper}
use Rattle.memory.specs.declared.Places.{Places}

-- the half of a side: among the 32 places of the other depth of halving, twice as far on, the upper next to the lower
abbrev pub upper_next : Half → ℕ
upper_next Lower = 0
upper_next Upper = 1

abbrev pub half_place : Half → ℕ → ℕ
half_place h place = (32 - place % 64 / 32 * 32) + 2 * (place % 16) + upper_next h

-- the half of a box along an axis
abbrev pub half_places : Half → Axis → Places → Places
half_places h X p = record { x = half_place h p.x; y = p.y; z = p.z }
half_places h Y p = record { x = p.x; y = half_place h p.y; z = p.z }
half_places h Z p = record { x = p.x; y = p.y; z = half_place h p.z }

-- the slots: 64 an axis, those of x first
abbrev pub slot_places : Places → Places
slot_places p = record { x = 64 * 0 + p.x % 64; y = 64 * 1 + p.y % 64; z = 64 * 2 + p.z % 64 }
