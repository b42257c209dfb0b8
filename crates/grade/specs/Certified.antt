-- The axis of a linear level, its planes, its slope, and what certification refuses. Definitions only; assumes nothing.
use Rattle.std.specs.Prelude.{Bool, true, false, cond, Option, Some, None, not, ◌&&◌, ℕ, ℤ, pos, negsuc, ◌+ℤ◌, ◌-ℤ◌, ◌*ℤ◌}
use Rattle.std.specs.Int.Signed.{lt_z, le_z}
use Rattle.grade.specs.declared.Linear.{Linear}
use Rattle.grade.specs.declared.GradeDef.{GradeDef}
use Rattle.grade.specs.declared.Planes.{Planes}
use Rattle.grade.specs.declared.Slope.{Slope}
use Rattle.limits.specs.Ticks.{at}
use Rattle.grade.specs.Grade.{eq_z}
use Rattle.limits.specs.Refusals.{refused, ◌or_else◌}

-- a alone is not 0
abbrev pub only : ℤ → ℤ → ℤ → Bool
only a b c = not (eq_z a (pos 0)) && eq_z b (pos 0) && eq_z c (pos 0)

-- the axis on which alone the anchors differ
abbrev pub axis_of : Bool → Bool → Bool → Option ℕ
axis_of x y z = cond x (Some 0) (cond y (Some 1) (cond z (Some 2) None))

unfoldable pub axis : Linear → Option ℕ
axis g =
    let d = at g.direction in
    axis_of (only (d 0) (d 1) (d 2)) (only (d 1) (d 2) (d 0)) (only (d 2) (d 0) (d 1))

abbrev pub is_one : Option ℕ → Bool
is_one (Some i) = true
is_one None = false

unfoldable pub def_axis : GradeDef → Option ℕ
def_axis (GradeDef.Constant c) = None
def_axis (GradeDef.Linear g) = axis g

-- "`planes` (the axis, then the positions of `from` and `to` in ticks, or none)"
abbrev pub planes_on : Option ℕ → Linear → Option Planes
planes_on (Some i) g = Some (record { axis = i; from = at g.from i; to = at g.from i +ℤ at g.direction i })
planes_on None g = None

abbrev pub linear_planes : Linear → Option Planes
linear_planes g = planes_on (axis g) g

unfoldable pub planes : GradeDef → Option Planes
planes (GradeDef.Constant c) = None
planes (GradeDef.Linear g) = linear_planes g

abbrev pub size : ℤ → ℤ
size z = cond (lt_z z (pos 0)) (pos 0 -ℤ z) z

-- the "anchor distance in ticks" of anchors that differ along one axis: on the others the difference is 0
unfoldable pub distance : Linear → ℤ
distance g = size (at g.direction 0) +ℤ size (at g.direction 1) +ℤ size (at g.direction 2)

-- abs(end − start)
unfoldable pub rise : Linear → ℤ
rise g = size (g.end -ℤ g.start)

unfoldable pub slope_bound : GradeDef → Slope
slope_bound (GradeDef.Constant c) = record { rise = pos 0; distance = pos 1 }
slope_bound (GradeDef.Linear g) = record { rise = rise g; distance = distance g }

-- ---- "certification, linear with start ≠ end"
-- within −256..256
abbrev pub ending : ℤ → Bool
ending z = le_z (negsuc 255) z && le_z z (pos 256)

-- "4: anchors differ on other than one axis; 5: an end outside −256..256, or 10 × abs(end−start) > anchor distance in ticks"
unfoldable pub linear_certification : Linear → ℕ
linear_certification g = refused (not (is_one (axis g))) 4 or_else refused (not (ending g.start && ending g.end)) 5 or_else refused (lt_z (distance g) (pos 10 *ℤ rise g)) 5

unfoldable pub certification : GradeDef → ℕ
certification (GradeDef.Constant c) = 0
certification (GradeDef.Linear g) = linear_certification g
