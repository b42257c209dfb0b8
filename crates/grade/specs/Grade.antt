-- A level's entries, and the level at a rational point: document 01's "The description" and "Exact grade", whose words stand in quotes.
-- Lengths are in ticks and levels in level counts. Definitions only; assumes nothing.
use Rattle.std.specs.Prelude.{Bool, cond, ◌&&◌, List, [], ◌∷◌, ℕ, ℤ, pos, negsuc, nat_abs, ◌+ℤ◌, ◌-ℤ◌, ◌*ℤ◌}
use Rattle.std.specs.Int.Signed.{le_z}
use Rattle.limits.specs.Ticks.{at, ticks}
use Rattle.exact.specs.Fraction.{Fraction, whole, one_f, ◌+F◌, ◌-F◌, ◌*F◌, ◌/F◌, held_f}
use Rattle.grade.specs.declared.Grade.{Grade}

-- ---- "levels are counts from −4096 to 4096."
abbrev pub count : ℤ → Bool
count z = le_z (negsuc 4095) z && le_z z (pos 4096)

-- "level kind (0 constant, 1 linear, 2 distance)"
abbrev pub kind : ℤ → Bool
kind z = le_z (pos 0) z && le_z z (pos 2)

-- "Limits bind unused entries too."
unfoldable pub in_limits : Grade → Bool
in_limits g = kind g.kind && ticks g.from && ticks g.to && count g.start && count g.end

-- whether two whole numbers are equal
abbrev pub eq_z : ℤ → ℤ → Bool
eq_z a b = le_z a b && le_z b a

abbrev pub is_linear : Grade → Bool
is_linear g = eq_z g.kind (pos 1)

-- ---- the difference of the anchors, and its square: "With d = to − from and L = d·d"
unfoldable pub minus : List ℤ → List ℤ → List ℤ
minus a b = (at a 0 -ℤ at b 0) ∷ (at a 1 -ℤ at b 1) ∷ (at a 2 -ℤ at b 2) ∷ []

unfoldable pub dot : List ℤ → List ℤ → ℤ
dot a b = at a 0 *ℤ at b 0 +ℤ at a 1 *ℤ at b 1 +ℤ at a 2 *ℤ at b 2

abbrev pub direction : Grade → List ℤ
direction g = minus g.to g.from

abbrev pub length_sq : Grade → ℤ
length_sq g = dot (direction g) (direction g)

-- a rational point: its coordinate on each axis, in ticks
abbrev pub Point : Type 0
Point = ℕ → Fraction

-- (p − from)·d, for anchors `from` with the difference d
unfoldable pub along : List ℤ → List ℤ → Point → Fraction
along from d p = (p 0 -F whole (at from 0)) *F whole (at d 0) +F (p 1 -F whole (at from 1)) *F whole (at d 1) +F (p 2 -F whole (at from 2)) *F whole (at d 2)

-- the parameter of a point, 0 at `from` and 1 at `to`: "t = (p−from)·d / L"
unfoldable pub t : Grade → Point → Fraction
t g p = along g.from (direction g) p /F nat_abs (length_sq g)

-- start + x (end − start)
abbrev pub ramp_level : Grade → Fraction → Fraction
ramp_level g x = whole g.start +F x *F whole (g.end -ℤ g.start)

-- "The level is start + t' (end−start), t' being t held to 0..1"; "(constant uses `start`)". A distance level is refused, so it has none to state
unfoldable pub level : Grade → Point → Fraction
level g p = cond (is_linear g) (ramp_level g (held_f (t g p) one_f)) (whole g.start)
