-- The grade axis of a level as it is given. Where it is linear with unequal ends it is that of its anchors, and there is one if the level is
-- certified; no other level has one. Assumes nothing.
use mathlib.Core.Path.{◌≡◌, refl}
use mathlib.Core.Bool.{Bool, not, ◌&&◌}
use Rattle.std.specs.Prelude.{None}
use lib.Dec.{T, T_not}
use Rattle.grade.specs.declared.Grade.{Grade}
use Rattle.grade.specs.Grade.{eq_z, is_linear}
use Rattle.grade.specs.Exact.{numbers, compiled}
use Rattle.grade.specs.Certified.{axis, is_one, def_axis, certification}
use Rattle.grade.proofs.Accepted.{by_ends}
use Rattle.grade.proofs.CertifiedLaws.{certified_one}

abbrev unequal : Grade → Bool
unequal g = is_linear g && not (eq_z g.start g.end)

pub graded_axis : (g : Grade) → T (is_linear g && not (eq_z g.start g.end)) → def_axis (compiled g) ≡ axis (numbers g)
unfolding def_axis
graded_axis g t = by_ends g (λ c. def_axis c ≡ axis (numbers g)) (λ _. refl) (λ u. absurd (T_not (unequal g) u t))

pub graded_one : (g : Grade) → T (is_linear g && not (eq_z g.start g.end)) → certification (compiled g) ≡ 0 → T (is_one (axis (numbers g)))
unfolding certification
graded_one g t = by_ends g (λ c. certification c ≡ 0 → T (is_one (axis (numbers g)))) (λ _. certified_one (numbers g)) (λ u. absurd (T_not (unequal g) u t))

pub ungraded_axis : (g : Grade) → T (not (is_linear g && not (eq_z g.start g.end))) → def_axis (compiled g) ≡ None
unfolding def_axis
ungraded_axis g t = by_ends g (λ c. def_axis c ≡ None) (λ u. absurd (T_not (unequal g) t u)) (λ _. refl)
