-- What certification leaves: the anchors differ on an axis, so the anchor distance is above 0 and the slope is a fraction. Assumes nothing.
use mathlib.Core.Path.{◌≡◌}
use mathlib.Core.Bool.{Bool, true, false, not, ◌&&◌}
use mathlib.Core.Logic.{◌⊎◌, inl, inr}
use Prim.Native.Nat.{ℕ}
use lib.Dec.{T, T_not, lit≤}
use lib.IntN.{ℤ, pos, negsuc, ◌+ℤ◌, ◌-ℤ◌, ◌*ℤ◌}
use lib.Signed.{lt_z, lt_z_yes, ◌≤ℤ◌, ◌<ℤ◌}
use Rattle.exact.proofs.Choice.{choose}
use Rattle.exact.proofs.Size.{within_zero}
use Rattle.exact.proofs.IntegerOrder.{zarith, ≤ℤ_antisym, <ℤ_le, sub_pos, le_or_lt}
use Rattle.grade.specs.declared.Linear.{Linear}
use Rattle.grade.specs.declared.GradeDef.{GradeDef}
use Rattle.limits.specs.Ticks.{at}
use Rattle.grade.specs.Grade.{eq_z}
use Rattle.limits.specs.Refusals.{refused, ◌or_else◌}
use Rattle.grade.specs.Certified.{only, axis_of, axis, is_one, size, distance, rise, slope_bound, ending, linear_certification, certification}
use Rattle.grade.specs.Fits.{DefFits, SlopeFits}
use Rattle.limits.proofs.TickLaws.{both}
use Rattle.grade.proofs.Accepted.{same_yes, first, second, third}
use Rattle.limits.proofs.RefusalLaws.{none_first, kept}
use Rattle.grade.proofs.Sizes.{distance_within, rise_within}

not_below : (z : ℤ) → T (not (lt_z z (pos 0))) → pos 0 ≤ℤ z
not_below (pos n) t = omega zarith
not_below (negsuc n) t = absurd t

size_nonneg : (z : ℤ) → pos 0 ≤ℤ size z
size_nonneg z = choose (lt_z z (pos 0)) (pos 0 -ℤ z) z (λ s. pos 0 ≤ℤ s) (λ t. <ℤ_le {a = pos 0} {b = pos 0 -ℤ z} (sub_pos {a = z} {b = pos 0} (lt_z_yes t))) (not_below z)

size_pos : (z : ℤ) → T (not (eq_z z (pos 0))) → pos 0 <ℤ size z
size_pos z t = choose (lt_z z (pos 0)) (pos 0 -ℤ z) z (λ s. pos 0 <ℤ s) (λ u. sub_pos {a = z} {b = pos 0} (lt_z_yes u)) (λ u. go (le_or_lt z (pos 0)) (not_below z u))
  where
    go : (z ≤ℤ pos 0) ⊎ (pos 0 <ℤ z) → pos 0 ≤ℤ z → pos 0 <ℤ z
    go (inl h) k = absurd (T_not (eq_z z (pos 0)) t (same_yes z (pos 0) (≤ℤ_antisym {a = z} {b = pos 0} h k)))
    go (inr h) k = h

alone : (a b c : ℤ) → T (only a b c) → pos 0 <ℤ size a
alone a b c t = size_pos a (both (not (eq_z a (pos 0))) (eq_z b (pos 0)) (both (not (eq_z a (pos 0)) && eq_z b (pos 0)) (eq_z c (pos 0)) t).0).0

pub distance_pos : (g : Linear) → T (is_one (axis g)) → pos 0 <ℤ distance g
unfolding axis distance
distance_pos g t = go (only (d 0) (d 1) (d 2)) (only (d 1) (d 2) (d 0)) (only (d 2) (d 0) (d 1))
    (λ u. first (size_nonneg (d 0)) (size_nonneg (d 1)) (size_nonneg (d 2)) (alone (d 0) (d 1) (d 2) u))
    (λ u. second (size_nonneg (d 0)) (size_nonneg (d 1)) (size_nonneg (d 2)) (alone (d 1) (d 2) (d 0) u))
    (λ u. third (size_nonneg (d 0)) (size_nonneg (d 1)) (size_nonneg (d 2)) (alone (d 2) (d 0) (d 1) u)) t
  where
    d : ℕ → ℤ
    d = at g.direction

    P : Type 0
    P = pos 0 <ℤ (size (d 0) +ℤ size (d 1) +ℤ size (d 2))

    go : (x y z : Bool) → (T x → P) → (T y → P) → (T z → P) → T (is_one (axis_of x y z)) → P
    go true y z f h k u = f tt
    go false true z f h k u = h tt
    go false false true f h k u = k tt
    go false false false f h k u = absurd u

pub certified_one : (g : Linear) → linear_certification g ≡ 0 → T (is_one (axis g))
unfolding linear_certification
certified_one g e = kept (is_one (axis g)) (none_first (not (is_one (axis g))) 3 (refused (not (ending g.start && ending g.end)) 5 or_else refused (lt_z (distance g) (pos 10 *ℤ rise g)) 5) e).0

pub slope_fits : (g : GradeDef) → DefFits g → certification g ≡ 0 → SlopeFits (slope_bound g)
unfolding slope_bound certification
slope_fits (GradeDef.Constant c) f e = record { rise = within_zero 8192; distance = record { abs = lit≤ tt }; apart = lt_z_yes tt }
slope_fits (GradeDef.Linear g) f e = record { rise = rise_within g f; distance = distance_within g f; apart = distance_pos g (certified_one g e) }
