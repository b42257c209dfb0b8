-- Each entry of the corner is an entry of the box, read back from its bits. Assumes nothing.
use native.Mathlib.Omega.{arith}
use mathlib.Core.List.{[], ◌∷◌}
use mathlib.Core.Path.{◌≡◌, ◌∙◌, subst⁻¹}
use lib.Signed.{lt_z}
use lib.IntN.{ℤ, pos}
use mir.Val.{to_z, of_z, SFits}
use mir.Syntax.{w64}
use Rattle.exact.proofs.Choice.{choose}
use Rattle.exact.proofs.Signed.{back}
use Rattle.limits.specs.Ticks.{at}
use Rattle.grade.specs.Exact.{least_end, least_corner}
use Rattle.grade.proofs.vector.least_corner.Goals as goal

picked : (d a b : ℤ) {r : ℤ} → SFits w64 d → SFits w64 a → SFits w64 b
    → r ≡ least_end (to_z w64 (of_z w64 d)) (to_z w64 (of_z w64 a)) (to_z w64 (of_z w64 b))
    → to_z w64 (of_z w64 r) ≡ least_end d a b
picked d a b {r} fd fa fb e = back (subst⁻¹ (SFits w64) same (choose (lt_z (pos 0) d) a b (SFits w64) (λ _. fa) (λ _. fb))) ∙ same
  where
    same : r ≡ least_end d a b
    same = e ∙ (λ k. least_end (back fd k) (back fa k) (back fb k))

pub returns : goal.returns
unfolding least_corner
returns c =
    let d = c.args.d in
    let a = c.args.lo in
    let b = c.args.hi in
    let x = picked (at d 0) (at a 0) (at b 0)
    (record { sfits = omega arith }) (record { sfits = omega arith }) (record { sfits = omega arith }) c.least_end-x.ensures in
    let y = picked (at d 1) (at a 1) (at b 1)
    (record { sfits = omega arith }) (record { sfits = omega arith }) (record { sfits = omega arith }) c.least_end-y.ensures in
    let z = picked (at d 2) (at a 2) (at b 2)
    (record { sfits = omega arith }) (record { sfits = omega arith }) (record { sfits = omega arith }) c.least_end-z.ensures in
    λ k. x k ∷ y k ∷ z k ∷ []
