-- The difference of the anchors and its square fit. Assumes nothing.
use mathlib.Core.Path.{subst⁻¹}
use Rattle.grade.specs.Fits.{Within3}
use Rattle.grade.proofs.Sizes.{minus_within}
use Rattle.grade.proofs.Linear.new.Goals as goal

pub dot-requires : goal.dot-requires
dot-requires c =
    let p = c.requires in
    let w = subst⁻¹ (Within3 2097152) c.minus-direction.ensures (minus_within p.1 p.0) in
    (w, w)
