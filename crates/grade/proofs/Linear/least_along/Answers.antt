-- The corner and its difference from the anchor keep the sizes that the calls ask. Assumes nothing.
use mathlib.Core.Path.{ap, ◌∙◌, subst⁻¹}
use Rattle.exact.proofs.Signed.{bit, got}
use Rattle.grade.specs.Grade.{minus, dot}
use Rattle.grade.specs.Exact.{least_along}
use Rattle.grade.specs.Fits.{Within3}
use Rattle.grade.proofs.Sizes.{minus_within, least_corner_within, least_along_within}
use Rattle.grade.proofs.Linear.least_along.Goals as goal

pub minus-requires : goal.minus-requires
minus-requires c =
    let p = c.requires in
    (subst⁻¹ (Within3 1048576) c.least_corner-corner.ensures (least_corner_within c.args.self.now.direction p.1.0 p.1.1), p.0.from)

pub dot-requires : goal.dot-requires
dot-requires c =
    let p = c.requires in
    let e = c.minus.ensures ∙ ap (λ q. minus q c.args.self.now.from) c.least_corner-corner.ensures in
    (subst⁻¹ (Within3 2097152) e (minus_within (least_corner_within c.args.self.now.direction p.1.0 p.1.1) p.0.from), p.0.direction)

pub returns : goal.returns
unfolding least_along
returns c =
    let g = c.args.self.now in
    let p = c.requires in
    let e = c.minus.ensures ∙ ap (λ q. minus q g.from) c.least_corner-corner.ensures in
    (bit tt (got (c.dot.ensures ∙ ap (λ q. dot q g.direction) e) (least_along_within g p.0 p.1.0 p.1.1))).same
