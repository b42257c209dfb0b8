-- Three sizes of at most 2^21 add up. Assumes nothing.
use mathlib.Core.Path.{◌∙◌}
use lib.IntN.{pos, nat_abs}
use Rattle.exact.proofs.Size.{within_fits}
use Rattle.exact.proofs.Signed.{bit, got, add, heard}
use Rattle.limits.specs.Ticks.{at}
use Rattle.grade.specs.Certified.{distance}
use Rattle.grade.proofs.Sizes.{size_is, size_within}
use Rattle.grade.proofs.Linear.distance.Goals as goal

pub returns : goal.returns
unfolding distance
returns c =
    let p = c.requires.direction in
    let d = at c.args.self.now.direction in
    let x = bit tt (got (heard (λ z. pos (nat_abs z)) (within_fits tt p.x) c.abs.ensures.value ∙ size_is (d 0)) (size_within p.x)) in
    let y = bit tt (got (heard (λ z. pos (nat_abs z)) (within_fits tt p.y) c.abs-2.ensures.value ∙ size_is (d 1)) (size_within p.y)) in
    let z = bit tt (got (heard (λ z. pos (nat_abs z)) (within_fits tt p.z) c.abs-3.ensures.value ∙ size_is (d 2)) (size_within p.z)) in
    (bit tt (add (bit tt (add x y)) z)).same
