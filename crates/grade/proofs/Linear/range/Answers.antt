-- The two corners, their levels, in order. Assumes nothing.
use mathlib.Core.Path.{◌∙◌, ap}
use Rattle.exact.proofs.Signed.{is, got, bit, asked}
use Rattle.grade.specs.Exact.{level_over, bounds_of, linear_range}
use Rattle.grade.proofs.Sizes.{least_along_within, greatest_along_within, level_within}
use Rattle.grade.proofs.Linear.range.Goals as goal

pub level_over-a-requires : goal.level_over-a-requires
level_over-a-requires c =
    let p = c.requires in
    (p.0, asked tt (bit tt (got c.least_along.ensures (least_along_within c.args.self.now p.0 p.1.0 p.1.1))))

pub level_over-b-requires : goal.level_over-b-requires
level_over-b-requires c =
    let p = c.requires in
    (p.0, asked tt (bit tt (got c.greatest_along.ensures (greatest_along_within c.args.self.now p.0 p.1.0 p.1.1))))

pub returns : goal.returns
unfolding linear_range
returns c =
    let g = c.args.self.now in
    let p = c.requires in
    let t = bit tt (got c.least_along.ensures (least_along_within g p.0 p.1.0 p.1.1)) in
    let u = bit tt (got c.greatest_along.ensures (greatest_along_within g p.0 p.1.0 p.1.1)) in
    let a = bit tt (got (c.level_over-a.ensures ∙ ap (level_over g) t.same) (level_within g p.0 t.within)) in
    let b = bit tt (got (c.level_over-b.ensures ∙ ap (level_over g) u.same) (level_within g p.0 u.within)) in
    let l = bit tt (is p.0.length) in
    c.of.ensures ∙ (λ k. bounds_of (a.same k) (b.same k) (l.same k))
