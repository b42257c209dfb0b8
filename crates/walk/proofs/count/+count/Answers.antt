-- At a cell the count is one cell's; at a box that is halved it is that of its halves, joined. Assumes nothing.
use mathlib.Core.Path.{◌≡◌, sym, ap, ◌∙◌}
use Prim.Native.Nat.{ℕ}
use native.Mathlib.Omega.{arith}
use Rattle.gyroid.specs.declared.Gyroid.{Gyroid}
use Rattle.tree.specs.declared.Axis.{Axis}
use Rattle.tree.specs.Box.{Box}
use Rattle.tree.proofs.CutLaws.{fair_cut}
use Rattle.walk.specs.declared.Counted.{Counted}
use Rattle.walk.specs.Counted.{counted_of}
use Rattle.walk.proofs.CountedLaws.{counted_cell, counted_halves, counted_adds}
use Rattle.walk.proofs.HalvedLaws.{cell, halves, lower_good, upper_good}
use Rattle.walk.proofs.count.+count.Goals as goal

-- what is counted of a half, by the leaf that the memory had at first
by_leaf : (d : ℕ) (b : Box) (axis : Box → Axis) {g h : Gyroid} {n : Counted} → n ≡ counted_of g axis d b → g ≡ h → n ≡ counted_of h axis d b
by_leaf d b axis e same = e ∙ ap (λ (k : Gyroid). counted_of k axis d b) same

pub overflow_sub-left : goal.overflow_sub-left
overflow_sub-left t c = (halves _ _ _ _ c.requires.good c.in-Halves.ensures.value).left

pub count-l-requires : goal.count-l-requires
count-l-requires t c =
    let good = c.requires.good in
    let e = c.in-Halves.ensures.value in
    (omega (arith, (halves _ _ _ _ good e).left), (lower_good _ _ _ _ good e c.half.ensures, omega arith))

pub count-h-requires : goal.count-h-requires
count-h-requires t c =
    let good = c.requires.good in
    let e = c.in-Halves.ensures.value in
    (omega (arith, (halves _ _ _ _ good e).left), (upper_good _ _ _ _ good e c.half-in-Halves.ensures, omega arith))

-- the halves' counts
pub joined-requires : goal.joined-requires
joined-requires t c =
    let e = c.in-Halves.ensures in
    let l = by_leaf _ _ _ c.count-l.ensures.value e.leaf in
    let h = by_leaf _ _ _ c.count-h.ensures.value (c.count-l.ensures.leaf ∙ e.leaf) in
    counted_adds _ _ _ _ _ (halves _ _ _ _ c.requires.good e.value) c.half.ensures c.half-in-Halves.ensures (fair_cut _) c.requires.good
    c.requires.depth_bound l h

pub returns-in-Cell-clause-value : goal.returns-in-Cell-clause-value
returns-in-Cell-clause-value t c = c.cell.ensures ∙ sym (counted_cell _ _ _ _ _ (cell _ _ _ _ c.in-Cell.ensures.value))

pub returns-in-Halves-clause-value : goal.returns-in-Halves-clause-value
returns-in-Halves-clause-value t c =
    let e = c.in-Halves.ensures in
    let l = by_leaf _ _ _ c.count-l.ensures.value e.leaf in
    let h = by_leaf _ _ _ c.count-h.ensures.value (c.count-l.ensures.leaf ∙ e.leaf) in
    c.joined.ensures ∙ counted_halves _ _ _ _ _ (halves _ _ _ _ c.requires.good e.value) c.half.ensures c.half-in-Halves.ensures l h
