-- The product is the box's area, at most 2^42. Assumes nothing.
use native.Mathlib.Omega.{arith}
use Rattle.tree.specs.Box.{box_of}
use Rattle.tree.proofs.ShiftedLaws.{x_span, y_span}
use Rattle.tree.proofs.VolumeLaws.{area_small}
use Rattle.tree.proofs.ShiftedBox.area.Goals as goal

pub overflow_mul-result : goal.overflow_mul-result
overflow_mul-result c =
    let b = c.args.self in
    let g = c.requires in
    rw (c.span.ensures, c.span-2.ensures, ← x_span b g, ← y_span b g) (omega (arith, area_small (box_of b) g))
