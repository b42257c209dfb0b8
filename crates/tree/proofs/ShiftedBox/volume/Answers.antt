-- The product is the box's volume, at most 2^63. Assumes nothing.
use native.Mathlib.Omega.{arith}
use Rattle.tree.specs.Box.{box_of, volume}
use Rattle.tree.proofs.ShiftedLaws.{z_span}
use Rattle.tree.proofs.VolumeLaws.{volume_small}
use Rattle.tree.proofs.ShiftedBox.volume.Goals as goal

pub overflow_mul-result : goal.overflow_mul-result
unfolding volume
overflow_mul-result c =
    let b = c.args.self in
    let g = c.requires in
    rw (c.area.ensures, c.span.ensures, ← z_span b g) (omega (arith, volume_small (box_of b) g))
