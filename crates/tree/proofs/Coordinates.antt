-- The coordinates of the box that the code's box stands for. Assumes nothing.
use mathlib.Core.Path.{◌≡◌, refl}
use Rattle.tree.specs.declared.ShiftedBox.{ShiftedBox}
use Rattle.tree.specs.Box.{unshifted, box_of}

pub coordinates : (b : ShiftedBox) → box_of b ≡ record {
  lx = unshifted b.x.low;
  ly = unshifted b.y.low;
  lz = unshifted b.z.low;
  hx = unshifted b.x.high;
  hy = unshifted b.y.high;
  hz = unshifted b.z.high;
}
unfolding box_of
coordinates b = refl
