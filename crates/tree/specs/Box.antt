-- A BOX OF WHOLE TICKS AND ITS HALVES: document 01's "The walk (added)", its words in quotes. Coordinates are signed, in ticks. Definitions
-- only; assumes nothing.
use Rattle.std.specs.Prelude.{Bool, cond, ◌&&◌, List, [], ◌∷◌, ℕ, ◌+◌, ◌-◌, ◌*◌, ◌/◌, eqb, leb, ℤ, pos, negsuc, nat_abs, ◌+ℤ◌, ◌-ℤ◌, get_or, ◌≤ℤ◌, ◌<ℤ◌}
use Rattle.std.specs.Int.Signed.{le_z}
use Rattle.tree.specs.declared.Axis.{Axis}
use Rattle.tree.specs.declared.Axis.TheVariants.{X, Y, Z}
use Rattle.tree.specs.declared.Half.{Half}
use Rattle.tree.specs.declared.Half.TheVariants.{Lower, Upper}
use Rattle.tree.specs.declared.Side.{Side}
use Rattle.tree.specs.declared.ShiftedBox.{ShiftedBox}

-- three lows and three highs
pub record Box : Type 0 where
  pub lx : ℤ
  pub ly : ℤ
  pub lz : ℤ
  pub hx : ℤ
  pub hy : ℤ
  pub hz : ℤ

-- from three lows and three highs, as a caller passes them
abbrev pub box_from : List ℤ → List ℤ → Box
box_from lo hi = record {
  lx = get_or lo 0 (pos 0);
  ly = get_or lo 1 (pos 0);
  lz = get_or lo 2 (pos 0);
  hx = get_or hi 0 (pos 0);
  hy = get_or hi 1 (pos 0);
  hz = get_or hi 2 (pos 0);
}

abbrev pub low : Axis → Box → ℤ
low X b = b.lx
low Y b = b.ly
low Z b = b.lz

abbrev pub high : Axis → Box → ℤ
high X b = b.hx
high Y b = b.hy
high Z b = b.hz

abbrev pub lows : Box → List ℤ
lows b = b.lx ∷ b.ly ∷ b.lz ∷ []

abbrev pub highs : Box → List ℤ
highs b = b.hx ∷ b.hy ∷ b.hz ∷ []

-- how far a box reaches along an axis; its highs are above its lows
abbrev pub span : Axis → Box → ℕ
span a b = nat_abs (high a b -ℤ low a b)

-- what every box of the tree is: spans of at least 1, and ends within "−2^20 to 2^20"
pub record Good (b : Box) : Type 0 where
  pub spans : (a : Axis) → low a b <ℤ high a b
  pub least : (a : Axis) → negsuc 1048575 ≤ℤ low a b
  pub most : (a : Axis) → high a b ≤ℤ pos 1048576

-- ---- the halving: "halve the longest span, .. at low + span div 2"
-- where spans tie, the lowest axis
unfoldable pub longest : Box → Axis
longest b =
    cond (leb (span Y b) (span X b))
    (cond (leb (span Z b) (span X b)) X Z)
    (cond (leb (span Z b) (span Y b)) Y Z)

-- document 02's L6, "Where spans tie": the axis a "if it is among them, otherwise the lowest"
unfoldable pub cut : Axis → Box → Axis
cut a b = cond (eqb (span a b) (span (longest b) b)) a (longest b)

abbrev pub middle : Axis → Box → ℤ
middle a b = low a b +ℤ pos (span a b / 2)

unfoldable pub lower : Axis → Box → Box
lower X b = record { lx = b.lx; ly = b.ly; lz = b.lz; hx = middle X b; hy = b.hy; hz = b.hz }
lower Y b = record { lx = b.lx; ly = b.ly; lz = b.lz; hx = b.hx; hy = middle Y b; hz = b.hz }
lower Z b = record { lx = b.lx; ly = b.ly; lz = b.lz; hx = b.hx; hy = b.hy; hz = middle Z b }

unfoldable pub upper : Axis → Box → Box
upper X b = record { lx = middle X b; ly = b.ly; lz = b.lz; hx = b.hx; hy = b.hy; hz = b.hz }
upper Y b = record { lx = b.lx; ly = middle Y b; lz = b.lz; hx = b.hx; hy = b.hy; hz = b.hz }
upper Z b = record { lx = b.lx; ly = b.ly; lz = middle Z b; hx = b.hx; hy = b.hy; hz = b.hz }

-- either of them
abbrev pub half_of : Half → Axis → Box → Box
half_of Lower a b = lower a b
half_of Upper a b = upper a b

-- "one tick cube (all spans 1)"
unfoldable pub one_cube : Box → Bool
one_cube b = eqb (span X b) 1 && eqb (span Y b) 1 && eqb (span Z b) 1

-- the number of tick cubes in a box
unfoldable pub volume : Box → ℕ
volume b = span X b * span Y b * span Z b

-- the number of tick squares in a layer that it crosses
abbrev pub area : Box → ℕ
area b = span X b * span Y b

-- ---- "A tick cube has whole ticks as corners and edges of one tick; it is in a cell when it lies between the cell's lows and highs on each
-- axis." The cube with the low corner x, y, z
abbrev pub lies_between : ℤ → ℤ → ℤ → Bool
lies_between x l h = le_z l x && le_z (x +ℤ pos 1) h

unfoldable pub holds_cube : ℤ → ℤ → ℤ → Box → Bool
holds_cube x y z b = lies_between x b.lx b.hx && lies_between y b.ly b.hy && lies_between z b.lz b.hz

-- how many of the boxes a cube is in
unfoldable pub holders : ℤ → ℤ → ℤ → List Box → ℕ
holders x y z [] = 0
holders x y z (b ∷ bs) = cond (holds_cube x y z b) 1 0 + holders x y z bs

-- ---- a box's tick squares in the layer that lies between z and z + 1
unfoldable pub area_at : ℤ → Box → ℕ
area_at z b = cond (lies_between z b.lz b.hz) (area b) 0

-- ---- the code keeps a coordinate x as the whole number x + 2^20, from 0 to 2^21
abbrev pub unshifted : ℕ → ℤ
unshifted u = pos u -ℤ pos 1048576

-- the box that the code's box stands for
unfoldable pub box_of : ShiftedBox → Box
box_of b = record {
  lx = unshifted b.x.low;
  ly = unshifted b.y.low;
  lz = unshifted b.z.low;
  hx = unshifted b.x.high;
  hy = unshifted b.y.high;
  hz = unshifted b.z.high;
}

-- the halves of a side
abbrev pub half_side : Half → Side → Side
half_side Lower s = record { low = s.low; high = s.low + (s.high - s.low) / 2 }
half_side Upper s = record { low = s.low + (s.high - s.low) / 2; high = s.high }
