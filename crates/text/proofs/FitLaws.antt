-- The listing of a table that tells of at most 2047 short cells is a text of at most 131072 bytes. Assumes nothing.
use mathlib.Core.Path.{◌≡◌, refl, ap}
use mathlib.Core.Bool.{Bool, true, false}
use mathlib.Core.List.{List, [], ◌∷◌, ◌++◌}
use Prim.Native.Nat.{ℕ, ◌*◌, ◌≤◌, ◌<◌}
use native.Mathlib.Omega.{arith}
use lib.IntN.{ℤ, pos, negsuc, nat_abs}
use lib.Signed.{lt_z, ◌≤ℤ◌, ◌<ℤ◌}
use lib.ListN.{length, length-append}
use Rattle.exact.specs.Within.{Within}
use Rattle.exact.proofs.IntegerOrder.{zarith}
use Rattle.exact.proofs.Size.{within_of_bounds}
use Rattle.tree.specs.Box.{Good}
use Rattle.tree.specs.declared.Axis.TheVariants.{X, Y, Z}
use Rattle.table.specs.declared.Head.{Head}
use Rattle.table.specs.Table.{Record}
use Rattle.table.specs.Bounds.{HeadFits}
use Rattle.table.specs.Told.{Told}
use Rattle.text.specs.Decimal.{decimal, signed_decimal}
use Rattle.text.specs.Listing.{head_line, corner_text, cell_line, cell_lines, listing}
use Rattle.text.specs.Bounds.{Short, AllShort}
use Rattle.text.proofs.DecimalLaws.{few_digits, signed_above, length_signed_below}
use Rattle.text.proofs.ListingLaws.{length_head, length_corner, length_line}

-- a coordinate: a minus or none, and seven digits at most
coordinate : (z : ℤ) → Within 1048576 z → length (signed_decimal z) ≤ 8
coordinate z w = go (lt_z z (pos 0)) refl
  where
    digits : length (decimal (nat_abs z)) ≤ 7
    digits = few_digits 6 (nat_abs z) (omega (arith, w.abs))

    go : (b : Bool) → lt_z z (pos 0) ≡ b → length (signed_decimal z) ≤ 8
    go true e = omega (arith, digits, length_signed_below z e)
    go false e = omega (arith, digits, ap length (signed_above z e))

corner : (x y z : ℤ) → Within 1048576 x → Within 1048576 y → Within 1048576 z → length (corner_text x y z) ≤ 27
corner x y z hx hy hz = omega (arith, length_corner x y z, coordinate x hx, coordinate y hy, coordinate z hz)

line : (m : Record) → Short m → length (cell_line m) ≤ 56
line m s =
    omega (
      arith,
      length_line m,
      few_digits 0 m.state s.state,
      corner m.box.lx m.box.ly m.box.lz s.lx s.ly s.lz,
      corner m.box.hx m.box.hy m.box.hz s.hx s.hy s.hz,
    )

lines : (ms : List Record) → AllShort ms → length (cell_lines ms) ≤ 56 * length ms
unfolding cell_lines
lines [] s = omega arith
lines (m ∷ ms) s = omega (arith, length-append (cell_line m) (cell_lines ms), line m s.0, lines ms s.1)

head : (h : Head) → HeadFits h → length (head_line h) ≤ 64
head h f =
    omega (
      arith,
      length_head h,
      few_digits 9 h.cells (omega (arith, f.cells)),
      few_digits 9 h.evaluated (omega (arith, f.evaluated)),
      few_digits 19 h.solid (omega (arith, f.solid)),
      few_digits 19 h.«open» (omega (arith, f.«open»)),
    )

-- a cell of the tree is short
low_within : {l h : ℤ} → l <ℤ h → negsuc 1048575 ≤ℤ l → h ≤ℤ pos 1048576 → Within 1048576 l
low_within {l} {h} p q r = within_of_bounds 1048576 q (omega zarith)

high_within : {l h : ℤ} → l <ℤ h → negsuc 1048575 ≤ℤ l → h ≤ℤ pos 1048576 → Within 1048576 h
high_within {l} {h} p q r = within_of_bounds 1048576 (omega zarith) r

pub good_short : (m : Record) → m.state < 10 → Good m.box → Short m
good_short m h g = record {
  state = h;
  lx = low_within (g.spans X) (g.least X) (g.most X);
  ly = low_within (g.spans Y) (g.least Y) (g.most Y);
  lz = low_within (g.spans Z) (g.least Z) (g.most Z);
  hx = high_within (g.spans X) (g.least X) (g.most X);
  hy = high_within (g.spans Y) (g.least Y) (g.most Y);
  hz = high_within (g.spans Z) (g.least Z) (g.most Z);
}

-- what is printed of a table is what the table tells
pub listing_told : (t : List ℕ) (h : Head) (ms : List Record) → Told t h ms → listing t ≡ head_line h ++ cell_lines ms
unfolding listing
listing_told t h ms r = λ i. head_line (r.head_is i) ++ cell_lines (r.records_are i)

pub listing_fits : (t : List ℕ) (h : Head) (ms : List Record) → Told t h ms → HeadFits h → length ms ≤ 2047 → AllShort ms → length (listing t) ≤ 131072
listing_fits t h ms r f n short =
    rw (listing_told t h ms r, length-append (head_line h) (cell_lines ms)) (omega (arith, head h f, lines ms short))
