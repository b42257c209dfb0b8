-- The printed lines, part by part, and their lengths. Assumes nothing.
use mathlib.Core.Path.{◌≡◌, refl, sym, ap, ◌∙◌}
use mathlib.Core.List.{List, [], ◌∷◌, ◌++◌}
use Prim.Native.Nat.{ℕ, ◌+◌, ◌-◌, ◌≤◌, ◌<◌}
use native.Mathlib.Omega.{arith}
use lib.IntN.{ℤ}
use lib.ListN.{length, length-append}
use Rattle.tree.specs.Box.{Box}
use Rattle.table.specs.declared.Head.{Head}
use Rattle.table.specs.Table.{Record}
use Rattle.table.specs.Read.{head_in, next_in, record_in, chain}
use Rattle.table.proofs.ReadLaws.{box_is, chain_end_lem, chain_step}
use Rattle.text.specs.Decimal.{decimal, signed_decimal}
use Rattle.text.specs.Listing.{spaced, refused_text, head_line, corner_text, cell_line, cell_lines, listing}
use Rattle.text.specs.Appended.{corner_in}

pub length_refused : (n : ℕ) → length (refused_text n) ≡ length (decimal n) + 9
unfolding refused_text
length_refused n = simp length-append (omega arith)

pub head_is : (h : Head)
    → head_line h ≡ decimal h.cells ++ spaced (decimal h.evaluated) ++ spaced (decimal h.solid) ++ spaced (decimal h.«open») ++ (10 ∷ [])
unfolding head_line
head_is h = refl

pub length_head : (h : Head)
    → length (head_line h)
    ≡ length (decimal h.cells) + length (decimal h.evaluated) + length (decimal h.solid) + length (decimal h.«open») + 4
length_head h = rw head_is (simp length-append (omega arith))

pub corner_is : (x y z : ℤ) → corner_text x y z ≡ spaced (signed_decimal x) ++ spaced (signed_decimal y) ++ spaced (signed_decimal z)
unfolding corner_text
corner_is x y z = refl

pub length_corner : (x y z : ℤ) → length (corner_text x y z) ≡ length (signed_decimal x) + length (signed_decimal y) + length (signed_decimal z) + 3
length_corner x y z = rw corner_is (simp length-append (omega arith))

pub length_line : (m : Record)
    → length (cell_line m)
    ≡ length (decimal m.state) + length (corner_text m.box.lx m.box.ly m.box.lz)
    + length (corner_text m.box.hx m.box.hy m.box.hz) + 1
unfolding cell_line
length_line m = simp length-append (omega arith)

-- ---- the line of the cell in a slot
module _ (t : List ℕ) (slot : ℕ) where
  pub cell_is : cell_line (record_in t slot) ≡ decimal (record_in t slot).state ++ corner_in t slot 0 ++ corner_in t slot 3 ++ (10 ∷ [])
  unfolding cell_line
  cell_is = ap (λ (b : Box). cell_line (record { state = (record_in t slot).state; depth = (record_in t slot).depth; box = b })) (box_is t slot)

  pub length_cell : length (cell_line (record_in t slot))
      ≡ length (decimal (record_in t slot).state) + length (corner_in t slot 0) + length (corner_in t slot 3) + 1
  length_cell = rw cell_is (simp length-append (omega arith))

-- ---- the lines of a chain
pub cells_end : (n : ℕ) (t : List ℕ) (slot : ℕ) → n ≤ 0 → cell_lines (chain n t slot) ≡ []
unfolding cell_lines
cells_end n t slot h = ap cell_lines (chain_end_lem n t slot h)

pub cells_step : (n : ℕ) (t : List ℕ) (slot : ℕ) {next : ℕ} → 0 < n → next ≡ next_in t slot
    → cell_lines (chain n t slot) ≡ cell_line (record_in t slot) ++ cell_lines (chain (n - 1) t next)
unfolding cell_lines
cells_step n t slot h e =
    ap cell_lines (chain_step n t slot h)
    ∙ ap (λ (s : ℕ). cell_line (record_in t slot) ++ cell_lines (chain (n - 1) t s)) (sym e)

-- ---- the whole, with slot 0 as it is read
module _ (t : List ℕ) {h : Head} (e : h ≡ head_in t) where
  pub listing_is : listing t ≡ head_line h ++ cell_lines (chain h.cells t h.first)
  unfolding listing
  listing_is = ap (λ (k : Head). head_line k ++ cell_lines (chain k.cells t k.first)) (sym e)
