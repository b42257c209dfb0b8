-- What the code adds of a cell is what the definition counts of it: the layers below its low are not raised, those below its high are. Assumes nothing.
use mathlib.Core.Path.{◌≡◌, refl, sym, ap, ◌∙◌, subst⁻¹}
use mathlib.Core.Bool.{Bool, true, false, cond, ◌&&◌}
use Prim.Native.Nat.{ℕ, suc, ◌+◌, ◌-◌, ◌≤◌, ◌<◌}
use native.Mathlib.Omega.{arith}
use lib.Dec.{eqb, leb, ltb}
use lib.IntN.{ℤ, pos, ◌+ℤ◌}
use lib.Signed.{le_z, le_z_yes, ◌≤ℤ◌}
use borrow.Author.Tests.{leb-true, ltb-true, le-leb, lt-ltb}
use Rattle.exact.proofs.IntegerOrder.{zarith, sum_parts}
use Rattle.limits.proofs.TestLaws.{holds, is_true, same_test}
use Rattle.tree.specs.declared.ShiftedBox.{ShiftedBox}
use Rattle.tree.specs.Box.{Box, Good, area, lies_between, area_at, unshifted, box_of}
use Rattle.tree.proofs.Coordinates.{coordinates}
use Rattle.tree.proofs.ShiftedLaws.{unshifted_parts, good_shifted}
use Rattle.tree.proofs.AreaLaws.{area_at_is}
use Rattle.table.specs.Table.{Record}
use Rattle.sound.proofs.CellLaws.{IsSoundCell}
use Rattle.layers.specs.Added.{layers_below}
use Rattle.layers.proofs.AddedLaws.{part}

-- ---- the layers that a cell crosses
pub below_most : (z low n : ℕ) → layers_below z low n ≤ n
below_most z low n = omega arith

pub reach : (l h low n : ℕ) → layers_below l low n + (layers_below h low n - layers_below l low n) ≤ n
reach l h low n = least (layers_below l low n) (layers_below h low n) (below_most l low n) (below_most h low n)
  where
    least : (x y : ℕ) → x ≤ n → y ≤ n → x + (y - x) ≤ n
    least x y p q = omega arith

module _ (low n i l h : ℕ) (inside : i < n) (up : l < h) where
  abbrev z : ℤ
  z = unshifted (low + i)

  from_low : leb (layers_below l low n) i ≡ le_z (unshifted l) z
  from_low = same_test (leb (layers_below l low n) i) (le_z (unshifted l) z) above below
    where
      above : leb (layers_below l low n) i ≡ true → le_z (unshifted l) z ≡ true
      above e =
          let k = leb-true (layers_below l low n) i e in
          let h : unshifted l ≤ℤ z = omega (zarith, unshifted_parts l, unshifted_parts (low + i)) in
          is_true (le_z (unshifted l) z) h.le

      below : le_z (unshifted l) z ≡ true → leb (layers_below l low n) i ≡ true
      below e =
          let k : unshifted l ≤ℤ z = le_z_yes (holds e) in
          le-leb (layers_below l low n) i (omega (zarith, unshifted_parts l, unshifted_parts (low + i)))

  end_is : layers_below l low n + (layers_below h low n - layers_below l low n) ≡ layers_below h low n
  end_is = joined (layers_below l low n) (layers_below h low n) (more (l - low) (h - low) (omega arith))
    where
      more : (x y : ℕ) → x ≤ y → n - (n - x) ≤ n - (n - y)
      more x y p = omega arith

      joined : (x y : ℕ) → x ≤ y → x + (y - x) ≡ y
      joined x y p = omega arith

  to_high : ltb i (layers_below l low n + (layers_below h low n - layers_below l low n)) ≡ le_z (z +ℤ pos 1) (unshifted h)
  to_high = ap (ltb i) end_is ∙ same_test (ltb i (layers_below h low n)) (le_z (z +ℤ pos 1) (unshifted h)) below above
    where
      below : ltb i (layers_below h low n) ≡ true → le_z (z +ℤ pos 1) (unshifted h) ≡ true
      below e =
          let k = ltb-true i (layers_below h low n) e in
          let q : (z +ℤ pos 1) ≤ℤ unshifted h = omega (zarith, unshifted_parts h, unshifted_parts (low + i), sum_parts z (pos 1)) in
          is_true (le_z (z +ℤ pos 1) (unshifted h)) q.le

      above : le_z (z +ℤ pos 1) (unshifted h) ≡ true → ltb i (layers_below h low n) ≡ true
      above e =
          let k : (z +ℤ pos 1) ≤ℤ unshifted h = le_z_yes (holds e) in
          lt-ltb i (layers_below h low n) (omega (zarith, unshifted_parts h, unshifted_parts (low + i), sum_parts z (pos 1)))

  pub crossed : (leb (layers_below l low n) i && ltb i (layers_below l low n + (layers_below h low n - layers_below l low n)))
      ≡ lies_between z (unshifted l) (unshifted h)
  crossed = λ t. from_low t && to_high t

-- the state's column, in the layers that are crossed
tests : (c e : Bool) (v : ℕ) → cond (c && e) v 0 ≡ cond e (cond c v 0) 0
tests true true v = refl
tests true false v = refl
tests false true v = refl
tests false false v = refl

pub one_cell : (low n : ℕ) (m : Record) (b : ShiftedBox) → IsSoundCell m → box_of b ≡ m.box → (k s : ℕ) → k < n
    → part (layers_below b.z.high low n - layers_below b.z.low low n) (layers_below b.z.low low n) (m.state - 1) (area m.box) k s
    ≡ cond (eqb s m.state) (area_at (unshifted (low + k)) m.box) 0
one_cell low n m b sound is k s h =
    let z : ℤ = unshifted (low + k) in
    let up = (good_shifted b (subst⁻¹ Good is sound.good)).below_z in
    let there = sym (coordinates b) ∙ is in
    let column : suc (m.state - 1) ≡ m.state = omega (arith, sound.least) in
    (λ t. cond (crossed low n k b.z.low b.z.high h up t && eqb s (column t)) (area m.box) 0)
    ∙ ap (λ (c : Box). cond (lies_between z c.lz c.hz && eqb s m.state) (area m.box) 0) there
    ∙ tests (lies_between z m.box.lz m.box.hz) (eqb s m.state) (area m.box)
    ∙ ap (λ (a : ℕ). cond (eqb s m.state) a 0) (sym (area_at_is z m.box))
