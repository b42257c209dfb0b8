-- Every tick cube of a box is in exactly one of its cells, and no other tick cube is in any. Assumes nothing.
use mathlib.Core.Path.{◌≡◌, refl, sym, ◌∙◌, subst}
use mathlib.Core.Bool.{Bool, true, false, cond, ◌&&◌, and-true, and-false}
use mathlib.Core.List.{List, [], ◌∷◌, ◌++◌}
use mathlib.Core.Logic.{⊎_elim}
use Prim.Native.Nat.{ℕ, ◌+◌}
use native.Mathlib.Nat.{add-zero}
use native.Mathlib.Omega.{arith}
use lib.Dec.{T}
use lib.IntN.{ℤ, pos, ◌+ℤ◌}
use lib.Signed.{le_z, le_z_yes, ◌≤ℤ◌, ◌<ℤ◌}
use Rattle.exact.proofs.IntegerOrder.{le_or_lt, <ℤ_le, sum_parts, zarith}
use Rattle.tree.specs.declared.Axis.{Axis}
use Rattle.tree.specs.declared.Axis.TheVariants.{X, Y, Z}
use Rattle.tree.specs.Box.{Box, Good, low, high, middle, lower, upper, lies_between, holds_cube, holders}
use Rattle.tree.specs.Tree.{Cell, cells, Fair, cell_boxes}
use Rattle.tree.proofs.Spans.{middle_least, middle_below}
use Rattle.tree.proofs.TreeInduction.{tree_ind}

-- what a test says
test_true : (a b : ℤ) → le_z a b ≡ true → a ≤ℤ b
test_true a b e = le_z_yes (subst T (sym e) tt)

test_false : (a b : ℤ) → le_z a b ≡ false → b <ℤ a
test_false a b e = ⊎_elim (λ h. absurd (subst T e h.le)) (λ h. h) (le_or_lt a b)

-- 1 where a test holds, and 0 where it does not
abbrev pub one : Bool → ℕ
one t = cond t 1 0

-- ---- on one axis: between two ends is on one side of the middle, and not on both
lies_between_halves : (x l m h : ℤ) → l ≤ℤ m → m ≤ℤ h → one (lies_between x l h) ≡ one (lies_between x l m) + one (lies_between x m h)
lies_between_halves x l m h p q = by_tests (le_z l x) (le_z m x) (le_z (x +ℤ pos 1) m) (le_z (x +ℤ pos 1) h) refl refl refl refl
  where
    by_tests : (s t u v : Bool) → le_z l x ≡ s → le_z m x ≡ t → le_z (x +ℤ pos 1) m ≡ u → le_z (x +ℤ pos 1) h ≡ v → one (s && v) ≡ one (s && u) + one (t && v)
    by_tests true true true v a b c d = let e = test_true m x b in let f = test_true (x +ℤ pos 1) m c in absurd (omega (zarith, sum_parts x (pos 1)))
    by_tests true true false true a b c d = refl
    by_tests true true false false a b c d = refl
    by_tests true false true true a b c d = refl
    by_tests true false true false a b c d = let e = test_true (x +ℤ pos 1) m c in let f = test_false (x +ℤ pos 1) h d in absurd (omega zarith)
    by_tests true false false v a b c d = let e = test_false m x b in let f = test_false (x +ℤ pos 1) m c in absurd (omega (zarith, sum_parts x (pos 1)))
    by_tests false true u v a b c d = let e = test_false l x a in let f = test_true m x b in absurd (omega zarith)
    by_tests false false u v a b c d = refl

-- ---- on three axes: what is split on one is split with the tests on the others
split_left : (s t u q : Bool) → one s ≡ one t + one u → one (s && q) ≡ one (t && q) + one (u && q)
split_left s t u true e = rw (and-true s, and-true t, and-true u) e
split_left s t u false e = rw (and-false s, and-false t, and-false u)

split_right : (q s t u : Bool) → one s ≡ one t + one u → one (q && s) ≡ one (q && t) + one (q && u)
split_right true s t u e = e
split_right false s t u e = refl

-- along an axis: between the ends, and on either side of the middle
abbrev pub along : ℤ → Axis → Box → Bool
along c a b = lies_between c (low a b) (high a b)

abbrev pub below : ℤ → Axis → Box → Bool
below c a b = lies_between c (low a b) (middle a b)

abbrev pub above : ℤ → Axis → Box → Bool
above c a b = lies_between c (middle a b) (high a b)

pub along_halves : (c : ℤ) (a : Axis) (b : Box) → Good b → one (along c a b) ≡ one (below c a b) + one (above c a b)
along_halves c a b g =
    lies_between_halves c (low a b) (middle a b) (high a b) (middle_least (low a b) (high a b) (g.spans a))
    (<ℤ_le (middle_below (low a b) (high a b) (g.spans a)))

pub holds_halves : (x y z : ℤ) (a : Axis) (b : Box) → Good b
    → one (holds_cube x y z b) ≡ one (holds_cube x y z (lower a b)) + one (holds_cube x y z (upper a b))
unfolding holds_cube lower upper
holds_halves x y z X b g =
    split_left (along x X b && along y Y b) (below x X b && along y Y b) (above x X b && along y Y b) (along z Z b)
    (split_left (along x X b) (below x X b) (above x X b) (along y Y b) (along_halves x X b g))
holds_halves x y z Y b g =
    split_left (along x X b && along y Y b) (along x X b && below y Y b) (along x X b && above y Y b) (along z Z b)
    (split_right (along x X b) (along y Y b) (below y Y b) (above y Y b) (along_halves y Y b g))
holds_halves x y z Z b g = split_right (along x X b && along y Y b) (along z Z b) (below z Z b) (above z Z b) (along_halves z Z b g)

-- ---- the cells
cell_boxes_append : (x y z : ℤ) (cs ds : List Cell) → holders x y z (cell_boxes (cs ++ ds)) ≡ holders x y z (cell_boxes cs) + holders x y z (cell_boxes ds)
unfolding holders cell_boxes
cell_boxes_append x y z [] ds = omega arith
cell_boxes_append x y z (c ∷ cs) ds = omega (arith, cell_boxes_append x y z cs ds)

one_cell : (x y z : ℤ) (c : Cell) → holders x y z (cell_boxes (c ∷ [])) ≡ one (holds_cube x y z c.box)
unfolding holders cell_boxes
one_cell x y z c = add-zero (one (holds_cube x y z c.box))

-- ---- the boxes of a list of cells, one by one
pub cell_boxes_none : cell_boxes [] ≡ []
unfolding cell_boxes
cell_boxes_none = refl

pub cell_boxes_more : (c : Cell) (cs : List Cell) → cell_boxes (c ∷ cs) ≡ c.box ∷ cell_boxes cs
unfolding cell_boxes
cell_boxes_more c cs = refl

pub cover : (settled : Box → Bool) (axis : Box → Axis) → Fair axis → (x y z : ℤ) (d k : ℕ) (b : Box) → Good b
    → holders x y z (cell_boxes (cells settled axis d k b)) ≡ cond (holds_cube x y z b) 1 0
cover settled axis fair x y z =
    tree_ind settled axis fair (λ d k b cs. holders x y z (cell_boxes cs) ≡ one (holds_cube x y z b))
    (λ k b g. one_cell x y z (record { box = b; depth = k })) (λ d k b g e. one_cell x y z (record { box = b; depth = k }))
    (λ d k b cs ds g e p q. cell_boxes_append x y z cs ds ∙ (λ i. p i + q i) ∙ sym (holds_halves x y z (axis b) b g))
