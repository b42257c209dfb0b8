-- What the step of the code at a box tells of the box's tree. Assumes nothing.
use mathlib.Core.Path.{◌≡◌, refl, sym, ap, ◌∙◌, subst}
use mathlib.Core.Bool.{Bool, true, false, cond, ◌||◌}
use mathlib.Core.List.{◌++◌}
use Prim.Native.Nat.{ℕ, zero, suc, ◌+◌, ◌-◌, ◌≤◌, ◌<◌}
use native.Mathlib.Omega.{arith}
use lib.Dec.{eqb, eqb-suc-zero}
use Rattle.gyroid.specs.declared.Gyroid.{Gyroid}
use Rattle.gyroid.specs.declared.State.{State}
use Rattle.tree.specs.declared.Axis.{Axis}
use Rattle.tree.specs.Box.{Box, Good, span, one_cube, lower, upper}
use Rattle.tree.specs.Tree.{stops, cells, leaves, box_count, Fair}
use Rattle.tree.proofs.StepLaws.{IsCell, cell_deep, cell_stops, wide, halved}
use Rattle.walk.specs.declared.Step.{Step}
use Rattle.walk.specs.Walk.{is_settled}
use Rattle.walk.specs.FunctionsInUse.{state_at, settled}
use Rattle.walk.specs.Step.{step_at}

true_false : {A : Type 0} → true ≡ false → A
true_false e = let z : ◌≡◌ {A = ℕ} 0 1 = ap (λ (t : Bool). cond t 0 1) e in absurd (omega arith)

-- ---- the three tests of a step, in any order
tested : (u v w : Bool) → (u || v || w) ≡ true → v ≡ false → (u || w) ≡ true
tested true v w e f = refl
tested false true w e f = true_false f
tested false false w e f = e

untested : (u v w : Bool) → (u || v || w) ≡ false → (v ≡ false) × ((u || w) ≡ false)
untested true v w e = true_false e
untested false true w e = true_false e
untested false false w e = (refl, e)

module _ (g : Gyroid) (axis : Box → Axis) where
  abbrev ends : ℕ → Box → Bool
  ends d b = is_settled (state_at g b) || eqb d 0 || one_cube b

  -- ---- a cell
  pub record AtCell (d : ℕ) (b : Box) (s : State) : Type 0 where
    pub state : state_at g b ≡ s
    pub tree : IsCell (settled g) axis d b

  ended : (d : ℕ) (b : Box) → ends d b ≡ true → IsCell (settled g) axis d b
  ended zero b e = cell_deep (settled g) axis b
  ended (suc d) b e = cell_stops (settled g) axis (suc d) b (tested (is_settled (state_at g b)) (eqb (suc d) 0) (one_cube b) e (eqb-suc-zero d))

  cell_by : (t : Bool) (d : ℕ) (b : Box) (s : State) → ends d b ≡ t → cond t (Step.Cell (state_at g b)) (Step.Halves (axis b)) ≡ Step.Cell s
      → AtCell d b s
  cell_by true d b s e f = record { state = cc; tree = ended d b e }
  cell_by false d b s e f = let z : ◌≡◌ {A = ℕ} 0 1 = cc in absurd (omega arith)

  pub at_cell : (d : ℕ) (b : Box) (s : State) → step_at g axis d b ≡ Step.Cell s → AtCell d b s
  unfolding step_at
  at_cell d b s e = cell_by (ends d b) d b s refl e

  -- ---- a box that is halved on the axis a, its halves being l and h
  pub record AtHalves (d : ℕ) (b : Box) (a : Axis) : Type 0 where
    pub left : 0 < d
    pub two : 2 ≤ span a b
    pub leaves2 : {l h : Box} → l ≡ lower a b → h ≡ upper a b
        → leaves (settled g) axis d b ≡ leaves (settled g) axis (d - 1) l + leaves (settled g) axis (d - 1) h
    pub box_count2 : {l h : Box} → l ≡ lower a b → h ≡ upper a b
        → box_count (settled g) axis d b ≡ 1 + box_count (settled g) axis (d - 1) l + box_count (settled g) axis (d - 1) h
    pub cells2 : (k : ℕ) {l h : Box} → l ≡ lower a b → h ≡ upper a b
        → cells (settled g) axis d k b ≡ cells (settled g) axis (d - 1) (suc k) l ++ cells (settled g) axis (d - 1) (suc k) h

  positive : (d : ℕ) → eqb d 0 ≡ false → 0 < d
  positive zero e = true_false e
  positive (suc d) e = omega arith

  halves_of : Fair axis → (d : ℕ) (b : Box) → Good b → 0 < d → stops (settled g) axis b ≡ false → AtHalves d b (axis b)
  halves_of fair d b good p e =
      let h = halved (settled g) axis fair d b p e good in
      record {
        left = p;
        two = wide (settled g) axis fair b e good;
        leaves2 = λ u v. h.leaves2 ∙ (λ i. leaves (settled g) axis (d - 1) (sym u i) + leaves (settled g) axis (d - 1) (sym v i));
        box_count2 = λ u v. h.box_count2 ∙ (λ i. 1 + box_count (settled g) axis (d - 1) (sym u i) + box_count (settled g) axis (d - 1) (sym v i));
        cells2 = λ k u v. h.cells2 k ∙ (λ i. cells (settled g) axis (d - 1) (suc k) (sym u i) ++ cells (settled g) axis (d - 1) (suc k) (sym v i));
      }

  halves_by : Fair axis → (t : Bool) (d : ℕ) (b : Box) (a : Axis) → Good b → ends d b ≡ t
      → cond t (Step.Cell (state_at g b)) (Step.Halves (axis b)) ≡ Step.Halves a
      → AtHalves d b a
  halves_by fair true d b a good e f = let z : ◌≡◌ {A = ℕ} 0 1 = cc in absurd (omega arith)
  halves_by fair false d b a good e f =
      let same : axis b ≡ a = cc in
      let (p, q) = untested (is_settled (state_at g b)) (eqb d 0) (one_cube b) e in
      subst (AtHalves d b) same (halves_of fair d b good (positive d p) q)

  pub at_halves : Fair axis → (d : ℕ) (b : Box) (a : Axis) → Good b → step_at g axis d b ≡ Step.Halves a → AtHalves d b a
  unfolding step_at
  at_halves fair d b a good e = halves_by fair (ends d b) d b a good refl e
