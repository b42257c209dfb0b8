-- What is counted of a tree: of a cell, of two halves, and how much it is at most. Assumes nothing.
use mathlib.Core.Path.{◌≡◌, sym, ap, ap₂, ◌∙◌}
use mathlib.Core.Bool.{cond}
use Prim.Native.Nat.{ℕ, ◌+◌, ◌-◌, ◌≤◌}
use native.Mathlib.Omega.{arith}
use Rattle.gyroid.specs.declared.Gyroid.{Gyroid}
use Rattle.gyroid.specs.declared.State.{State}
use Rattle.tree.specs.declared.Axis.{Axis}
use Rattle.tree.specs.Box.{Box, Good, volume, lower, upper}
use Rattle.tree.specs.Tree.{cells, leaves, volume_of, Fair}
use Rattle.tree.proofs.CountLaws.{length_cells, leaves_small, box_count_small}
use Rattle.tree.proofs.VolumeLaws.{volume_small}
use Rattle.tree.proofs.SolidLaws.{solid_append, solid_cell, solid_le, solid_any}
use Rattle.walk.specs.declared.Counted.{Counted}
use Rattle.walk.specs.Walk.{is_inside}
use Rattle.walk.specs.FunctionsInUse.{settled, inside, evaluated_of, solid_of, head_of}
use Rattle.walk.specs.Counted.{counted_of, one_cell, joined_of, Adds, head_with}
use Rattle.walk.proofs.StepLaws.{AtCell, AtHalves}

module _ (g : Gyroid) (axis : Box → Axis) where
  -- ---- number by number
  module _ (d : ℕ) (b : Box) {c : Counted} (e : c ≡ counted_of g axis d b) where
    pub counted_cells : c.cells ≡ leaves (settled g) axis d b
    unfolding counted_of
    counted_cells = ap (λ (x : Counted). x.cells) e

    pub counted_evaluated : c.evaluated ≡ evaluated_of g axis d b
    unfolding counted_of
    counted_evaluated = ap (λ (x : Counted). x.evaluated) e

    pub counted_solid : c.solid ≡ solid_of g axis d b
    unfolding counted_of
    counted_solid = ap (λ (x : Counted). x.solid) e

    -- slot 0, and its open volume is no less than nothing
    pub counted_head : head_with c b ≡ head_of g axis d b
    counted_head = λ i. record {
      first = 1;
      cells = (counted_cells ∙ sym (length_cells (settled g) axis d 0 b)) i;
      evaluated = counted_evaluated i;
      solid = counted_solid i;
      «open» = volume b - counted_solid i;
    }

    pub counted_most : Fair axis → Good b → c.solid ≤ volume b
    counted_most fair good = omega (arith, counted_solid, solid_le (inside g) (settled g) axis fair d 0 b good)

  -- ---- of a cell
  pub counted_cell : (d : ℕ) (b : Box) (s : State) → AtCell g axis d b s → counted_of g axis d b ≡ one_cell s b
  unfolding counted_of
  counted_cell d b s at = λ i. record {
    cells = at.tree.leaves1 i;
    evaluated = at.tree.box_count1 i;
    solid = (solid_cell (inside g) (settled g) axis d 0 b at.tree ∙ ap (λ (r : State). cond (is_inside r) (volume b) 0) at.state) i;
  }

  -- ---- of a box whose halves are l and h
  module _ (d : ℕ) (b : Box) {l h : Box} (a : Axis) (at : AtHalves g axis d b a) (e : l ≡ lower a b) (f : h ≡ upper a b) where
    solid_two : solid_of g axis d b ≡ solid_of g axis (d - 1) l + solid_of g axis (d - 1) h
    solid_two =
        ap (volume_of (inside g)) (at.cells2 0 e f)
        ∙ solid_append (inside g) (cells (settled g) axis (d - 1) 1 l) (cells (settled g) axis (d - 1) 1 h)
        ∙ ap₂ ◌+◌ (solid_any (inside g) (settled g) axis (d - 1) 1 0 l) (solid_any (inside g) (settled g) axis (d - 1) 1 0 h)

    pub counted_halves : {x y : Counted} → x ≡ counted_of g axis (d - 1) l → y ≡ counted_of g axis (d - 1) h → joined_of x y ≡ counted_of g axis d b
    unfolding counted_of
    counted_halves p q = (λ i. joined_of (p i) (q i)) ∙ sym (λ i. record { cells = at.leaves2 e f i; evaluated = at.box_count2 e f i; solid = solid_two i })

    -- the sums keep their words
    pub counted_adds : {x y : Counted} → Fair axis → Good b → d ≤ 24 → x ≡ counted_of g axis (d - 1) l → y ≡ counted_of g axis (d - 1) h → Adds x y
    counted_adds fair good small p q =
        let most = solid_le (inside g) (settled g) axis fair d 0 b good in
        record {
          cells = omega (arith, counted_cells (d - 1) l p, counted_cells (d - 1) h q, at.leaves2 e f, leaves_small (settled g) axis d b small);
          evaluated = omega (
            arith,
            counted_evaluated (d - 1) l p,
            counted_evaluated (d - 1) h q,
            at.box_count2 e f,
            box_count_small (settled g) axis d b small,
          );
          solid = omega (arith, counted_solid (d - 1) l p, counted_solid (d - 1) h q, solid_two, most, volume_small b good);
        }
