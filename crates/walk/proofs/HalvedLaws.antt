-- A box that the step of the code halves: it may be halved, and its halves are boxes of the tree. Of a cell: it is one. Assumes nothing.
use mathlib.Core.Path.{◌≡◌, sym, subst⁻¹}
use Prim.Native.Nat.{ℕ}
use Rattle.gyroid.specs.declared.Gyroid.{Gyroid}
use Rattle.gyroid.specs.declared.State.{State}
use Rattle.tree.specs.declared.Axis.{Axis}
use Rattle.tree.specs.Box.{Box, Good, cut, lower, upper}
use Rattle.tree.specs.Tree.{leaves}
use Rattle.tree.proofs.CutLaws.{fair_cut}
use Rattle.tree.proofs.HalfLaws.{good_lower, good_upper}
use Rattle.walk.specs.declared.Step.{Step}
use Rattle.walk.specs.FunctionsInUse.{settled}
use Rattle.walk.specs.Step.{step_at}
use Rattle.walk.proofs.StepLaws.{AtCell, AtHalves, at_cell, at_halves}

module _ (g : Gyroid) (ties : Axis) (d : ℕ) (b : Box) where
  pub cell : {s : State} → Step.Cell s ≡ step_at g (cut ties) d b → AtCell g (cut ties) d b s
  cell e = at_cell g (cut ties) d b _ (sym e)

  pub one : {s : State} → Step.Cell s ≡ step_at g (cut ties) d b → leaves (settled g) (cut ties) d b ≡ 1
  one e = (cell e).tree.leaves1

  module _ {a : Axis} (good : Good b) (e : Step.Halves a ≡ step_at g (cut ties) d b) where
    pub halves : AtHalves g (cut ties) d b a
    halves = at_halves g (cut ties) (fair_cut ties) d b a good (sym e)

    pub lower_good : {l : Box} → l ≡ lower a b → Good l
    lower_good f = subst⁻¹ Good f (good_lower _ _ good halves.two)

    pub upper_good : {h : Box} → h ≡ upper a b → Good h
    upper_good f = subst⁻¹ Good f (good_upper _ _ good halves.two)
