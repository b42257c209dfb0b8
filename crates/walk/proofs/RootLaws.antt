-- THE WRITER AT THE ROOT of a call that passes the refusals before 13: what is asked of it, what it answers and what it leaves, by the call. Assumes
-- nothing.
use mathlib.Core.Path.{◌≡◌, ◌∙◌, subst, subst⁻¹}
use mathlib.Core.Bool.{true}
use mathlib.Core.List.{List}
use Prim.Native.Nat.{ℕ, ◌+◌, ◌≤◌}
use native.Mathlib.Omega.{arith}
use Rattle.std.specs.Prelude.{Option}
use Rattle.gyroid.specs.declared.Gyroid.{Gyroid}
use Rattle.tree.specs.declared.ShiftedBox.{ShiftedBox}
use Rattle.tree.specs.Box.{box_of, cut}
use Rattle.tree.specs.Tree.{leaves}
use Rattle.tree.proofs.CountLaws.{leaves_small}
use Rattle.walk.specs.declared.Counted.{Counted}
use Rattle.walk.specs.declared.entered.Entered.{Entered}
use Rattle.walk.specs.declared.fill.Writing.{Writing}
use Rattle.walk.specs.FunctionsInUse.{settled}
use Rattle.walk.specs.Counted.{counted_of, filled_of, Written}

-- what is counted from the root on
pub root_counted : (e : Entered) {g : Gyroid} {b : ShiftedBox} {n : Counted} → g ≡ e.leaf → b ≡ e.b → n ≡ counted_of g (cut e.ties) e.depth (box_of b)
    → n ≡ counted_of e.leaf (cut e.ties) e.depth (box_of e.b)
root_counted e leaf box h = h ∙ (λ i. counted_of (leaf i) (cut e.ties) e.depth (box_of (box i)))

-- how the root's cells are written
abbrev pub root_of : Entered → Writing
root_of e = record { slot = 1; fresh = 2; last = true; after = 0; limit = e.depth; ties = e.ties }

module _ (e : Entered) {g : Gyroid} {b : ShiftedBox} {w : Writing} (leaf : g ≡ e.leaf) (box : b ≡ e.b) (writing : w ≡ root_of e) where
  abbrev Few : Gyroid → Writing → ShiftedBox → Type 0
  Few k v c = v.fresh + leaves (settled k) (cut v.ties) e.depth (box_of c) ≤ 8589934592

  pub root_few : w.fresh + leaves (settled g) (cut w.ties) e.depth (box_of b) ≤ 8589934592
  root_few =
      let few : Few e.leaf (root_of e) e.b = omega (arith, leaves_small (settled e.leaf) (cut e.ties) e.depth (box_of e.b) e.shallow) in
      subst⁻¹ (λ (k : Gyroid). Few k w b) leaf (subst⁻¹ (λ (v : Writing). Few e.leaf v b) writing (subst⁻¹ (Few e.leaf (root_of e)) box few))

  pub root_filled : {r : Option Counted} (slots : ℕ) → r ≡ filled_of g (cut w.ties) e.depth (box_of b) w.fresh slots
      → r ≡ filled_of e.leaf (cut e.ties) e.depth (box_of e.b) 2 slots
  root_filled slots h = h ∙ (λ i. filled_of (leaf i) (cut (writing i).ties) e.depth (box_of (box i)) (writing i).fresh slots)

  pub root_written : (t u : List ℕ) → Written g (cut w.ties) t e.depth (box_of b) w.slot w.fresh w.last w.after w.limit u
      → Written e.leaf (cut e.ties) t e.depth (box_of e.b) 1 2 true 0 e.depth u
  root_written t u h =
      subst (λ (c : ShiftedBox). Written e.leaf (cut e.ties) t e.depth (box_of c) 1 2 true 0 e.depth u) box
      (subst (λ (v : Writing). Written e.leaf (cut v.ties) t e.depth (box_of b) v.slot v.fresh v.last v.after v.limit u) writing
      (subst (λ (k : Gyroid). Written k (cut w.ties) t e.depth (box_of b) w.slot w.fresh w.last w.after w.limit u) leaf h))
