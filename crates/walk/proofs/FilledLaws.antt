-- What the writer's answer tells, and how it is told: the table has a slot for every cell, or it has not. Assumes nothing.
use mathlib.Core.Path.{◌≡◌, refl, sym, ◌∙◌}
use mathlib.Core.Bool.{Bool, true, false, cond}
use Prim.Native.Nat.{ℕ, ◌+◌, ◌≤◌, ◌<◌}
use native.Mathlib.Omega.{arith}
use lib.Dec.{leb}
use Rattle.std.specs.Prelude.{Option, Some, None}
use borrow.Author.Tests.{le-leb, lt-leb, leb-true, leb-false}
use Rattle.gyroid.specs.declared.Gyroid.{Gyroid}
use Rattle.tree.specs.declared.Axis.{Axis}
use Rattle.tree.specs.Box.{Box}
use Rattle.tree.specs.Tree.{leaves}
use Rattle.walk.specs.declared.Counted.{Counted}
use Rattle.walk.specs.FunctionsInUse.{settled}
use Rattle.walk.specs.Counted.{counted_of, filled_of}

module _ (g : Gyroid) (axis : Box → Axis) (d : ℕ) (b : Box) (fresh slots : ℕ) where
  -- the slot behind the last cell's
  abbrev end : ℕ
  end = fresh + leaves (settled g) axis d b

  pub record HasRoom (c : Counted) : Type 0 where
    pub fits : fresh + leaves (settled g) axis d b ≤ slots + 1
    pub counted : c ≡ counted_of g axis d b

  pub is_done : fresh + leaves (settled g) axis d b ≤ slots + 1 → {c : Counted} → c ≡ counted_of g axis d b → Some c ≡ filled_of g axis d b fresh slots
  unfolding filled_of
  is_done h e = rw (le-leb end (slots + 1) h, e)

  pub is_full : slots + 1 < fresh + leaves (settled g) axis d b → None ≡ filled_of g axis d b fresh slots
  unfolding filled_of
  is_full h = rw (lt-leb end (slots + 1) h)

  done_by : (t : Bool) (c : Counted) → leb end (slots + 1) ≡ t → cond t (Some (counted_of g axis d b)) None ≡ Some c → HasRoom c
  done_by true c p q = record { fits = leb-true _ _ p; counted = cc }
  done_by false c p q = let z : ◌≡◌ {A = ℕ} 0 1 = cc in absurd (omega arith)

  full_by : (t : Bool) → leb end (slots + 1) ≡ t → cond t (Some (counted_of g axis d b)) None ≡ None → slots + 1 < fresh + leaves (settled g) axis d b
  full_by true p q = let z : ◌≡◌ {A = ℕ} 0 1 = cc in absurd (omega arith)
  full_by false p q = leb-false _ _ p

  -- of an answer r that the code has looked at
  module _ {r : Option Counted} (answer : r ≡ filled_of g axis d b fresh slots) where
    pub done_tells : {c : Counted} → r ≡ Some c → HasRoom c
    unfolding filled_of
    done_tells q = done_by _ _ refl (sym answer ∙ q)

    pub full_tells : r ≡ None → slots + 1 < fresh + leaves (settled g) axis d b
    unfolding filled_of
    full_tells q = full_by _ refl (sym answer ∙ q)
