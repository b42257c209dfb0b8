-- DEMAND 3 UNDER EITHER ARITHMETIC AND EITHER TIE RULE, from what it supposes: "A cell marked under either arithmetic has the sign of all its admitted
-- residuals" (document 02, L2), and the rest of the demand with it. Under `Wide` the bytes are those of a table that was made before document 02's L2; its
-- marks stay true. Assumes nothing.
use mathlib.Core.Path.{◌≡◌, refl}
use mathlib.Core.List.{List}
use Prim.Native.Nat.{ℕ}
use lib.IntN.{ℤ, nat_abs}
use lib.ListN.{length}
use borrow.Author.Tests.{eq-eqb}
use Rattle.interval.specs.Interval.{Arithmetic}
use Rattle.gyroid.specs.declared.Description.{Description}
use Rattle.gyroid.specs.Refusals.{refusal}
use Rattle.gyroid.specs.Leaf.{leaf}
use Rattle.tree.specs.Box.{box_from}
use Rattle.walk.specs.declared.TieRule.{TieRule}
use Rattle.walk.specs.Walk.{cut_of, entry_refusal, room_table, walk_table}
use Rattle.walk.specs.Demand.{Supposed, Demand}
use Rattle.walk.proofs.CallLaws.{entered}
use Rattle.walk.proofs.DemandLaws.{demand}
use Rattle.walk.proofs.SupposedLaws.{entry_none, room_none}

module _ (ar : Arithmetic) (d : Description) (lo hi : List ℤ) (D : ℤ) (rule : TieRule) (t : List ℕ) (s : Supposed ar d lo hi D rule (length t)) where
  -- past the refusals before 13 the table is what the tree leaves
  ran : walk_table ar d lo hi D rule t ≡ room_table ar (leaf ar d) (cut_of rule d) (nat_abs D) (box_from lo hi) (length t)
  unfolding walk_table
  ran = rw (eq-eqb (entry_refusal (refusal d) lo hi D) 0 (entry_none ar d lo hi D rule (length t) s)) refl

  pub walk_demand : Demand ar d (box_from lo hi) (nat_abs D) rule (walk_table ar d lo hi D rule t)
  walk_demand =
      let e = entered (refusal d) lo hi D (entry_none ar d lo hi D rule (length t) s) in
      demand ar d (record { none = e.described }) (nat_abs D) rule e.depth_most (box_from lo hi) e.good (length t)
      (room_none ar d lo hi D rule (length t) s) ran
