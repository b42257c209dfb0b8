-- What the table of an accepted walk tells, and how much room each part of it needs: for layers that read a table by the walk's definition alone.
-- Assumes nothing.
use mathlib.Core.Path.{◌≡◌, subst⁻¹}
use mathlib.Core.List.{List}
use Prim.Native.Nat.{ℕ, ◌+◌, ◌/◌, ◌≤◌}
use lib.IntN.{ℤ, nat_abs}
use lib.ListN.{length}
use borrow.Author.Tests.{eq-eqb}
use Rattle.interval.specs.Interval.{Arithmetic}
use Rattle.limits.proofs.RefusalLaws.{neither}
use Rattle.gyroid.specs.declared.Description.{Description}
use Rattle.gyroid.specs.Refusals.{refusal}
use Rattle.gyroid.specs.Fits.{Accepted}
use Rattle.gyroid.specs.Leaf.{leaf}
use Rattle.tree.specs.declared.Axis.{Axis}
use Rattle.tree.specs.Box.{Box, Good, box_from}
use Rattle.table.specs.declared.Head.{Head}
use Rattle.table.specs.Table.{Record}
use Rattle.table.specs.Bounds.{HeadFits}
use Rattle.table.specs.Told.{Told}
use Rattle.walk.specs.declared.TieRule.{TieRule}
use Rattle.walk.specs.Walk.{cut_of, state_at, cells_of, records_of, head_of, table_of}
use Rattle.walk.specs.Walk.{entry_refusal, room_refusal, room_table, walk_number, walk_table}
use Rattle.walk.specs.Demand.{Every}
use Rattle.walk.proofs.CallLaws.{entered}
use Rattle.walk.proofs.RecordLaws.{every}
use Rattle.walk.proofs.SoundLaws.{number_most}
use Rattle.walk.proofs.DemandLaws.{room_left, each, head_fits, read}

-- one of document 01's three states, and a box of the tree
pub record InTree (m : Record) : Type 0 where
  pub state : m.state ≤ 3
  pub good : Good m.box

-- of the bytes t, which have so many slots: what they tell, and its sizes
pub record Tells (slots : ℕ) (t : List ℕ) (h : Head) (ms : List Record) : Type 0 where
  pub told : Told t h ms
  pub fits : length ms + 1 ≤ slots
  pub head_fits : HeadFits h
  pub records : Every InTree ms

module _ (ar : Arithmetic) (d : Description) (lo hi : List ℤ) (D : ℤ) (rule : TieRule) (t : List ℕ) where
  abbrev b : Box
  b = box_from lo hi

  abbrev depth : ℕ
  depth = nat_abs D

  abbrev axis : Box → Axis
  axis = cut_of rule d

  abbrev ms : List Record
  ms = records_of ar (leaf ar d) (cells_of ar (leaf ar d) axis depth b)

  table_is : entry_refusal (refusal d) lo hi D ≡ 0 → room_refusal ar (leaf ar d) axis depth b (length t) ≡ 0
      → walk_table ar d lo hi D rule t ≡ table_of ar (leaf ar d) axis depth b (length t)
  unfolding walk_table room_table
  table_is e r = rw (eq-eqb _ 0 e, eq-eqb _ 0 r)

  pub tells : walk_number ar d lo hi D rule (length t) ≡ 0
      → Tells (length t / 32) (walk_table ar d lo hi D rule t) (head_of ar (leaf ar d) axis depth b) ms
  unfolding walk_number table_of
  tells none =
      let (e, r) = neither (entry_refusal (refusal d) lo hi D) (room_refusal ar (leaf ar d) axis depth b (length t)) none in
      let h = entered (refusal d) lo hi D e in
      let accepted : Accepted d = record { none = h.described } in
      record {
        told = subst⁻¹ (λ (u : List ℕ). Told u (head_of ar (leaf ar d) axis depth b) ms) (table_is e r)
            (read ar d accepted depth rule h.depth_most b h.good (length t));
        fits = room_left ar (leaf ar d) axis depth b (length t) r;
        head_fits = head_fits ar d accepted depth rule h.depth_most b h.good;
        records = every ar (leaf ar d) InTree _ (λ c m. record { state = number_most (state_at ar (leaf ar d) c.box); good = m.good })
            (cells_of ar (leaf ar d) axis depth b)
            (each ar d accepted depth rule h.depth_most b h.good);
      }
