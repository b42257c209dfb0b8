-- WHAT DEMAND 3 SUPPOSES is what the refusals of `walk` leave: under it the call returns 0, and where the call returns 0 it holds. Assumes nothing.
use mathlib.Core.Path.{◌≡◌, refl}
use mathlib.Core.Bool.{not, ◌&&◌}
use mathlib.Core.List.{List}
use Prim.Native.Nat.{ℕ, ◌+◌, ◌/◌, ◌≤◌}
use native.Mathlib.Omega.{arith}
use lib.Dec.{T, ltb, nltb→le}
use lib.IntN.{ℤ, pos, negsuc, nat_abs}
use lib.ListN.{length}
use lib.Signed.{◌≤ℤ◌, le_z, lt_z, non_neg}
use lib.Ieee.Bits.{is_true}
use lib.Ieee.Fits.{and_i}
use borrow.Author.Tests.{le-ltb}
use Rattle.interval.specs.Interval.{Arithmetic}
use Rattle.exact.proofs.IntegerOrder.{zarith}
use Rattle.limits.specs.Ticks.{at, ticks}
use Rattle.limits.specs.Refusals.{refused, ◌or_else◌}
use Rattle.limits.proofs.TickLaws.{both}
use Rattle.limits.proofs.RefusalLaws.{none_first, none_last, kept, neither}
use Rattle.gyroid.specs.declared.Description.{Description}
use Rattle.gyroid.specs.Refusals.{refusal}
use Rattle.gyroid.specs.Leaf.{leaf}
use Rattle.tree.specs.declared.Axis.TheVariants.{X, Y, Z}
use Rattle.tree.specs.Box.{box_from}
use Rattle.walk.specs.declared.TieRule.{TieRule}
use Rattle.walk.specs.Walk.{cut_of, cells_of, spans, depths, entry_refusal, room_refusal, walk_number}
use Rattle.walk.specs.Demand.{Supposed}
use Rattle.walk.proofs.CallLaws.{entered}

module _ (ar : Arithmetic) (d : Description) (lo hi : List ℤ) (D : ℤ) (rule : TieRule) (len : ℕ) where
  -- ---- no refusal before 13, nor 13
  module _ (s : Supposed ar d lo hi D rule len) where
    limits_pass : T (ticks lo && ticks hi)
    limits_pass = and_i (ticks lo) (ticks hi) s.lows s.highs

    spans_pass : T (spans lo hi)
    spans_pass =
        and_i (lt_z (at lo 0) (at hi 0) && lt_z (at lo 1) (at hi 1)) (lt_z (at lo 2) (at hi 2))
        (and_i (lt_z (at lo 0) (at hi 0)) (lt_z (at lo 1) (at hi 1)) (s.spans X).lt (s.spans Y).lt) (s.spans Z).lt

    depths_pass : T (depths D)
    depths_pass = and_i (le_z (pos 0) D) (le_z D (pos 24)) s.depth_least.le s.depth_most.le

    pub entry_none : entry_refusal (refusal d) lo hi D ≡ 0
    unfolding entry_refusal
    entry_none =
        rw (s.accepted, is_true (ticks lo && ticks hi) limits_pass, is_true (spans lo hi) spans_pass, is_true (depths D) depths_pass) refl

    pub room_none : room_refusal ar (leaf ar d) (cut_of rule d) (nat_abs D) (box_from lo hi) len ≡ 0
    unfolding room_refusal
    room_none = rw (le-ltb (len / 32) (length (cells_of ar (leaf ar d) (cut_of rule d) (nat_abs D) (box_from lo hi)) + 1) (omega (arith, s.room))) refl

    -- the call returns 0
    pub supposed_none : walk_number ar d lo hi D rule len ≡ 0
    unfolding walk_number
    supposed_none = rw (entry_none, room_none) refl

  -- ---- and back
  pub none_supposed : walk_number ar d lo hi D rule len ≡ 0 → Supposed ar d lo hi D rule len
  unfolding walk_number room_refusal entry_refusal
  none_supposed none =
      let cells = length (cells_of ar (leaf ar d) (cut_of rule d) (nat_abs D) (box_from lo hi)) in
      let (e, r) = neither (entry_refusal (refusal d) lo hi D) (room_refusal ar (leaf ar d) (cut_of rule d) (nat_abs D) (box_from lo hi) len) none in
      let h = entered (refusal d) lo hi D e in
      let (t, _) = none_first (not (ticks lo && ticks hi)) 0 (refusal d or_else refused (not (spans lo hi)) 11 or_else refused (not (depths D)) 12) e in
      let (low, high) = both (ticks lo) (ticks hi) (kept (ticks lo && ticks hi) t) in
      let room = nltb→le (len / 32) (cells + 1) (none_last (ltb (len / 32) (cells + 1)) 12 r) in
      record {
        accepted = h.described;
        lows = low;
        highs = high;
        spans = h.good.spans;
        depth_least = least D h.depth_sign;
        depth_most = most D h.depth_most;
        room = omega (arith, room);
      }
    where
      least : (D : ℤ) → T (non_neg D) → pos 0 ≤ℤ D
      least (pos n) t = omega zarith
      least (negsuc n) t = absurd t

      most : (D : ℤ) → nat_abs D ≤ 24 → D ≤ℤ pos 24
      most (pos n) h = omega zarith
      most (negsuc n) h = omega zarith
