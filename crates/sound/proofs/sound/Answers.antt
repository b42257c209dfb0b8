-- Each test of the code is a test of the turn. Assumes nothing.
use mathlib.Core.Path.{◌≡◌, sym, ap, ◌∙◌, subst, subst⁻¹}
use mathlib.Core.Logic.{⊎_elim}
use Prim.Native.Nat.{ℕ, ◌+◌, ◌-◌, ◌≤◌, ◌<◌}
use native.Mathlib.Omega.{arith}
use borrow.Author.Rules.{rules}
use Rattle.tree.specs.Box.{Good, volume}
use Rattle.table.specs.declared.Head.{Head}
use Rattle.sound.proofs.CellLaws.{cell_is}
use Rattle.sound.proofs.FollowLaws.{no_cell, no_room, no_slot, Turn, first_turn, at_end, slot_out, cell_unsound, too_much, goes_on}
use Rattle.sound.proofs.sound.Goals as goal

-- what was read of slot 0
cells_are : {h k : Head} → h ≡ k → h.cells ≡ k.cells
cells_are e = ap (λ (x : Head). x.cells) e

-- ---- before the loop
pub returns-then-room-lt2 : goal.returns-then-room-lt2
returns-then-room-lt2 c = no_slot _ (omega (arith, c.if-room-lt2.true))

pub returns-then-n-lt1 : goal.returns-then-n-lt1
returns-then-n-lt1 c =
    let e = cells_are c.head_of-head.ensures in
    ⊎_elim (λ h. no_cell _ (omega (arith, h, e))) (λ h. no_room _ (omega (arith, h.1, e))) c.then-n-lt1.either

pub loop-init : goal.loop-init
loop-init c =
    let head = c.head_of-head.ensures in
    let n = c.head_of-head.result.cells in
    let all : n ≡ n - 0 = omega arith in
    subst (λ (left : ℕ). Turn c.args.t.now n left c.head_of-head.result.first 0) all
    (first_turn _ (cells_are head) (ap (λ (x : Head). x.first) head) (omega (arith, c.if-n-lt1.false)) (omega (arith, c.if-room-n.false)))

-- ---- a turn
some_left : {n done : ℕ} → done < n → 0 < n - done
some_left h = omega arith

pub returns-then-not-contains : goal.returns-then-not-contains
returns-then-not-contains c = slot_out c.loop.invariant (some_left c.loop-test.true) (λ a b. search rules)

pub returns-then-not-sound_cell : goal.returns-then-not-sound_cell
returns-then-not-sound_cell c =
    cell_unsound c.loop.invariant (some_left c.loop-test.true) (sym c.sound_cell.ensures ∙ c.if-not-sound_cell.true)

pub volume-v-requires : goal.volume-v-requires
volume-v-requires c = subst⁻¹ Good c.box_of.ensures (cell_is _ (sym c.sound_cell.ensures ∙ c.if-not-sound_cell.false)).good

pub returns-then-sum-v : goal.returns-then-sum-v
returns-then-sum-v c =
    too_much c.loop.invariant (some_left c.loop-test.true) (c.volume-v.ensures ∙ ap volume c.box_of.ensures) c.if-sum-v.true

pub loop-preserved : goal.loop-preserved
loop-preserved c =
    let above : 1 ≤ c.loop.slot = search rules in
    let below : c.loop.slot ≤ c.head_of-head.result.cells = search rules in
    let n = c.head_of-head.result.cells in
    let fewer : n - c.loop.counter - 1 ≡ n - (c.loop.counter + 1) = omega arith in
    subst (λ (left : ℕ). Turn c.args.t.now n left c.next_of-slot.result (c.loop.sum + c.volume-v.result)) fewer
    (goes_on c.loop.invariant (some_left c.loop-test.true) above below (sym c.sound_cell.ensures ∙ c.if-not-sound_cell.false)
    (c.volume-v.ensures ∙ ap volume c.box_of.ensures) (omega (arith, c.if-sum-v.false)) c.next_of-slot.ensures)

pub returns : goal.returns
returns c = at_end c.loop.invariant (omega (arith, c.loop-test.false))
