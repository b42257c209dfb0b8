-- What was read of a cell is got, and each turn takes what was got. Assumes nothing.
use mathlib.Core.Path.{◌≡◌, ap, ◌∙◌}
use mathlib.Core.List.{List, ◌++◌}
use native.Mathlib.Omega.{arith}
use Prim.Native.Nat.{ℕ, ◌-◌, ◌*◌, ◌≤◌}
use lib.ListN.{length, take, drop, replicate}
use lib.Seq.{length-take-le}
use Rattle.table.specs.declared.Head.{Head}
use Rattle.sound.proofs.ChainLaws.{sound_is}
use Rattle.layers.proofs.TurnLaws.{got, first_turn, here, good_box, a_state, column_below, fitting, next_turn, last_turn}
use Rattle.layers.proofs.report.write.Goals as goal

-- the bytes that are filled, and those behind them
cleared : (r : List ℕ) (n : ℕ) {f : List ℕ} → f ≡ replicate (length (take (24 * n) r)) 0 → 24 * n ≤ length r
    → f ++ drop (24 * n) r ≡ replicate (24 * n) 0 ++ drop (24 * n) r
cleared r n e h = ap (λ (l : List ℕ). l ++ drop (24 * n) r) (e ∙ ap (λ (k : ℕ). replicate k 0) (length-take-le (24 * n) r h))

pub head_of-head-requires : goal.head_of-head-requires
head_of-head-requires c = omega (arith, (sound_is _ c.requires.t_value).room)

pub loop-init : goal.loop-init
loop-init c =
    let a = c.args in
    let head = c.head_of-head.ensures in
    let none : c.head_of-head.result.cells - 0 ≡ c.head_of-head.result.cells = omega arith in
    first_turn a.t.now a.low a.n a.r.now c.requires.t_value c.requires.n_bound c.requires.n_in_bounds
    (cleared a.r.now a.n (c.fill.ensures.after (λ y e. e)) c.requires.n_in_bounds)
    (ap (λ (h : Head). h.first) head) (none ∙ ap (λ (h : Head). h.cells) head)

pub box_of-b-requires-clause-slot_in_bounds : goal.box_of-b-requires-clause-slot_in_bounds
box_of-b-requires-clause-slot_in_bounds c = (here (omega (arith, c.loop-test.true)) c.loop.invariant).fits

pub box_of-b-requires-clause-slot_value : goal.box_of-b-requires-clause-slot_value
box_of-b-requires-clause-slot_value c = (here (omega (arith, c.loop-test.true)) c.loop.invariant).is_sound

pub state_of-state-requires : goal.state_of-state-requires
state_of-state-requires c = (here (omega (arith, c.loop-test.true)) c.loop.invariant).fits

pub area-v-requires : goal.area-v-requires
area-v-requires c = good_box (omega (arith, c.loop-test.true)) c.loop.invariant c.box_of-b.result c.box_of-b.ensures

pub overflow_sub-state : goal.overflow_sub-state
overflow_sub-state c =
    let a = c.args in
    let g = got a.t.now a.low a.n c.loop.slot c.box_of-b.result c.box_of-b.ensures c.state_of-state.ensures
    c.area-v.ensures c.layers_below-first.ensures c.layers_below-end.ensures in
    a_state (omega (arith, c.loop-test.true)) c.loop.invariant g

pub add-requires-clause-column_bound : goal.add-requires-clause-column_bound
add-requires-clause-column_bound c =
    let a = c.args in
    let g = got a.t.now a.low a.n c.loop.slot c.box_of-b.result c.box_of-b.ensures c.state_of-state.ensures
    c.area-v.ensures c.layers_below-first.ensures c.layers_below-end.ensures in
    column_below (omega (arith, c.loop-test.true)) c.loop.invariant g

pub add-requires-clause-fitting : goal.add-requires-clause-fitting
add-requires-clause-fitting c =
    let a = c.args in
    let g = got a.t.now a.low a.n c.loop.slot c.box_of-b.result c.box_of-b.ensures c.state_of-state.ensures
    c.area-v.ensures c.layers_below-first.ensures c.layers_below-end.ensures in
    fitting (omega (arith, c.loop-test.true)) c.loop.invariant g

pub next_of-slot-requires : goal.next_of-slot-requires
next_of-slot-requires c = (here (omega (arith, c.loop-test.true)) c.loop.invariant).fits

pub loop-preserved : goal.loop-preserved
loop-preserved c =
    let a = c.args in
    let g = got a.t.now a.low a.n c.loop.slot c.box_of-b.result c.box_of-b.ensures c.state_of-state.ensures
    c.area-v.ensures c.layers_below-first.ensures c.layers_below-end.ensures in
    next_turn (omega (arith, c.loop-test.true)) c.loop.invariant g c.add.ensures c.next_of-slot.ensures (omega arith)

pub returns : goal.returns
returns c =
    let a = c.args in
    last_turn a.r.now (cleared a.r.now a.n (c.fill.ensures.after (λ y e. e)) c.requires.n_in_bounds) (omega (arith, c.loop-test.false)) c.loop.invariant
