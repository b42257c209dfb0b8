-- The table is written as the walk goes. Where the cells outgrow it, every byte is set to zero; otherwise the bytes behind them are. Assumes nothing.
use mathlib.Core.Path.{refl, ap, ◌∙◌}
use Prim.Native.Nat.{ℕ, ◌+◌, ◌*◌, ◌/◌, ◌≤◌}
use native.Mathlib.Omega.{arith}
use lib.ListN.{length, replicate}
use Rattle.gyroid.specs.declared.Gyroid.{Gyroid}
use Rattle.tree.specs.declared.Axis.{Axis}
use Rattle.tree.specs.Box.{Box, box_of, cut}
use Rattle.tree.proofs.CutLaws.{fair_cut}
use Rattle.tree.proofs.CountLaws.{leaves_small}
use Rattle.table.proofs.Written.{zeroed}
use Rattle.walk.specs.declared.Counted.{Counted}
use Rattle.walk.specs.FunctionsInUse.{settled}
use Rattle.walk.proofs.CountedLaws.{counted_cells, counted_most}
use Rattle.walk.proofs.FilledLaws.{HasRoom, done_tells, full_tells}
use Rattle.walk.proofs.CallLaws.{room_refused, root_placed, room_done}
use Rattle.walk.proofs.RootLaws.{root_few, root_filled, root_written}
use Rattle.walk.proofs.entered.Entered.run.Goals as goal
use Rattle.walk.proofs.entered.Entered.run.Goals.{In-Some}

pub fill-answer-requires-clause-b_bound : goal.fill-answer-requires-clause-b_bound
fill-answer-requires-clause-b_bound c = root_few c.args.self.now c.new-memory.ensures c.root.ensures c.root-2.ensures

-- ---- the cells outgrow the table
pub returns-in_default : goal.returns-in_default
returns-in_default c =
    let e = c.args.self.now in
    let f = c.fill-answer in
    let none = root_filled e c.new-memory.ensures c.root.ensures c.root-2.ensures _ c.in_default.ensures.value in
    let clear = zeroed f.new.t c.zero.ensures ∙ ap (λ (k : ℕ). replicate k 0) f.auto.t in
    let w = room_refused e.leaf (cut e.ties) e.depth (box_of e.b) c.args.table.now clear (full_tells _ _ _ _ _ _ none refl) in
    record { answer = w.0; left = w.1 }

-- ---- the table holds them: what the writer's answer tells, of the call
module _ (g : Gyroid) (axis : Box → Axis) (D : ℕ) (b : Box) (len : ℕ) {n : Counted} (room : HasRoom g axis D b 2 (len / 32) n) where
  small : D ≤ 24 → n.cells ≤ 16777216
  small h = omega (arith, counted_cells g axis D b room.counted, leaves_small (settled g) axis D b h)

  few : 32 * (n.cells + 1) ≤ len
  few = omega (arith, room.fits, counted_cells g axis D b room.counted)

room : (c : In-Some) → let e = c.args.self.now in HasRoom e.leaf (cut e.ties) e.depth (box_of e.b) 2 (length c.args.table.now / 32) c.in-Some.n
room c =
    let e = c.args.self.now in
    done_tells _ _ _ _ _ _ (root_filled e c.new-memory.ensures c.root.ensures c.root-2.ensures _ c.in-Some.ensures.value) refl

pub overflow_add-n : goal.overflow_add-n
overflow_add-n c = omega (arith, small _ _ _ _ _ (room (goal.at.overflow_add-n c).In-Some) c.args.self.now.shallow)

pub overflow_mul-n : goal.overflow_mul-n
overflow_mul-n c = omega (arith, small _ _ _ _ _ (room (goal.at.overflow_mul-n c).In-Some) c.args.self.now.shallow)

pub zero-requires-2 : goal.zero-requires-2
zero-requires-2 c = omega (arith, few _ _ _ _ _ (room (goal.at.zero-requires-2 c).In-Some), c.fill-answer.auto.t)

pub head-requires-clause-solid_bound : goal.head-requires-clause-solid_bound
head-requires-clause-solid_bound c =
    counted_most _ _ _ _ (room (goal.at.head-requires-clause-solid_bound c).In-Some).counted (fair_cut _) c.args.self.now.good

pub put_head-requires : goal.put_head-requires
put_head-requires c = omega (arith, few _ _ _ _ _ (room (goal.at.put_head-requires c).In-Some), c.fill-answer.auto.t, c.zero-2.auto.t)

pub returns : goal.returns
returns c =
    let e = c.args.self.now in
    let fits = room (goal.at.returns c).In-Some in
    let cells-put = root_placed e.leaf (cut e.ties) e.depth (box_of e.b) c.args.table.now
    (root_written e c.new-memory.ensures c.root.ensures c.root-2.ensures _ _ c.in-Some.ensures.written fits.fits) refl in
    let w = room_done e.leaf (cut e.ties) e.depth (box_of e.b) c.args.table.now fits cells-put c.zero-2.ensures c.head.ensures c.put_head.ensures in
    record { answer = w.0; left = w.1 }
