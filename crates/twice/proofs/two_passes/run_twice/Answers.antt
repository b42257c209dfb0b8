-- The tree is counted; where the table has room for the count it is written, and slot 0 says what was counted. Assumes nothing.
use mathlib.Core.Path.{◌≡◌, refl, ◌∙◌}
use Prim.Native.Nat.{ℕ, ◌+◌, ◌*◌, ◌/◌, ◌≤◌}
use native.Mathlib.Omega.{arith}
use lib.ListN.{length}
use Rattle.gyroid.specs.declared.Gyroid.{Gyroid}
use Rattle.tree.specs.declared.Axis.{Axis}
use Rattle.tree.specs.Box.{Box, box_of, cut}
use Rattle.tree.proofs.CutLaws.{fair_cut}
use Rattle.tree.proofs.CountLaws.{leaves_small}
use Rattle.table.proofs.Written.{zeroed}
use Rattle.walk.specs.declared.Counted.{Counted}
use Rattle.walk.specs.Counted.{counted_of}
use Rattle.walk.specs.FunctionsInUse.{settled}
use Rattle.walk.proofs.CountedLaws.{counted_cells, counted_most}
use Rattle.walk.proofs.FilledLaws.{HasRoom}
use Rattle.walk.proofs.CallLaws.{room_refused, root_placed, room_done}
use Rattle.walk.proofs.RootLaws.{root_counted, root_few, root_written}
use Rattle.twice.proofs.two_passes.run_twice.Goals as goal
use Rattle.twice.proofs.two_passes.run_twice.Goals.{After-count-n}

-- ---- of the count: the cells are few, and where the table has room for them they and slot 0 are of it
counted : (c : After-count-n) → let e = c.args.e.now in c.count-n.result ≡ counted_of e.leaf (cut e.ties) e.depth (box_of e.b)
counted c = root_counted c.args.e.now c.new-memory.ensures c.root-root.ensures c.count-n.ensures.value

module _ (g : Gyroid) (axis : Box → Axis) (D : ℕ) (b : Box) {n : Counted} (e : n ≡ counted_of g axis D b) where
  small : D ≤ 24 → n.cells ≤ 16777216
  small h = omega (arith, counted_cells g axis D b e, leaves_small (settled g) axis D b h)

  room : (len : ℕ) → n.cells + 1 ≤ len / 32 → HasRoom g axis D b 2 (len / 32) n
  room len h = record { fits = omega (arith, counted_cells g axis D b e, h); counted = e }

few : (n len : ℕ) → n + 1 ≤ len / 32 → 32 * (n + 1) ≤ len
few n len h = omega (arith, h)

pub overflow_add-n : goal.overflow_add-n
overflow_add-n c = omega (arith, small _ _ _ _ (counted (goal.at.overflow_add-n c).After-count-n) c.args.e.now.shallow)

-- ---- there is no room
pub returns-then-table-n : goal.returns-then-table-n
returns-then-table-n c =
    let e = c.args.e.now in
    let n = counted (goal.at.returns-then-table-n c).After-count-n in
    let w = room_refused e.leaf (cut e.ties) e.depth (box_of e.b) c.args.table.now (zeroed c.args.table.now c.zero.ensures)
    (omega (arith, counted_cells _ _ _ _ n, c.if-table-n.true)) in
    record { answer = w.0; left = w.1 }

-- ---- there is
pub fill-requires-clause-b_bound : goal.fill-requires-clause-b_bound
fill-requires-clause-b_bound c =
    root_few c.args.e.now (c.count-n.ensures.leaf ∙ c.new-memory.ensures) c.root-root.ensures c.root.ensures

pub overflow_add-n-2 : goal.overflow_add-n-2
overflow_add-n-2 c = omega (arith, small _ _ _ _ (counted (goal.at.overflow_add-n-2 c).After-count-n) c.args.e.now.shallow)

pub overflow_mul-n : goal.overflow_mul-n
overflow_mul-n c = omega (arith, small _ _ _ _ (counted (goal.at.overflow_mul-n c).After-count-n) c.args.e.now.shallow)

pub zero-requires-2 : goal.zero-requires-2
zero-requires-2 c = omega (arith, few c.count-n.result.cells (length c.args.table.now) c.if-table-n.false, c.fill.auto.t)

pub head-requires-clause-solid_bound : goal.head-requires-clause-solid_bound
head-requires-clause-solid_bound c =
    counted_most _ _ _ _ (counted (goal.at.head-requires-clause-solid_bound c).After-count-n) (fair_cut _) c.args.e.now.good

pub returns : goal.returns
returns c =
    let e = c.args.e.now in
    let leaf = c.count-n.ensures.leaf ∙ c.new-memory.ensures in
    let fits = room _ _ _ _ (counted (goal.at.returns c).After-count-n) (length c.args.table.now) c.if-table-n.false in
    let cells-put = root_placed e.leaf (cut e.ties) e.depth (box_of e.b) c.args.table.now
    (root_written e leaf c.root-root.ensures c.root.ensures _ _ c.fill.ensures.written fits.fits) refl in
    let w = room_done e.leaf (cut e.ties) e.depth (box_of e.b) c.args.table.now fits cells-put c.zero-2.ensures c.head.ensures c.put_head.ensures in
    record { answer = w.0; left = w.1 }
