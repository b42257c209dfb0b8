-- A cell is written to its slot if there is one; of a box that is halved, the cells of the lower half are written and then those of the upper.
-- `done` and `full` say what some counts, and none, for an answer of `fill` tell of the room, `counted` and `least` how many cells are written.
-- Assumes nothing.
use mathlib.Core.Path.{◌≡◌, refl, sym, ap, ◌∙◌, subst, subst⁻¹}
use mathlib.Core.Bool.{Bool}
use mathlib.Core.List.{List}
use Prim.Native.Nat.{ℕ, suc, ◌+◌, ◌-◌, ◌/◌, ◌≤◌, ◌<◌}
use native.Mathlib.Omega.{arith}
use lib.ListN.{length}
use Rattle.std.specs.Prelude.{Option, Some, None}
use Rattle.gyroid.specs.declared.Gyroid.{Gyroid}
use Rattle.gyroid.specs.declared.State.{State}
use Rattle.gyroid.specs.declared.State.TheVariants.{Inside, Outside, Unsettled}
use Rattle.gyroid.specs.contracts.State.{the_type}
use Rattle.gyroid.specs.Residual.{state_number}
use denote.Enum.Declared.{tag_of}
use Rattle.tree.specs.declared.Axis.{Axis}
use Rattle.tree.specs.Box.{Box, box_of, cut, lower}
use Rattle.tree.specs.Tree.{leaves, cells}
use Rattle.tree.proofs.CountLaws.{leaves_least}
use Rattle.tree.proofs.CutLaws.{fair_cut}
use Rattle.table.specs.Table.{Record}
use Rattle.table.proofs.BoundLaws.{within_ticks}
use Rattle.table.proofs.PlacedLaws.{placed_cell, placed_halves}
use Rattle.grade.specs.InUse.{in_use}
use Rattle.walk.specs.declared.Counted.{Counted}
use Rattle.walk.specs.declared.fill.Writing.{Writing}
use Rattle.walk.specs.FunctionsInUse.{settled, records_of}
use Rattle.walk.specs.Counted.{filled_of, Written}
use Rattle.walk.proofs.RecordLaws.{records_cell, records_halves, records_leaves}
use Rattle.walk.proofs.CountedLaws.{counted_cells, counted_cell, counted_halves, counted_adds}
use Rattle.walk.proofs.FilledLaws.{HasRoom, is_done, is_full, done_tells, full_tells}
use Rattle.walk.proofs.StepLaws.{AtHalves}
use Rattle.walk.proofs.HalvedLaws.{cell, one, halves, lower_good, upper_good}
use Rattle.walk.proofs.fill.+fill.Goals as goal
use Rattle.walk.proofs.fill.+fill.Goals.{In_err-l-in-Halves, In_ok-l-in-Halves, In_err-h-in-Halves, In_ok-h-in-Halves}

-- ---- what the answers tell: the counts, and that there was room; or that there was none
module _ (g : Gyroid) (axis : Box → Axis) (d : ℕ) (b : Box) (fresh slots : ℕ) where
  done : {c : Counted} → Some c ≡ filled_of g axis d b fresh slots → HasRoom g axis d b fresh slots c
  done e = done_tells _ _ _ _ _ _ e refl

  counted : {c : Counted} → Some c ≡ filled_of g axis d b fresh slots → c.cells ≡ leaves (settled g) axis d b
  counted e = counted_cells _ _ _ _ (done e).counted

  least : {c : Counted} → Some c ≡ filled_of g axis d b fresh slots → 1 ≤ c.cells
  least e = omega (arith, counted e, leaves_least (settled g) axis d b)

  full : None ≡ filled_of g axis d b fresh slots → slots + 1 < fresh + leaves (settled g) axis d b
  full e = full_tells _ _ _ _ _ _ e refl

-- ---- where one cell, or the cells of a half, have no slot, those of the box have none
full_cell : (n fresh slots : ℕ) → n ≡ 1 → slots < fresh → slots + 1 < fresh + n
full_cell n fresh slots e h = omega arith

full_low : (n low high fresh slots : ℕ) → slots + 1 < fresh + low → n ≡ low + high → slots + 1 < fresh + n
full_low n low high fresh slots h e = omega arith

full_high : (n low high x len now fresh : ℕ) → len / 32 + 1 < fresh + x - 1 + 1 + high → n ≡ low + high → x ≡ low → len ≡ now → 1 ≤ x
    → now / 32 + 1 < fresh + n
full_high n low high x len now fresh h e f g p = omega arith

-- then nothing is said of the bytes
unwritten : (g : Gyroid) (axis : Box → Axis) (t : List ℕ) (d : ℕ) (b : Box) (slot fresh : ℕ) (last : Bool) (after limit : ℕ) (u : List ℕ)
    → length t / 32 + 1 < fresh + leaves (settled g) axis d b → Written g axis t d b slot fresh last after limit u
unwritten g axis t d b slot fresh last after limit u none h = absurd (omega arith)

-- ---- what is asked of the writer, and what it leaves, by the leaf that the memory had at first and by what the writing is
module _ (d : ℕ) (b : Box) {g h : Gyroid} {v w : Writing} (leaf : g ≡ h) (writing : v ≡ w) where
  abbrev Asked : Gyroid → Writing → Type 0
  Asked k u = (d ≤ u.limit) × ((u.limit ≤ 24) × ((u.slot < u.fresh) × (u.fresh + leaves (settled k) (cut u.ties) d b ≤ 8589934592)))

  asked : Asked h w → Asked g v
  asked q = subst⁻¹ (λ (k : Gyroid). Asked k v) leaf (subst⁻¹ (Asked h) writing q)

  filled : {r : Option Counted} (slots : ℕ) → r ≡ filled_of g (cut v.ties) d b v.fresh slots → r ≡ filled_of h (cut w.ties) d b w.fresh slots
  filled slots e = e ∙ (λ i. filled_of (leaf i) (cut (writing i).ties) d b (writing i).fresh slots)

  wrote : (t u : List ℕ) → Written g (cut v.ties) t d b v.slot v.fresh v.last v.after v.limit u
      → Written h (cut w.ties) t d b w.slot w.fresh w.last w.after w.limit u
  wrote t u q = subst (λ (k : Gyroid). Written k (cut w.ties) t d b w.slot w.fresh w.last w.after w.limit u) leaf
      (subst (λ (x : Writing). Written g (cut x.ties) t d b x.slot x.fresh x.last x.after x.limit u) writing q)

-- what the code writes of a state is its number
numbered : (s : State) → tag_of the_type s + 1 ≡ state_number s
numbered Inside = refl
numbered Outside = refl
numbered Unsettled = refl

-- ---- a cell: it has no slot, or it is put there
pub returns-then-t-w-clause-value : goal.returns-then-t-w-clause-value
returns-then-t-w-clause-value t c = is_full _ _ _ _ _ _ (full_cell _ _ _ (one _ _ _ _ c.in-Cell.ensures.value) c.if-t-w.true)

pub returns-then-t-w-clause-written : goal.returns-then-t-w-clause-written
returns-then-t-w-clause-written t c =
    unwritten _ _ _ _ _ _ _ c.args.w.last c.args.w.after c.args.w.limit _ (full_cell _ _ _ (one _ _ _ _ c.in-Cell.ensures.value) c.if-t-w.true)

pub put_cell-requires-clause-within_ticks : goal.put_cell-requires-clause-within_ticks
put_cell-requires-clause-within_ticks t c = within_ticks c.args.n.b c.requires.good

pub returns-else-t-w-clause-value : goal.returns-else-t-w-clause-value
returns-else-t-w-clause-value t c =
    let e = c.in-Cell.ensures.value in
    is_done _ _ _ _ _ _ (omega (arith, one _ _ _ _ e, c.if-t-w.false)) (c.cell.ensures ∙ sym (counted_cell _ _ _ _ _ (cell _ _ _ _ e)))

pub returns-else-t-w-clause-written : goal.returns-else-t-w-clause-written
returns-else-t-w-clause-written t c q =
    let a = c.args in
    let e = c.in-Cell.ensures.value in
    placed_cell a.t.now a.w.slot a.w.fresh a.w.last a.w.after c.put_cell.ensures c.named.ensures (one _ _ _ _ e)
    (records_cell _ _ _ _ _ _ (cell _ _ _ _ e) (numbered _))

-- ---- the lower half
pub overflow_sub-left : goal.overflow_sub-left
overflow_sub-left t c = (halves _ _ _ _ c.requires.good c.in-Halves.ensures.value).left

-- its cells are no more than those of the box
low_most : (g : Gyroid) (axis : Box → Axis) (d : ℕ) (b l : Box) (a : Axis) → AtHalves g axis d b a → l ≡ lower a b
    → leaves (settled g) axis (d - 1) l ≤ leaves (settled g) axis d b
low_most g axis d b l a at e = omega (arith, at.leaves2 e refl)

pub fill-requires : goal.fill-requires
fill-requires t c =
    let r = c.requires in
    let e = c.in-Halves.ensures in
    let at = halves _ _ _ _ r.good e.value in (
      omega (arith, at.left),
      (
        lower_good _ _ _ _ r.good e.value c.half.ensures,
        asked _ _ e.leaf c.lower.ensures
            (omega arith, (r.limit_bound, (r.slot_lt_fresh, omega (arith, r.b_bound, low_most _ _ _ _ _ _ at c.half.ensures)))),
      ),
    )

-- its cells have no room
low_full : (t : ℕ) (c : In_err-l-in-Halves t) → length c.args.t.now / 32 + 1
    < c.args.w.fresh + leaves (settled c.args.memory.now.leaf) (cut c.args.w.ties) c.args.depth (box_of c.args.n.b)
low_full t c =
    let e = c.in-Halves.ensures in
    let at = halves _ _ _ _ c.requires.good e.value in
    full_low _ _ _ _ _ (full _ _ _ _ _ _ (filled _ _ e.leaf c.lower.ensures _ c.in_err-l-in-Halves.ensures.value)) (at.leaves2 c.half.ensures refl)

pub returns-in_err-l-in-Halves-clause-value : goal.returns-in_err-l-in-Halves-clause-value
returns-in_err-l-in-Halves-clause-value t c =
    c.from_residual.ensures ∙ is_full _ _ _ _ _ _ (low_full t (goal.at.returns-in_err-l-in-Halves-clause-value t c).In_err-l-in-Halves)

pub returns-in_err-l-in-Halves-clause-written : goal.returns-in_err-l-in-Halves-clause-written
returns-in_err-l-in-Halves-clause-written t c =
    unwritten _ _ _ _ _ _ _ c.args.w.last c.args.w.after c.args.w.limit _
    (low_full t (goal.at.returns-in_err-l-in-Halves-clause-written t c).In_err-l-in-Halves)

-- ---- the upper half, behind the cells of the lower
-- what is known of the lower
low_done : (t : ℕ) (c : In_ok-l-in-Halves t) → HasRoom c.args.memory.now.leaf (cut c.args.w.ties) (c.args.depth - 1) (box_of c.half.result.b) c.args.w.fresh
    (length c.args.t.now / 32) c.in_ok-l-in-Halves.l
low_done t c = done _ _ _ _ _ _ (filled _ _ c.in-Halves.ensures.leaf c.lower.ensures _ c.in_ok-l-in-Halves.ensures.value)

low_counted : (t : ℕ) (c : In_ok-l-in-Halves t)
    → c.in_ok-l-in-Halves.l.cells ≡ leaves (settled c.args.memory.now.leaf) (cut c.args.w.ties) (c.args.depth - 1) (box_of c.half.result.b)
low_counted t c = counted_cells _ _ _ _ (low_done t c).counted

low_least : (t : ℕ) (c : In_ok-l-in-Halves t) → 1 ≤ c.in_ok-l-in-Halves.l.cells
low_least t c =
    omega (arith, low_counted t c, leaves_least (settled c.args.memory.now.leaf) (cut c.args.w.ties) (c.args.depth - 1) (box_of c.half.result.b))

pub upper-requires-clause-some : goal.upper-requires-clause-some
upper-requires-clause-some t c = low_least t (goal.at.upper-requires-clause-some t c).In_ok-l-in-Halves

pub upper-requires-clause-few : goal.upper-requires-clause-few
upper-requires-clause-few t c =
    let at = halves _ _ _ _ c.requires.good c.in-Halves.ensures.value in
    omega (
      arith,
      c.requires.b_bound,
      low_counted t (goal.at.upper-requires-clause-few t c).In_ok-l-in-Halves,
      low_most _ _ _ _ _ _ at c.half.ensures,
    )

pub fill-requires-in-Halves : goal.fill-requires-in-Halves
fill-requires-in-Halves t c =
    let r = c.requires in
    let e = c.in-Halves.ensures in
    let at = halves _ _ _ _ r.good e.value in
    let p = (goal.at.fill-requires-in-Halves t c).In_ok-l-in-Halves in (
      omega (arith, at.left),
      (
        upper_good _ _ _ _ r.good e.value c.half-in-Halves.ensures,
        asked _ _ (c.fill.ensures.leaf ∙ e.leaf) c.upper.ensures (
          omega arith,
          (r.limit_bound, (omega arith, omega (arith, r.b_bound, at.leaves2 c.half.ensures c.half-in-Halves.ensures, low_counted t p, low_least t p))),
        ),
      ),
    )

-- its cells have no room
high_full : (t : ℕ) (c : In_err-h-in-Halves t)
    → c.in_ok-l-in-Halves.l.cells ≡ leaves (settled c.args.memory.now.leaf) (cut c.args.w.ties) (c.args.depth - 1) (box_of c.half.result.b)
    → 1 ≤ c.in_ok-l-in-Halves.l.cells → length c.args.t.now / 32 + 1
    < c.args.w.fresh + leaves (settled c.args.memory.now.leaf) (cut c.args.w.ties) c.args.depth (box_of c.args.n.b)
high_full t c n some =
    let e = c.in-Halves.ensures in
    let at = halves _ _ _ _ c.requires.good e.value in
    let none = filled _ _ (c.fill.ensures.leaf ∙ e.leaf) c.upper.ensures _ c.in_err-h-in-Halves.ensures.value in
    full_high _ _ _ _ _ _ _ (full _ _ _ _ _ _ none) (at.leaves2 c.half.ensures c.half-in-Halves.ensures) n c.fill.auto.t some

pub returns-in_err-h-in-Halves-clause-value : goal.returns-in_err-h-in-Halves-clause-value
returns-in_err-h-in-Halves-clause-value t c =
    let g = goal.at.returns-in_err-h-in-Halves-clause-value t c in
    c.from_residual-in_err-h-in-Halves.ensures
    ∙ is_full _ _ _ _ _ _ (high_full t g.In_err-h-in-Halves (low_counted t g.In_ok-l-in-Halves) (low_least t g.In_ok-l-in-Halves))

pub returns-in_err-h-in-Halves-clause-written : goal.returns-in_err-h-in-Halves-clause-written
returns-in_err-h-in-Halves-clause-written t c =
    let g = goal.at.returns-in_err-h-in-Halves-clause-written t c in
    unwritten _ _ _ _ _ _ _ c.args.w.last c.args.w.after c.args.w.limit _
    (high_full t g.In_err-h-in-Halves (low_counted t g.In_ok-l-in-Halves) (low_least t g.In_ok-l-in-Halves))

-- ---- both counts
high_done : (t : ℕ) (c : In_ok-h-in-Halves t) → HasRoom c.args.memory.now.leaf (cut c.args.w.ties) (c.args.depth - 1) (box_of c.half-in-Halves.result.b)
    (c.args.w.fresh + c.in_ok-l-in-Halves.l.cells - 1 + 1) (length c.fill.new.t / 32) c.in_ok-h-in-Halves.h
high_done t c =
    done _ _ _ _ _ _ (filled _ _ (c.fill.ensures.leaf ∙ c.in-Halves.ensures.leaf) c.upper.ensures _ c.in_ok-h-in-Halves.ensures.value)

pub joined-requires : goal.joined-requires
joined-requires t c =
    let r = c.requires in
    let g = goal.at.joined-requires t c in
    let shallow : c.args.depth ≤ 24 = omega arith in
    counted_adds _ _ _ _ _ (halves _ _ _ _ r.good c.in-Halves.ensures.value) c.half.ensures c.half-in-Halves.ensures (fair_cut _) r.good shallow
    (low_done t g.In_ok-l-in-Halves).counted (high_done t g.In_ok-h-in-Halves).counted

pub returns-in_ok-h-in-Halves-clause-value : goal.returns-in_ok-h-in-Halves-clause-value
returns-in_ok-h-in-Halves-clause-value t c =
    let g = goal.at.returns-in_ok-h-in-Halves-clause-value t c in
    let low = low_done t g.In_ok-l-in-Halves in
    let high = high_done t g.In_ok-h-in-Halves in
    let at = halves _ _ _ _ c.requires.good c.in-Halves.ensures.value in
    is_done _ _ _ _ _ _
    (omega (
      arith,
      high.fits,
      at.leaves2 c.half.ensures c.half-in-Halves.ensures,
      c.fill.auto.t,
      low_counted t g.In_ok-l-in-Halves,
      low_least t g.In_ok-l-in-Halves,
    )) (c.joined.ensures ∙ counted_halves _ _ _ _ _ at c.half.ensures c.half-in-Halves.ensures low.counted high.counted)

-- the records of the cells of a box
abbrev records : Gyroid → (Box → Axis) → ℕ → ℕ → Box → List Record
records g axis d k b = records_of g (cells (settled g) axis d k b)

pub returns-in_ok-h-in-Halves-clause-written : goal.returns-in_ok-h-in-Halves-clause-written
returns-in_ok-h-in-Halves-clause-written t c q =
    let p = goal.at.returns-in_ok-h-in-Halves-clause-written t c in
    let a = c.args in
    let g = a.memory.now.leaf in
    let axis = cut a.w.ties in
    let e = c.in-Halves.ensures in
    let at = halves _ _ _ _ c.requires.good e.value in
    let low = box_of c.half.result.b in
    let high = box_of c.half-in-Halves.result.b in
    let k = a.depth - 1 in
    let j = a.w.limit - k in
    let low-written = wrote k low e.leaf c.lower.ensures _ _ c.in_ok-l-in-Halves.ensures.written (low_done t p.In_ok-l-in-Halves).fits in
    let high-written = wrote k high (c.fill.ensures.leaf ∙ e.leaf) c.upper.ensures _ _ c.in_ok-h-in-Halves.ensures.written
    (high_done t p.In_ok-h-in-Halves).fits in
    let deeper : j ≡ suc (a.w.limit - a.depth) = omega (arith, at.left) in
    placed_halves a.t.now a.w.slot a.w.fresh a.w.last a.w.after (records g axis k j low) (records g axis k j high)
    (records_leaves in_use g axis k j low) (records_leaves in_use g axis k j high) (leaves_least (settled g) axis k low) (leaves_least (settled g) axis k high)
    (at.leaves2 c.half.ensures c.half-in-Halves.ensures) (ap (λ (m : ℕ). a.w.fresh + m - 1) (low_counted t p.In_ok-l-in-Halves))
    (records_halves _ _ _ _ j _ low high _ at deeper c.half.ensures c.half-in-Halves.ensures) low-written high-written
