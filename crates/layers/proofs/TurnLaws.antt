-- The turns of the loop along the chain: what the report holds and what the cells left add to it make the whole. Assumes nothing.
use mathlib.Core.Path.{◌≡◌, refl, sym, ap, ◌∙◌, subst, subst⁻¹, transport}
use mathlib.Core.Bool.{true}
use mathlib.Core.List.{List, [], ◌∷◌, ◌++◌}
use Prim.Native.Nat.{ℕ, ◌+◌, ◌-◌, ◌*◌, ◌≤◌, ◌<◌}
use native.Mathlib.Omega.{arith}
use lib.IntN.{ℤ, pos, ◌+ℤ◌}
use lib.ListN.{length, drop, replicate, length-append, length-replicate, length-drop}
use lib.Seq.{drop_at}
use Rattle.tree.specs.declared.ShiftedBox.{ShiftedBox}
use Rattle.tree.specs.Box.{Good, area, unshifted, box_of}
use Rattle.tree.proofs.ShiftedLaws.{unshifted_add}
use Rattle.table.specs.Table.{Record}
use Rattle.table.specs.Read.{first_in, cells_in, next_in, record_in, records_in, chain}
use Rattle.table.specs.Words.{bytes_of}
use Rattle.table.proofs.ReadLaws.{chain_end_lem}
use Rattle.sound.specs.Sound.{sound_of}
use Rattle.sound.proofs.CellLaws.{IsSoundCell, cell_is}
use Rattle.sound.proofs.ChainLaws.{IsSound, sound_is, OnChain, on_first, AtCell, at_cell}
use Rattle.layers.specs.Layers.{area_in, report_of}
use Rattle.layers.specs.Added.{added_to, Fitting, layers_below}
use Rattle.layers.proofs.ThreesLaws.{threes, threes_same, threes_none, areas_are}
use Rattle.layers.proofs.ColumnLaws.{length_added}
use Rattle.layers.proofs.AddedLaws.{part, Sums, column}
use Rattle.layers.proofs.SumLaws.{area_none, area_more, area_le, crossing_le}
use Rattle.layers.proofs.CellLaws.{reach, one_cell}

-- of n layers from low on, the areas of some cells
abbrev areas_of : ℕ → List Record → (ℕ → ℕ → ℕ)
areas_of low ms k s = area_in s (unshifted (low + k)) ms

-- the report r so far: its numbers, and those of the cells left, are all
record SoFar (n : ℕ) (old r : List ℕ) (rest all : ℕ → ℕ → ℕ) : Type 0 where
  words : ℕ → ℕ → ℕ
  bytes : r ≡ bytes_of (threes n words) ++ drop (24 * n) old
  adds : (k s : ℕ) → k < n → words k s + rest k s ≡ all k s

-- ---- one cell more
module _ (n low : ℕ) (old : List ℕ) (m : Record) (ms : List Record) (b : ShiftedBox) (sound : IsSoundCell m) (is : box_of b ≡ m.box)
    (all : ℕ → ℕ → ℕ) (small : (k s : ℕ) → k < n → all k s ≤ 9223372036854775808) (r : List ℕ) (sofar : SoFar n old r (areas_of low (m ∷ ms)) all) where
  abbrev first : ℕ
  first = layers_below b.z.low low n

  abbrev many : ℕ
  many = layers_below b.z.high low n - first

  abbrev sum : ℕ → ℕ → ℕ
  sum k s = sofar.words k s + part many first (m.state - 1) (area m.box) k s

  sum_is : (k s : ℕ) → k < n → sum k s + areas_of low ms k s ≡ all k s
  sum_is k s h = omega (arith, one_cell low n m b sound is k s h, area_more s (unshifted (low + k)) m ms, sofar.adds k s h)

  sums : Sums n (drop (24 * n) old) many first (m.state - 1) (area m.box) sofar.words
  sums = column n (drop (24 * n) old) many first (m.state - 1) (area m.box) sofar.words (reach b.z.low b.z.high low n)
      (omega (arith, sound.least, sound.most)) (λ k s h. omega (arith, sum_is k s h, small k s h))

  one_fits : Fitting many first (m.state - 1) (area m.box) r
  one_fits = subst⁻¹ (Fitting many first (m.state - 1) (area m.box)) sofar.bytes sums.fits

  one_more : SoFar n old (added_to many first (m.state - 1) (area m.box) r) (areas_of low ms) all
  one_more = record { words = sum; bytes = ap (added_to many first (m.state - 1) (area m.box)) sofar.bytes ∙ sums.is; adds = sum_is }

-- ---- what the code has read of the cell in a slot
pub record Got (t : List ℕ) (low n slot : ℕ) (b : ShiftedBox) (state v first end : ℕ) : Type 0 where
  pub box_is : box_of b ≡ (record_in t slot).box
  pub state_is : state ≡ (record_in t slot).state
  pub area_is : v ≡ area (box_of b)
  pub first_is : first ≡ layers_below b.z.low low n
  pub end_is : end ≡ layers_below b.z.high low n

pub got : (t : List ℕ) (low n slot : ℕ) (b : ShiftedBox) {state v first end : ℕ} → box_of b ≡ (record_in t slot).box → state ≡ (record_in t slot).state
    → v ≡ area (box_of b) → first ≡ layers_below b.z.low low n → end ≡ layers_below b.z.high low n → Got t low n slot b state v first end
got t low n slot b e f g h k = record { box_is = e; state_is = f; area_is = g; first_is = h; end_is = k }

-- ---- a turn of the loop; `old` is the report where the loop begins
pub record Turn (t : List ℕ) (low n : ℕ) (old r : List ℕ) (slot left : ℕ) : Type 0 where
  pub sound : IsSound t
  pub layers : low + n ≤ 2097152
  pub enough : 24 * n ≤ length old
  pub long : length r ≡ length old
  pub on : OnChain t left slot
  sofar : SoFar n old r (areas_of low (chain left t slot)) (areas_of low (records_in t))

module _ {t : List ℕ} {low n : ℕ} {old r : List ℕ} {slot left : ℕ} (some : 0 < left) (turn : Turn t low n old r slot left) where
  pub here : AtCell t left slot
  here = at_cell some turn.on

  pub cell : IsSoundCell (record_in t slot)
  cell = cell_is (record_in t slot) here.is_sound

  pub good_box : (b : ShiftedBox) → box_of b ≡ (record_in t slot).box → Good (box_of b)
  good_box b is = subst⁻¹ Good is cell.good

  rest : SoFar n old r (areas_of low (record_in t slot ∷ chain (left - 1) t (next_in t slot))) (areas_of low (records_in t))
  rest = subst (λ (x : List Record). SoFar n old r (areas_of low x) (areas_of low (records_in t))) here.splits turn.sofar

  small : (k s : ℕ) → k < n → areas_of low (records_in t) k s ≤ 9223372036854775808
  small k s h =
      let z : ℤ = unshifted (low + k) in
      omega (arith, area_le s z (records_in t), crossing_le z (records_in t) turn.sound.cells, turn.sound.small)

  module _ {b : ShiftedBox} {state v first end : ℕ} (got : Got t low n slot b state v first end) where
    v_is : v ≡ area (record_in t slot).box
    v_is = got.area_is ∙ ap area got.box_is

    column_is : state - 1 ≡ (record_in t slot).state - 1
    column_is = ap (λ (x : ℕ). x - 1) got.state_is

    pub a_state : 1 ≤ state
    a_state = omega (arith, cell.least, got.state_is)

    pub column_below : state - 1 < 3
    column_below = omega (arith, cell.least, cell.most, got.state_is)

    pub fitting : Fitting (end - first) first (state - 1) v r
    fitting =
        transport (λ i. Fitting (sym got.end_is i - sym got.first_is i) (sym got.first_is i) (sym column_is i) (sym v_is i) r)
        (one_fits n low old (record_in t slot) (chain (left - 1) t (next_in t slot)) b cell got.box_is (areas_of low (records_in t)) small r rest)

    after_one : {u : List ℕ} {next : ℕ} → u ≡ added_to (end - first) first (state - 1) v r → next ≡ next_in t slot → Turn t low n old u next (left - 1)
    after_one {u} {next} added named =
        let low-z : ℕ = layers_below b.z.low low n in
        let is : u ≡ added_to (layers_below b.z.high low n - low-z) low-z ((record_in t slot).state - 1) (area (record_in t slot).box) r =
        added ∙ (λ i. added_to (got.end_is i - got.first_is i) (got.first_is i) (column_is i) (v_is i) r) in
        record {
          sound = turn.sound;
          layers = turn.layers;
          enough = turn.enough;
          long = ap length added ∙ length_added (end - first) first (state - 1) v r ∙ turn.long;
          on = subst⁻¹ (OnChain t (left - 1)) named here.next;
          sofar = transport (λ i. SoFar n old (sym is i) (areas_of low (chain (left - 1) t (sym named i))) (areas_of low (records_in t)))
              (one_more n low old (record_in t slot) (chain (left - 1) t (next_in t slot)) b cell got.box_is (areas_of low (records_in t)) small r rest);
        }

    pub next_turn : {u : List ℕ} {next fewer : ℕ} → u ≡ added_to (end - first) first (state - 1) v r → next ≡ next_in t slot → left - 1 ≡ fewer
        → Turn t low n old u next fewer
    next_turn {u} {next} added named less =
        subst (Turn t low n old u next) less (after_one added named)

-- ---- before the first turn the layers are clear, and the later bytes are as they were
kept : (n : ℕ) (entry : List ℕ) {r : List ℕ} → r ≡ replicate (24 * n) 0 ++ drop (24 * n) entry → drop (24 * n) r ≡ drop (24 * n) entry
kept n entry e =
    let z : ℕ = 0 in
    ap (drop (24 * n)) e ∙ drop_at (replicate (24 * n) z) (drop (24 * n) entry) (24 * n) (length-replicate (24 * n) z)

pub first_turn : (t : List ℕ) (low n : ℕ) (entry : List ℕ) {r : List ℕ} {slot left : ℕ} → sound_of t ≡ true → low + n ≤ 2097152 → 24 * n ≤ length entry
    → r ≡ replicate (24 * n) 0 ++ drop (24 * n) entry → slot ≡ first_in t → left ≡ cells_in t → Turn t low n r r slot left
first_turn t low n entry {r} {slot} {left} s h k e f g =
    let z : ℕ = 0 in
    let all : ℕ → ℕ → ℕ = areas_of low (records_in t) in
    let clear : r ≡ bytes_of (threes n (λ k s. 0)) ++ drop (24 * n) r =
    e ∙ (λ i. threes_none n i ++ sym (kept n entry e) i) in
    let long : length r ≡ length entry =
    ap length e
    ∙ omega (arith, length-append (replicate (24 * n) z) (drop (24 * n) entry), length-replicate (24 * n) z, length-drop (24 * n) entry) in
    record {
      sound = sound_is t s;
      layers = h;
      enough = omega arith;
      long = refl;
      on = on_first t s g f;
      sofar = subst⁻¹ (λ (x : List Record). SoFar n r r (areas_of low x) all) (λ i. chain (g i) t (f i))
          (record { words = λ k s. 0; bytes = clear; adds = λ k s h. omega arith });
    }

-- after the last the bytes are the report
pub last_turn : {t : List ℕ} {low n : ℕ} (entry : List ℕ) {old r : List ℕ} {slot left : ℕ} → old ≡ replicate (24 * n) 0 ++ drop (24 * n) entry → left ≤ 0
    → Turn t low n old r slot left → r ≡ report_of (records_in t) n (unshifted low) entry
unfolding report_of
last_turn {t} {low} {n} entry {old} {r} {slot} {left} e h turn =
    let all : ℕ → ℕ → ℕ = areas_of low (records_in t) in
    let done : SoFar n old r (areas_of low []) all = subst (λ (x : List Record). SoFar n old r (areas_of low x) all) (chain_end_lem left t slot h) turn.sofar in
    let words = threes_same n done.words (λ k s. area_in s (unshifted low +ℤ pos k) (records_in t))
    (λ k s l. omega (arith, done.adds k s l, area_none s (unshifted (low + k))) ∙ ap (λ (z : ℤ). area_in s z (records_in t)) (unshifted_add low k)) in
    done.bytes ∙ (λ i. bytes_of ((words ∙ sym (areas_are n (unshifted low) (records_in t))) i) ++ kept n entry e i)
