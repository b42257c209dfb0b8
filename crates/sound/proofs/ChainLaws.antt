-- A sound table by the parts of its definition, and its chain from cell to cell, as a loop follows it. Assumes nothing.
use mathlib.Core.Path.{◌≡◌, refl, sym, ap, ◌∙◌, subst, subst⁻¹}
use mathlib.Core.Bool.{Bool, true, ◌&&◌}
use mathlib.Core.List.{List, [], ◌∷◌}
use Prim.Native.Nat.{ℕ, zero, suc, ◌+◌, ◌-◌, ◌*◌, ◌≤◌, ◌<◌}
use native.Mathlib.Omega.{arith}
use lib.Dec.{leb}
use lib.ListN.{length}
use borrow.Author.Tests.{leb-true, eqb-true, le-leb, eq-eqb}
use Rattle.limits.proofs.TestLaws.{two}
use Rattle.tree.specs.Box.{volume}
use Rattle.table.specs.Table.{Record}
use Rattle.table.specs.Read.{first_in, cells_in, next_in, record_in, records_in, chain, chain_end}
use Rattle.table.proofs.ReadLaws.{chain_step, chain_more}
use Rattle.sound.specs.Slots.{slots_in, one_to, each_once}
use Rattle.sound.specs.Sound.{sound_cell, sound_cells, volumes, records_some, visits_each, inside_buffer, ends_in_zero, sound_of}
use Rattle.sound.proofs.Pigeonhole.{all_one_to}
use Rattle.sound.proofs.OnceLaws.{visits_all}
use Rattle.sound.proofs.CellLaws.{IsSoundCell, cell_is, is_cell}

-- ---- the parts of the definition
pub record IsSound (t : List ℕ) : Type 0 where
  pub some : 1 ≤ cells_in t
  pub once : each_once (cells_in t) (slots_in (cells_in t) t (first_in t)) ≡ true
  pub room : 32 * (cells_in t + 1) ≤ length t
  pub ends : chain_end (cells_in t) t (first_in t) ≡ 0
  pub cells : sound_cells (records_in t) ≡ true
  pub small : volumes (records_in t) ≤ 9223372036854775808

pub sound_is : (t : List ℕ) → sound_of t ≡ true → IsSound t
unfolding sound_of
sound_is t e =
    let cells : Bool = sound_cells (records_in t) in
    let (h, v) = two (records_some t && visits_each t && inside_buffer t && ends_in_zero t && cells) (leb (volumes (records_in t)) 9223372036854775808) e in
    let (h, c) = two (records_some t && visits_each t && inside_buffer t && ends_in_zero t) cells h in
    let (h, z) = two (records_some t && visits_each t && inside_buffer t) (ends_in_zero t) h in
    let (h, r) = two (records_some t && visits_each t) (inside_buffer t) h in
    let (s, o) = two (records_some t) (visits_each t) h in
    record {
      some = leb-true 1 (cells_in t) s;
      once = o;
      room = leb-true (32 * (cells_in t + 1)) (length t) r;
      ends = eqb-true (chain_end (cells_in t) t (first_in t)) 0 z;
      cells = c;
      small = leb-true (volumes (records_in t)) 9223372036854775808 v;
    }

pub is_sound : (t : List ℕ) → IsSound t → sound_of t ≡ true
unfolding sound_of
is_sound t s =
    λ i. le-leb 1 (cells_in t) s.some i && s.once i && le-leb (32 * (cells_in t + 1)) (length t) s.room i
    && eq-eqb (chain_end (cells_in t) t (first_in t)) 0 s.ends i && s.cells i && le-leb (volumes (records_in t)) 9223372036854775808 s.small i

-- ---- sound cells, one by one
pub first_cell : (m : Record) (ms : List Record) → sound_cells (m ∷ ms) ≡ true → IsSoundCell m × (sound_cells ms ≡ true)
unfolding sound_cells
first_cell m ms e = let (f, fs) = two (sound_cell m) (sound_cells ms) e in (cell_is m f, fs)

pub one_cell_more : (m : Record) (ms : List Record) → IsSoundCell m → sound_cells ms ≡ true → sound_cells (m ∷ ms) ≡ true
unfolding sound_cells
one_cell_more m ms f fs = λ i. is_cell m f i && fs i

pub no_cells : sound_cells [] ≡ true
unfolding sound_cells
no_cells = refl

-- ---- their volumes, one by one
pub volumes_none : volumes [] ≡ 0
unfolding volumes
volumes_none = refl

pub volumes_more : (m : Record) (ms : List Record) → volumes (m ∷ ms) ≡ volume m.box + volumes ms
unfolding volumes
volumes_more m ms = refl

-- ---- a loop along the chain: so many cells are left from a slot on
pub record OnChain (t : List ℕ) (left slot : ℕ) : Type 0 where
  pub room : 32 * (cells_in t + 1) ≤ length t
  pub slots : all_one_to (cells_in t) (slots_in left t slot) ≡ true
  pub cells : sound_cells (chain left t slot) ≡ true

pub on_first : (t : List ℕ) → sound_of t ≡ true → {left slot : ℕ} → left ≡ cells_in t → slot ≡ first_in t → OnChain t left slot
on_first t e {left} {slot} f g =
    let s = sound_is t e in
    subst⁻¹ (λ (k : ℕ). OnChain t k slot) f (subst⁻¹ (OnChain t (cells_in t)) g
    (record { room = s.room; slots = visits_all (cells_in t) t (first_in t) s.once; cells = s.cells }))

-- the cell at the slot, and the next
pub record AtCell (t : List ℕ) (left slot : ℕ) : Type 0 where
  pub fits : 32 * (slot + 1) ≤ length t
  pub is_sound : sound_cell (record_in t slot) ≡ true
  pub splits : chain left t slot ≡ record_in t slot ∷ chain (left - 1) t (next_in t slot)
  pub next : OnChain t (left - 1) (next_in t slot)

pub at_cell : {t : List ℕ} {left slot : ℕ} → 0 < left → OnChain t left slot → AtCell t left slot
unfolding slots_in all_one_to
at_cell {left = zero} h o = absurd (omega arith)
at_cell {t} {left = suc left} {slot} h o =
    let (w, ws) = two (one_to (cells_in t) slot) (all_one_to (cells_in t) (slots_in left t (next_in t slot))) o.slots in
    let (a, b) = two (leb 1 slot) (leb slot (cells_in t)) w in
    let behind : List Record = chain left t (next_in t slot) in
    let (f, fs) = first_cell (record_in t slot) behind (ap sound_cells (sym (chain_more left t slot)) ∙ o.cells) in
    let below = leb-true slot (cells_in t) b in
    let e : left ≡ suc left - 1 = omega arith in
    record {
      fits = omega (arith, o.room);
      is_sound = is_cell (record_in t slot) f;
      splits = chain_step (suc left) t slot h;
      next = subst (λ (k : ℕ). OnChain t k (next_in t slot)) e (record { room = o.room; slots = ws; cells = fs });
    }
