-- What is read from the bytes of a table is what was written. Assumes nothing.
use mathlib.Core.Path.{◌≡◌, refl, sym, ap, ◌∙◌, subst}
use mathlib.Core.List.{List, [], ◌∷◌, ◌++◌, append_assoc}
use mathlib.Core.Logic.{⊎_elim}
use Prim.Native.Nat.{ℕ, suc, ◌+◌, ◌-◌, ◌*◌, ◌≤◌, ◌<◌}
use native.Mathlib.Numerals.{add-one}
use native.Mathlib.Omega.{arith}
use native.Mathlib.Nat.{eq-or-lt_of_le}
use borrow.Author.Tests.{eq-eqb, ne_eqb}
use lib.ListN.{length, drop, replicate}
use lib.Seq.{drop-drop, drop_at}
use Rattle.table.specs.declared.Head.{Head}
use Rattle.table.specs.Table.{Record, head_bytes, cell_bytes, next_slot, cells_bytes, table_bytes}
use Rattle.table.specs.Read.{first_in, cells_in, head_in, next_in, TwoZeros, chain, chain_end}
use Rattle.table.specs.Bounds.{HeadFits, AllFit}
use Rattle.table.specs.Told.{Told}
use Rattle.table.proofs.Slots.{length_head, length_cell}
use Rattle.table.proofs.Fronts.{head_front, next_at, record_at, zeros_at}

-- the chain of cells that stand in a list from a slot on
record Chained (t : List ℕ) (slot : ℕ) (ms : List Record) : Type 0 where
  records_are : chain (length ms) t slot ≡ ms
  ends : 0 < length ms → chain_end (length ms) t slot ≡ 0

-- the cells behind the first of a list stand from the next slot on
behind : (t rest : List ℕ) (total slot : ℕ) (m : Record) (ms : List Record) → drop (32 * slot) t ≡ cells_bytes total slot (m ∷ ms) ++ rest
    → let later = cells_bytes total (suc slot) ms ++ rest in
    (drop (32 * slot) t ≡ cell_bytes (next_slot total slot) m ++ later) × (drop (32 * suc slot) t ≡ later)
unfolding cells_bytes
behind t rest total slot m ms e =
    let first : List ℕ = cell_bytes (next_slot total slot) m in
    let later : List ℕ = cells_bytes total (suc slot) ms ++ rest in
    let front : drop (32 * slot) t ≡ first ++ later = e ∙ append_assoc first (cells_bytes total (suc slot) ms) rest in
    let step : 32 * suc slot ≡ 32 * slot + 32 = omega arith in (
      front,
      ap (λ (j : ℕ). drop j t) step ∙ sym (drop-drop 32 (32 * slot) t) ∙ ap (λ (x : List ℕ). drop 32 x) front
          ∙ drop_at first later 32 (length_cell (next_slot total slot) m),
    )

-- the two zeros of each
zeros_in : (t rest : List ℕ) (total slot : ℕ) (ms : List Record) (i : ℕ) → slot ≤ i → i < slot + length ms
    → drop (32 * slot) t ≡ cells_bytes total slot ms ++ rest → TwoZeros t i
zeros_in t rest total slot [] i l h e = absurd (omega arith)
zeros_in t rest total slot (m ∷ ms) i l h e =
    let b = behind t rest total slot m ms e in
    ⊎_elim (λ k. subst (TwoZeros t) k (zeros_at t _ slot _ m b.0)) (λ k. zeros_in t rest total (suc slot) ms i k (omega arith) b.1) (eq-or-lt_of_le l)

-- the slots that they name
names_next : (t later : List ℕ) (total slot : ℕ) (m : Record) → slot < total → total < 4294967296
    → drop (32 * slot) t ≡ cell_bytes (next_slot total slot) m ++ later → next_in t slot ≡ suc slot
names_next t later total slot m h few e =
    let next : next_slot total slot ≡ suc slot = rw (ne_eqb slot total (λ q. omega arith)) (add-one slot) in
    next_at t later slot (next_slot total slot) m e (omega arith) ∙ next

goes_in : (t rest : List ℕ) (total slot : ℕ) (ms : List Record) (i : ℕ) → slot ≤ i → i < slot + length ms → i < total → total < 4294967296
    → drop (32 * slot) t ≡ cells_bytes total slot ms ++ rest → next_in t i ≡ suc i
goes_in t rest total slot [] i l h below few e = absurd (omega arith)
goes_in t rest total slot (m ∷ ms) i l h below few e =
    let b = behind t rest total slot m ms e in
    ⊎_elim (λ k. subst (λ (j : ℕ). next_in t j ≡ suc j) k (names_next t _ total slot m (omega arith) few b.0))
    (λ k. goes_in t rest total (suc slot) ms i k (omega arith) below few b.1) (eq-or-lt_of_le l)

chained : (t rest : List ℕ) (total slot : ℕ) (ms : List Record) → AllFit ms → slot + length ms ≡ total + 1 → total < 4294967296
    → drop (32 * slot) t ≡ cells_bytes total slot ms ++ rest → Chained t slot ms
unfolding chain chain_end cells_bytes
chained t rest total slot [] g n h e = record { records_are = refl; ends = λ p. absurd (omega arith) }
chained t rest total slot (m ∷ []) g n h e =
    let here : slot ≡ total = omega arith in
    let next : next_slot total slot ≡ 0 = rw (eq-eqb slot total here) in
    let front = e ∙ append_assoc (cell_bytes (next_slot total slot) m) [] rest in
    record {
      records_are = ap (λ (x : Record). x ∷ []) (record_at t rest slot (next_slot total slot) m front g.0);
      ends = λ p. next_at t rest slot (next_slot total slot) m front (omega arith) ∙ next;
    }
chained t rest total slot (m ∷ k ∷ ms) g n h e =
    let b = behind t rest total slot m (k ∷ ms) e in
    let goes = names_next t _ total slot m (omega arith) h b.0 in
    let others = chained t rest total (suc slot) (k ∷ ms) g.1 (omega arith) h b.1 in
    record {
      records_are = (λ i. record_at t _ slot (next_slot total slot) m b.0 g.0 i ∷ chain (length (k ∷ ms)) t (goes i))
          ∙ ap (λ (x : List Record). m ∷ x) others.records_are;
      ends = λ p. ap (λ (j : ℕ). chain_end (length (k ∷ ms)) t j) goes ∙ others.ends (omega arith);
    }

pub told : (len : ℕ) (h : Head) (ms : List Record) → HeadFits h → AllFit ms → h.first ≡ 1 → h.cells ≡ length ms → Told (table_bytes len h ms) h ms
unfolding table_bytes
told len h ms f g e n =
    let head : List ℕ = head_bytes h in
    let cells : List ℕ = cells_bytes (length ms) 1 ms in
    let zeros : List ℕ = replicate (len - 32 * (length ms + 1)) 0 in
    let t : List ℕ = head ++ cells ++ zeros in
    let front : t ≡ head ++ (cells ++ zeros) = append_assoc head cells zeros in
    let read : head_in t ≡ h = ap head_in front ∙ head_front h (cells ++ zeros) f in
    let first : first_in t ≡ 1 = ap (λ (k : Head). k.first) read ∙ e in
    let many : cells_in t ≡ length ms = ap (λ (k : Head). k.cells) read ∙ n in
    let on : drop 32 t ≡ cells ++ zeros = ap (λ (x : List ℕ). drop 32 x) front ∙ drop_at head (cells ++ zeros) 32 (length_head h) in
    let all = chained t zeros (length ms) 1 ms g (omega arith) (omega (arith, n, f.cells)) on in
    record {
      head_is = read;
      records_are = (λ i. chain (many i) t (first i)) ∙ all.records_are;
      goes_on = λ slot l h. goes_in t zeros (length ms) 1 ms slot l (omega arith) (omega arith) (omega (arith, n, f.cells)) on;
      ends = λ p. (λ i. chain_end (many i) t (first i)) ∙ all.ends p;
      zeros = λ slot l h. zeros_in t zeros (length ms) 1 ms slot l (omega arith) on;
    }
