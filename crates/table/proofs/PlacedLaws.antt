-- Cells put in their slots: one, those of two halves one after the other, and those of a whole table. Assumes nothing.
use mathlib.Core.Path.{◌≡◌, refl, sym, ap, ◌∙◌}
use mathlib.Core.Bool.{Bool, false, cond}
use mathlib.Core.List.{List, [], ◌∷◌, ◌++◌, append-nil}
use Prim.Native.Nat.{ℕ, suc, ◌+◌, ◌-◌, ◌*◌, ◌≤◌}
use native.Mathlib.Nat.{add-zero, add-suc, suc-add}
use native.Mathlib.Numerals.{add-one}
use native.Mathlib.Omega.{arith}
use borrow.Author.Tests.{eq-eqb, ne_eqb}
use lib.ListN.{length}
use lib.Seq.{sets}
use Rattle.table.specs.Table.{Record, cell_bytes, next_slot, cells_bytes}
use Rattle.table.specs.Placed.{placed}
use Rattle.table.proofs.Stores.{sets_then}
use Rattle.table.proofs.Slots.{length_cell}

-- two lists, neither empty: the first of the second goes to the slot behind the first list's
placed_append : (t : List ℕ) (slot fresh after : ℕ) (x : Record) (xs : List Record) (y : Record) (ys : List Record)
    → placed t slot fresh after ((x ∷ xs) ++ (y ∷ ys))
    ≡ placed (placed t slot fresh (fresh + length xs) (x ∷ xs)) (fresh + length xs) (suc (fresh + length xs)) after (y ∷ ys)
unfolding placed
placed_append t slot fresh after x [] y ys =
    ap (λ (k : ℕ). placed (sets t (32 * slot) (cell_bytes k x)) k (suc k) after (y ∷ ys)) (sym (add-zero fresh))
placed_append t slot fresh after x (z ∷ xs) y ys =
    let here = sets t (32 * slot) (cell_bytes fresh x) in
    placed_append here fresh (suc fresh) after z xs y ys
    ∙ ap (λ (k : ℕ). placed (placed here fresh (suc fresh) k (z ∷ xs)) k (suc k) after (y ∷ ys)) (suc-add fresh (length xs) ∙ sym (add-suc fresh (length xs)))

module _ (t : List ℕ) (slot fresh : ℕ) (last : Bool) (after : ℕ) where
  -- the writer at a cell
  pub placed_cell : {next n : ℕ} {m : Record} {r : List ℕ} {ms : List Record} → r ≡ sets t (32 * slot) (cell_bytes next m) → next ≡ cond last after fresh
      → n ≡ 1 → ms ≡ m ∷ [] → r ≡ placed t slot fresh (cond last after (fresh + n - 1)) ms
  unfolding placed
  placed_cell {n} e f one g =
      let same : fresh + n - 1 ≡ fresh = omega arith in
      rw (g, same, ← f) e

  -- the writer at two halves of n and p cells: those of the lower, whose last is not the last of all, and then those of the upper
  pub placed_halves : {mid n p q : ℕ} {l r : List ℕ} (xs ys : List Record) {ms : List Record} → length xs ≡ n → length ys ≡ p → 1 ≤ n → 1 ≤ p → q ≡ n + p
      → mid ≡ fresh + n - 1 → ms ≡ xs ++ ys → l ≡ placed t slot fresh (cond false after (fresh + n - 1)) xs
      → r ≡ placed l mid (mid + 1) (cond last after (mid + 1 + p - 1)) ys
      → r ≡ placed t slot fresh (cond last after (fresh + q - 1)) ms
  placed_halves [] ys en ep n1 p1 eq em es e f = absurd (omega arith)
  placed_halves (x ∷ xs) [] en ep n1 p1 eq em es e f = absurd (omega arith)
  placed_halves {mid} {n} {p} {q} {l} {r} (x ∷ xs) (y ∷ ys) {ms} en ep n1 p1 eq em es e f =
      let here : fresh + n - 1 ≡ fresh + length xs = omega arith in
      let at : mid ≡ fresh + length xs = omega arith in
      let next : mid + 1 ≡ suc (fresh + length xs) = omega arith in
      let end : mid + 1 + p - 1 ≡ fresh + q - 1 = omega arith in
      let lower = e ∙ ap (λ (k : ℕ). placed t slot fresh k (x ∷ xs)) here in
      let name : ℕ = cond last after (fresh + q - 1) in
      f ∙ (λ i. placed (lower i) (at i) (next i) (cond last after (end i)) (y ∷ ys))
      ∙ sym (placed_append t slot fresh name x xs y ys) ∙ ap (placed t slot fresh name) (sym es)

-- a table's cells, in the slots 1, 2, ..
pub placed_cells : (t : List ℕ) (total slot : ℕ) (ms : List Record) → slot + length ms ≡ total + 1
    → placed t slot (suc slot) 0 ms ≡ sets t (32 * slot) (cells_bytes total slot ms)
unfolding placed cells_bytes
placed_cells t total slot [] h = refl
placed_cells t total slot (m ∷ []) h =
    let here : slot ≡ total = omega arith in
    rw (eq-eqb slot total here, append-nil (cell_bytes 0 m))
placed_cells t total slot (m ∷ n ∷ ms) h =
    let next : next_slot total slot ≡ suc slot = rw (ne_eqb slot total (λ q. omega arith)) (add-one slot) in
    let others : List ℕ = cells_bytes total (suc slot) (n ∷ ms) in
    sets_then t (32 * slot) (cell_bytes (suc slot) m) others refl
    (placed_cells (sets t (32 * slot) (cell_bytes (suc slot) m)) total (suc slot) (n ∷ ms) (omega arith)) (omega (arith, length_cell (suc slot) m))
    ∙ ap (λ (k : ℕ). sets t (32 * slot) (cell_bytes k m ++ others)) (sym next)
