-- The lines of a chain's cells, written one by one. Assumes nothing.
use mathlib.Core.Path.{◌≡◌, refl, sym, ap, ◌∙◌}
use mathlib.Core.List.{List, [], ◌++◌, append_assoc}
use Prim.Native.Nat.{ℕ, ◌+◌, ◌-◌, ◌*◌, ◌≤◌, ◌<◌}
use native.Mathlib.Omega.{arith}
use lib.ListN.{length, length-append}
use Rattle.std.proofs.Common.{append-nil}
use Rattle.table.specs.Read.{chain, next_in, record_in}
use Rattle.text.specs.declared.print.Text.{Text}
use Rattle.text.specs.Appended.{Appended}
use Rattle.text.specs.Listing.{cell_line, cell_lines}
use Rattle.text.proofs.AppendLaws.{as_appended, then_appended}
use Rattle.text.proofs.ListingLaws.{cells_end, cells_step}

-- of n cells of the table t, in the order of its chain from the slot `first` on, the lines of k are written; the others begin at `slot`
pub record Begun (before now : Text) (t : List ℕ) (first n k slot : ℕ) : Type 0 where
  pub lines : List ℕ
  pub written : Appended before lines now
  pub others : lines ++ cell_lines (chain (n - k) t slot) ≡ cell_lines (chain n t first)

pub none_yet : (l : Text) (t : List ℕ) (first n : ℕ) → Begun l l t first n 0 first
none_yet l t first n =
    let all : n - 0 ≡ n = omega arith in
    record {
      lines = [];
      written = record { written = refl; at_is = omega arith; lent = refl };
      others = ap (λ (j : ℕ). cell_lines (chain j t first)) all;
    }

module _ {l m : Text} {t : List ℕ} {first n k slot : ℕ} (b : Begun l m t first n k slot) where
  step : k < n → {next : ℕ} → next ≡ next_in t slot
      → (b.lines ++ cell_line (record_in t slot)) ++ cell_lines (chain (n - (k + 1)) t next) ≡ cell_lines (chain n t first)
  step h {next} e =
      let less : n - (k + 1) ≡ n - k - 1 = omega arith in
      append_assoc b.lines (cell_line (record_in t slot)) (cell_lines (chain (n - (k + 1)) t next))
      ∙ ap (λ (j : ℕ). b.lines ++ (cell_line (record_in t slot) ++ cell_lines (chain j t next))) less
      ∙ ap (λ (x : List ℕ). b.lines ++ x) (sym (cells_step (n - k) t slot (omega arith) e))
      ∙ b.others

  -- the line of the cell in the slot has room where all lines have
  pub room : k < n → {most : ℕ} → l.at + length (cell_lines (chain n t first)) ≤ most → m.at + length (cell_line (record_in t slot)) ≤ most
  room h e =
      let line = cell_line (record_in t slot) in
      let rest = cell_lines (chain (n - (k + 1)) t (next_in t slot)) in
      omega (arith, e, b.written.at_is, ap length (step h {next = next_in t slot} refl), length-append (b.lines ++ line) rest, length-append b.lines line)

  pub one_more : k < n → {r : Text} {next : ℕ} → Appended m (cell_line (record_in t slot)) r → next ≡ next_in t slot → Begun l r t first n (k + 1) next
  one_more h a e = record { lines = b.lines ++ cell_line (record_in t slot); written = then_appended _ _ b.written a; others = step h e }

  pub all_written : n ≤ k → Appended l (cell_lines (chain n t first)) m
  all_written h =
      let none = cells_end (n - k) t slot (omega arith) in
      as_appended (sym b.others ∙ ap (λ (x : List ℕ). b.lines ++ x) none ∙ append-nil b.lines) b.written

-- ---- a slot that the table does not have lies past its end, where zeros are read
pub past : (t : List ℕ) {slot : ℕ} → length t ≡ 65536 → 2048 ≤ slot → length t ≤ 32 * slot
past t size h = omega (arith, size, h)
