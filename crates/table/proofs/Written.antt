-- The whole table: its length, and that it is what the cells, zeros behind them and slot 0 make of any table. Assumes nothing.
use mathlib.Core.Path.{◌≡◌, sym, ap, ◌∙◌}
use mathlib.Core.List.{List, [], ◌++◌, append_assoc, append-nil}
use Prim.Native.Nat.{ℕ, ◌+◌, ◌-◌, ◌*◌, ◌≤◌}
use native.Mathlib.Omega.{arith}
use lib.ListN.{length, take, drop, replicate, length-append, length-replicate}
use lib.Seq.{sets, sets-eq, drop_at, drop-length, length-take-le, length-sets}
use Rattle.table.specs.declared.Head.{Head}
use Rattle.table.specs.Table.{Record, head_bytes, cells_bytes, table_bytes}
use Rattle.table.proofs.Stores.{sets_then}
use Rattle.table.proofs.Slots.{length_head, length_cells_bytes}

pub length_table : (len : ℕ) (h : Head) (ms : List Record) → 32 * (length ms + 1) ≤ len → length (table_bytes len h ms) ≡ len
unfolding table_bytes
length_table len h ms fits =
    let head : List ℕ = head_bytes h in
    let cells : List ℕ = cells_bytes (length ms) 1 ms in
    let zeros : List ℕ = replicate (len - 32 * (length ms + 1)) 0 in
    let more : length zeros ≡ len - 32 * (length ms + 1) = length-replicate (len - 32 * (length ms + 1)) 0 in
    omega (
      arith,
      length-append (head ++ cells) zeros,
      length-append head cells,
      length_head h,
      length_cells_bytes (length ms) 1 ms,
    )

-- every byte set to zero
pub zeroed : (t : List ℕ) {r : List ℕ} → r ≡ sets t 0 (replicate (length t - 0) 0) → r ≡ replicate (length t) 0
zeroed t e =
    let z : ℕ = 0 in
    let zeros : List ℕ = replicate (length t) 0 in
    let all : length t - 0 ≡ length t = omega arith in
    let many : length zeros ≡ length t = length-replicate (length t) 0 in
    let long : 0 + length zeros ≡ length t = omega arith in
    let none : drop (0 + length zeros) t ≡ [] = ap (λ (k : ℕ). drop k t) long ∙ drop-length t in
    e ∙ ap (λ (k : ℕ). sets t 0 (replicate k z)) all ∙ sets-eq zeros t 0 (omega arith) ∙ ap (λ (l : List ℕ). zeros ++ l) none ∙ append-nil zeros

-- the cells are written, the bytes behind them are set to zero, and slot 0 is written
pub written : (total : ℕ) (h : Head) (ms : List Record) (t : List ℕ) {c z r : List ℕ} → c ≡ sets t 32 (cells_bytes total 1 ms)
    → z ≡ sets c (32 * (total + 1)) (replicate (length c - 32 * (total + 1)) 0) → r ≡ sets z 0 (head_bytes h)
    → length ms ≡ total → 32 * (total + 1) ≤ length t → r ≡ table_bytes (length t) h ms
unfolding table_bytes
written total h ms t {c} {z} {r} ec ez er n fits =
    let same : length c ≡ length t = ap length ec ∙ length-sets t 32 (cells_bytes total 1 ms) in
    let head : List ℕ = head_bytes h in
    let cells : List ℕ = cells_bytes total 1 ms in
    let zeros : List ℕ = replicate (length c - 32 * (total + 1)) 0 in
    let front : List ℕ = take 32 t in
    let cells-long : length cells ≡ 32 * total = length_cells_bytes total 1 ms ∙ ap (λ (k : ℕ). 32 * k) n in
    let zeros-long : length zeros ≡ length c - 32 * (total + 1) = length-replicate (length c - 32 * (total + 1)) 0 in
    let rest-long : 32 + length (cells ++ zeros) ≡ length t = omega (arith, length-append cells zeros) in
    let none : drop (32 + length (cells ++ zeros)) t ≡ [] = ap (λ (k : ℕ). drop k t) rest-long ∙ drop-length t in
    let end : 0 + length head ≡ 32 = omega (arith, length_head h) in
    let front32 : length front ≡ 32 = length-take-le 32 t (omega arith) in
    let with_rest : z ≡ front ++ (cells ++ zeros) =
    sets_then t 32 cells zeros ec ez (omega arith) ∙ sets-eq (cells ++ zeros) t 32 (omega arith)
    ∙ ap (λ (l : List ℕ). front ++ (cells ++ zeros) ++ l) none ∙ append-nil (front ++ (cells ++ zeros)) in
    er ∙ ap (λ (l : List ℕ). sets l 0 head) with_rest ∙ sets-eq head (front ++ (cells ++ zeros)) 0 (omega (arith, length-append front (cells ++ zeros)))
    ∙ ap (λ (l : List ℕ). head ++ l) (ap (λ (k : ℕ). drop k (front ++ (cells ++ zeros))) end ∙ drop_at front (cells ++ zeros) 32 front32)
    ∙ sym (append_assoc head cells zeros)
    ∙ (λ i. head ++ cells_bytes (sym n i) 1 ms ++ replicate (same i - 32 * (sym n i + 1)) 0)
