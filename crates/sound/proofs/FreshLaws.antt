-- A table that tells its cells in slots 1, 2, ... is sound, where its cells are and their volumes are at most 2^63. Assumes nothing.
use mathlib.Core.Path.{◌≡◌, refl, ap, ◌∙◌, subst⁻¹}
use mathlib.Core.Bool.{true, ◌&&◌}
use mathlib.Core.List.{List}
use Prim.Native.Nat.{ℕ, zero, suc, ◌+◌, ◌*◌, ◌≤◌}
use native.Mathlib.Omega.{arith}
use lib.ListN.{length}
use borrow.Author.Tests.{le-leb}
use Rattle.table.specs.declared.Head.{Head}
use Rattle.table.specs.Table.{Record}
use Rattle.table.specs.Read.{first_in, cells_in, next_in}
use Rattle.table.specs.Told.{Told}
use Rattle.sound.specs.Slots.{slots_in}
use Rattle.sound.specs.Sound.{sound_cells, volumes, sound_of}
use Rattle.sound.proofs.Pigeonhole.{all_one_to}
use Rattle.sound.proofs.OnceLaws.{visits_once}
use Rattle.sound.proofs.ChainLaws.{is_sound}

-- the slots from one on up to the last, each named by the one before it
in_order : (n : ℕ) (t : List ℕ) → ((slot : ℕ) → 1 ≤ slot → slot + 1 ≤ n → next_in t slot ≡ suc slot)
    → (left slot : ℕ) → 1 ≤ slot → slot + left ≡ n + 1 → all_one_to n (slots_in left t slot) ≡ true
unfolding slots_in all_one_to
in_order n t next zero slot h e = refl
in_order n t next (suc zero) slot h e = λ i. le-leb 1 slot h i && le-leb slot n (omega arith) i && true
in_order n t next (suc (suc left)) slot h e =
    let goes = next slot h (omega arith) in
    let rest : all_one_to n (slots_in (suc left) t (next_in t slot)) ≡ true =
    ap (λ (s : ℕ). all_one_to n (slots_in (suc left) t s)) goes ∙ in_order n t next (suc left) (suc slot) (omega arith) (omega arith) in
    λ i. le-leb 1 slot h i && le-leb slot n (omega arith) i && rest i

pub told_sound : {t : List ℕ} {h : Head} {ms : List Record} → Told t h ms → h.first ≡ 1 → h.cells ≡ length ms → 1 ≤ length ms
    → 32 * (length ms + 1) ≤ length t → sound_cells ms ≡ true → volumes ms ≤ 9223372036854775808 → sound_of t ≡ true
told_sound {t} {h} {ms} r one many some room cells small =
    let first : first_in t ≡ 1 = ap (λ (k : Head). k.first) r.head_is ∙ one in
    let n : cells_in t ≡ length ms = ap (λ (k : Head). k.cells) r.head_is ∙ many in
    let slots : all_one_to (cells_in t) (slots_in (cells_in t) t (first_in t)) ≡ true =
    ap (λ (s : ℕ). all_one_to (cells_in t) (slots_in (cells_in t) t s)) first
    ∙ in_order (cells_in t) t (λ slot l b. r.goes_on slot l (omega arith)) (cells_in t) 1 (omega arith) (omega arith) in
    is_sound t (record {
      some = omega arith;
      once = visits_once (cells_in t) t (first_in t) (r.ends (omega arith)) slots;
      room = omega arith;
      ends = r.ends (omega arith);
      cells = ap sound_cells r.records_are ∙ cells;
      small = subst⁻¹ (λ (l : List Record). volumes l ≤ 9223372036854775808) r.records_are small;
    })
