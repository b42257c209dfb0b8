-- Following the chain from cell to cell says what the definition does. What is left of the chain passes or not: so many cells from a slot on, behind
-- cells of some volume. Here stands what that is, that from the first cell on it is the definition, and a law for each test of the loop. Assumes
-- nothing.
use mathlib.Core.Path.{◌≡◌, refl, sym, ap, ◌∙◌}
use mathlib.Core.Bool.{Bool, true, false, ◌&&◌, and-true, and-false}
use mathlib.Core.List.{List}
use Prim.Native.Nat.{ℕ, zero, suc, ◌+◌, ◌-◌, ◌*◌, ◌/◌, ◌≤◌, ◌<◌}
use native.Mathlib.Nat.{zero-add}
use native.Mathlib.Omega.{arith}
use lib.Dec.{eqb, leb}
use lib.ListN.{length}
use borrow.Author.Tests.{leb-true, leb-false, eqb-true, le-leb, lt-leb}
use Rattle.limits.proofs.TestLaws.{true_false, same_test}
use Rattle.tree.specs.Box.{volume}
use Rattle.table.specs.Read.{first_in, cells_in, next_in, record_in, records_in, chain, chain_end}
use Rattle.table.proofs.ReadLaws.{chain_end_lem, chain_more, end_none, end_more}
use Rattle.sound.specs.Slots.{slots_in, one_to, each_once}
use Rattle.sound.specs.Sound.{sound_cell, sound_cells, volumes, visits_each, ends_in_zero, sound_of}
use Rattle.sound.proofs.Pigeonhole.{all_one_to}
use Rattle.sound.proofs.OnceLaws.{visits_once, visits_all}

abbrev most : ℕ
most = 9223372036854775808

-- the slots are 1 to n, each cell is sound, no sum passes 2^63, and zero ends the chain
unfoldable pub follows : ℕ → ℕ → List ℕ → ℕ → ℕ → Bool
follows n zero t slot sum = eqb slot 0
follows n (suc left) t slot sum =
    one_to n slot && sound_cell (record_in t slot) && leb (sum + volume (record_in t slot).box) most
    && follows n left t (next_in t slot) (sum + volume (record_in t slot).box)

-- ---- its parts, each by itself. A sum that has passed the limit stays past it
four : (w f v e a g s : Bool) → (v ≡ false → s ≡ false) → (w && f && v && ((e && a) && g && s)) ≡ ((e && (w && a)) && (f && g) && s)
four true true true e a g s h = refl
four true true false e a g s h = let z = h refl in sym (rw z (and-false ((e && a) && g)))
four true false v e a g s h = sym (rw (and-false (e && a)) refl)
four false f v e a g s h = sym (rw (and-false e) refl)

step : (w f e a g F : Bool) (sum v rest : ℕ) → (sum + v ≤ most → F ≡ ((e && a) && g && leb (sum + v + rest) most))
    → (w && f && leb (sum + v) most && F) ≡ ((e && (w && a)) && (f && g) && leb (sum + (v + rest)) most)
step w f e a g F sum v rest k = by_test (leb (sum + v) most) refl
  where
    by_test : (b : Bool) → leb (sum + v) most ≡ b → (w && f && b && F) ≡ ((e && (w && a)) && (f && g) && leb (sum + (v + rest)) most)
    by_test true h =
        let same : sum + v + rest ≡ sum + (v + rest) = omega arith in
        ap (λ (x : Bool). w && f && true && x) (k (leb-true (sum + v) most h) ∙ ap (λ (n : ℕ). (e && a) && g && leb n most) same)
        ∙ four w f true e a g (leb (sum + (v + rest)) most) (λ q. true_false q)
    by_test false h =
        let past : leb (sum + (v + rest)) most ≡ false = lt-leb (sum + (v + rest)) most (omega (arith, leb-false (sum + v) most h)) in
        ap (λ (x : Bool). x && F) (and-false (w && f)) ∙ sym (rw past (and-false ((e && (w && a)) && (f && g))))

module _ (n : ℕ) (t : List ℕ) where
  abbrev parts : ℕ → ℕ → ℕ → Bool
  parts left slot sum =
      (eqb (chain_end left t slot) 0 && all_one_to n (slots_in left t slot)) && sound_cells (chain left t slot)
      && leb (sum + volumes (chain left t slot)) most

  follows_parts : (left slot sum : ℕ) → sum ≤ most → follows n left t slot sum ≡ parts left slot sum
  unfolding follows slots_in all_one_to sound_cells volumes
  follows_parts zero slot sum h =
      sym (rw (end_none t slot, chain_end_lem 0 t slot (omega arith), le-leb (sum + 0) most (omega arith))
      (and-true ((eqb slot 0 && true) && true) ∙ and-true (eqb slot 0 && true) ∙ and-true (eqb slot 0)))
  follows_parts (suc left) slot sum h =
      let next : ℕ = next_in t slot in
      let v : ℕ = volume (record_in t slot).box in
      step (one_to n slot) (sound_cell (record_in t slot)) (eqb (chain_end left t next) 0) (all_one_to n (slots_in left t next))
      (sound_cells (chain left t next)) (follows n left t next (sum + v)) sum v (volumes (chain left t next)) (follows_parts left next (sum + v))
      ∙ (λ i. (eqb (sym (end_more left t slot) i) 0 && (one_to n slot && all_one_to n (slots_in left t next))) && sound_cells (sym (chain_more left t slot) i)
      && leb (sum + volumes (sym (chain_more left t slot) i)) most)

  -- the slots 1 to n for n steps, and then zero: each of them once
  once_test : (slot : ℕ) → (eqb (chain_end n t slot) 0 && all_one_to n (slots_in n t slot)) ≡ (each_once n (slots_in n t slot) && eqb (chain_end n t slot) 0)
  once_test slot = by_end (eqb (chain_end n t slot) 0) refl
    where
      by_end : (b : Bool) → eqb (chain_end n t slot) 0 ≡ b → (b && all_one_to n (slots_in n t slot)) ≡ (each_once n (slots_in n t slot) && b)
      by_end true e =
          same_test (all_one_to n (slots_in n t slot)) (each_once n (slots_in n t slot)) (visits_once n t slot (eqb-true (chain_end n t slot) 0 e))
          (visits_all n t slot)
          ∙ sym (and-true (each_once n (slots_in n t slot)))
      by_end false e = sym (and-false (each_once n (slots_in n t slot)))

-- ---- the tests before the loop
first_not : (a b c d e f : Bool) → a ≡ false → false ≡ (a && b && c && d && e && f)
first_not a b c d e f h = sym (ap (λ (x : Bool). x && b && c && d && e && f) h)

third_not : (a b c d e f : Bool) → c ≡ false → false ≡ (a && b && c && d && e && f)
third_not a b c d e f h = sym (ap (λ (x : Bool). a && b && x && d && e && f) h ∙ ap (λ (x : Bool). x && d && e && f) (and-false (a && b)))

module _ (t : List ℕ) where
  pub no_cell : cells_in t < 1 → false ≡ sound_of t
  unfolding sound_of
  no_cell h = first_not _ _ _ _ _ _ (lt-leb 1 (cells_in t) h)

  pub no_room : length t / 32 ≤ cells_in t → false ≡ sound_of t
  unfolding sound_of
  no_room h = third_not (leb 1 (cells_in t)) (visits_each t) _ _ _ _ (lt-leb (32 * (cells_in t + 1)) (length t) (omega arith))

  pub no_slot : length t / 32 < 2 → false ≡ sound_of t
  no_slot h = by_cells (cells_in t) refl
    where
      by_cells : (n : ℕ) → cells_in t ≡ n → false ≡ sound_of t
      by_cells zero e = no_cell (omega arith)
      by_cells (suc n) e = no_room (omega arith)

  -- from the first cell on
  pub from_first : 1 ≤ cells_in t → cells_in t < length t / 32 → follows (cells_in t) (cells_in t) t (first_in t) 0 ≡ sound_of t
  unfolding sound_of
  from_first h k =
      let some = le-leb 1 (cells_in t) h in
      let room = le-leb (32 * (cells_in t + 1)) (length t) (omega arith) in
      let cells : Bool = sound_cells (records_in t) in
      follows_parts (cells_in t) t (cells_in t) (first_in t) 0 (omega arith)
      ∙ (λ i. once_test (cells_in t) t (first_in t) i && cells && leb (zero-add (volumes (records_in t)) i) most)
      ∙ ap (λ (x : Bool). x && ends_in_zero t && cells && leb (volumes (records_in t)) most) (sym (and-true (visits_each t)))
      ∙ (λ i. sym some i && visits_each t && sym room i && ends_in_zero t && cells && leb (volumes (records_in t)) most)

-- ---- the tests of the loop
abbrev passes : (a b c d e : Bool) → Bool
passes a b c d e = (a && b) && c && d && e

not12 : (a b c d e : Bool) → (a && b) ≡ false → passes a b c d e ≡ false
not12 a b c d e h = ap (λ (x : Bool). x && c && d && e) h

not3 : (a b c d e : Bool) → c ≡ false → passes a b c d e ≡ false
not3 a b c d e h = ap (λ (x : Bool). passes a b x d e) h ∙ ap (λ (x : Bool). x && d && e) (and-false (a && b))

not4 : (a b c d e : Bool) → d ≡ false → passes a b c d e ≡ false
not4 a b c d e h = ap (λ (x : Bool). passes a b c x e) h ∙ ap (λ (x : Bool). x && e) (and-false ((a && b) && c))

-- a turn of the loop: what is left says whether the table is sound, and the sum has not passed the limit
pub record Turn (t : List ℕ) (n left slot sum : ℕ) : Type 0 where
  pub room : 32 * (n + 1) ≤ length t
  pub same : follows n left t slot sum ≡ sound_of t
  pub small : sum ≤ most

module _ {t : List ℕ} {n left slot sum : ℕ} (turn : Turn t n left slot sum) where
  pub at_end : left ≤ 0 → eqb slot 0 ≡ sound_of t
  unfolding follows
  at_end h = let e : left ≡ 0 = omega arith in ap (λ (k : ℕ). follows n k t slot sum) (sym e) ∙ turn.same

  abbrev v : ℕ
  v = volume (record_in t slot).box

  one_more : 0 < left
      → follows n left t slot sum
      ≡ passes (leb 1 slot) (leb slot n) (sound_cell (record_in t slot)) (leb (sum + v) most) (follows n (left - 1) t (next_in t slot) (sum + v))
  unfolding follows
  one_more h = let e : left ≡ suc (left - 1) = omega arith in ap (λ (k : ℕ). follows n k t slot sum) e

  module _ (some : 0 < left) where
    stops : follows n left t slot sum ≡ false → false ≡ sound_of t
    stops e = sym e ∙ turn.same

    pub slot_out : (1 ≤ slot → slot ≤ n → ⊥) → false ≡ sound_of t
    slot_out h = stops (one_more some ∙ not12 (leb 1 slot) (leb slot n) _ _ _ (by_tests (leb 1 slot) (leb slot n) refl refl))
      where
        by_tests : (a b : Bool) → leb 1 slot ≡ a → leb slot n ≡ b → (a && b) ≡ false
        by_tests true true p q = absurd (h (leb-true 1 slot p) (leb-true slot n q))
        by_tests true false p q = refl
        by_tests false b p q = refl

    pub cell_unsound : sound_cell (record_in t slot) ≡ false → false ≡ sound_of t
    cell_unsound h = stops (one_more some ∙ not3 (leb 1 slot) (leb slot n) _ _ _ h)

    pub too_much : {x : ℕ} → x ≡ v → most - sum < x → false ≡ sound_of t
    too_much e h =
        stops (one_more some ∙ not4 (leb 1 slot) (leb slot n) (sound_cell (record_in t slot)) _ _ (lt-leb (sum + v) most (omega (arith, turn.small))))

    pub goes_on : 1 ≤ slot → slot ≤ n → sound_cell (record_in t slot) ≡ true → {x next : ℕ} → x ≡ v → x ≤ most - sum → next ≡ next_in t slot
        → Turn t n (left - 1) next (sum + x)
    goes_on a b f {x} {next} e h g =
        let fits : sum + x ≤ most = omega (arith, turn.small) in
        let s = le-leb (sum + v) most (omega arith) in
        let all : follows n left t slot sum ≡ follows n (left - 1) t (next_in t slot) (sum + v) =
        one_more some ∙ (λ i. passes (le-leb 1 slot a i) (le-leb slot n b i) (f i) (s i) (follows n (left - 1) t (next_in t slot) (sum + v))) in
        record { room = turn.room; same = (λ i. follows n (left - 1) t (g i) (sum + e i)) ∙ sym all ∙ turn.same; small = fits }

pub first_turn : (t : List ℕ) {n slot : ℕ} → n ≡ cells_in t → slot ≡ first_in t → 1 ≤ n → n < length t / 32 → Turn t n n slot 0
first_turn t {n} e f h k = record {
  room = omega arith;
  same = (λ i. follows (e i) (e i) t (f i) 0) ∙ from_first t (omega arith) (omega arith);
  small = omega arith;
}
