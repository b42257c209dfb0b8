-- WHAT STANDS IN A SLOT is what its axis gives over its side: one that is written is read back, and every other keeps its own; a new memory remembers
-- nothing. Assumes nothing.
use Rattle.std.proofs.Common.{◌≡◌, refl, sym, ap, ◌∙◌, subst, ◌⊎◌, inl, inr, ℕ, zero, suc, ◌-◌, ◌/◌, ◌≤◌, ◌<◌, length, set, get_or, replicate}
use Rattle.std.proofs.Common.{Option, Some, None, List, arith}
use native.Mathlib.Nat.{eq-or-lt_of_le, eq-zero-or-pos}
use Rattle.std.proofs.lemmas.List.{get_or-set_same, get_or-set_other}
use Rattle.gyroid.specs.declared.Gyroid.{Gyroid}
use Rattle.gyroid.specs.declared.Part.{Part}
use Rattle.gyroid.specs.FunctionsInUse.{part}
use Rattle.tree.specs.declared.Side.{Side}
use Rattle.memory.specs.declared.Slot.{Slot}
use Rattle.memory.specs.declared.Term.{Term}
use Rattle.memory.specs.Memory.{side, slot_at, side_in, part_in, Remembers, Holds, Others}

pub none_some : {A B : Type 0} {x : A} → ◌≡◌ {A = Option A} None (Some x) → B
none_some e = let z : ◌≡◌ {A = ℕ} 0 1 = cc in absurd (omega arith)

pub kept : (g : Gyroid) (slots : List (Option Slot)) (terms : List (Option Term)) (s : ℕ) (b : Side) → s < 192 → Remembers g slots terms → Holds slots s b
    → part_in (slot_at slots s) ≡ part g (s / 64) (side b)
kept g slots terms s b inside remembers holds = go (slot_at slots s) refl holds
  where
    go : (o : Option Slot) → slot_at slots s ≡ o → side_in o ≡ Some b → part_in o ≡ part g (s / 64) (side b)
    go None e h = none_some h
    go (Some x) e h =
        let own : x.side ≡ b = cc in
        remembers.parts s inside x e ∙ ap (λ (c : Side). part g (s / 64) (side c)) own

-- ---- a slot is written. The check finds this of the code by itself; the laws from here to `store_all` stand because the documents name them.
pub part_own : (slots : List (Option Slot)) (s : ℕ) (x : Slot) → s < length slots → part_in (slot_at (set slots s (Some x)) s) ≡ x.part
part_own slots s x inside = ap part_in (get_or-set_same slots s (Some x) None inside)

pub part_beside : (slots : List (Option Slot)) (s t : ℕ) (o : Option Slot) → (t < s) ⊎ (s < t) → slot_at (set slots s o) t ≡ slot_at slots t
part_beside slots s t o (inl h) = get_or-set_other slots s t o None (λ e. absurd (omega arith))
part_beside slots s t o (inr h) = get_or-set_other slots s t o None (λ e. absurd (omega arith))

-- what it then says of the memory: the side stands there with its part, and every other slot keeps its own
pub record Stored (g : Gyroid) (k l : List (Option Slot)) (terms : List (Option Term)) (s : ℕ) (b : Side) : Type 0 where
  pub remembers : Remembers g l terms
  pub holds : Holds l s b
  pub others : Others s k l

pub store_all : (g : Gyroid) (slots : List (Option Slot)) (terms : List (Option Term)) (s : ℕ) (b : Side) {h : Gyroid} {p : Option Part}
    → s < 192 → length slots ≡ 192 → Remembers g slots terms → h ≡ g → p ≡ part h (s / 64) (side b)
    → Stored g slots (set slots s (Some (record { side = b; part = p }))) terms s b
store_all g slots terms s b {h} {p} inside n before eh ep = record {
  remembers = record {
    parts = λ t T y e. elim (eq-zero-or-pos (s - t)) [
      | inr u ↦ there t T y e (inl (omega arith))
      | inl u ↦ elim (eq-or-lt_of_le (reaches t u)) [ inl k ↦ here t y k e | inr w ↦ there t T y e (inr w) ]
    ];
    terms = before.terms;
  };
  holds = ap side_in (get_or-set_same slots s (Some x) None (omega arith));
  others = λ t c other e. ap side_in (part_beside slots s t (Some x) other) ∙ e;
}
  where
    x : Slot
    x = record { side = b; part = p }

    own : x.part ≡ part g (s / 64) (side x.side)
    own = ep ∙ ap (λ (f : Gyroid). part f (s / 64) (side b)) eh

    reaches : (t : ℕ) → s - t ≡ 0 → s ≤ t
    reaches t z = omega arith

    here : (t : ℕ) (y : Slot) → s ≡ t → slot_at (set slots s (Some x)) t ≡ Some y → y.part ≡ part g (t / 64) (side y.side)
    here t y k e =
        let first : Some x ≡ Some y = sym (get_or-set_same slots s (Some x) None (omega arith)) ∙ ap (slot_at (set slots s (Some x))) k ∙ e in
        let same : x ≡ y = cc in
        subst (λ (c : Slot). c.part ≡ part g (t / 64) (side c.side)) same (own ∙ ap (λ (n : ℕ). part g (n / 64) (side b)) k)

    there : (t : ℕ) → t < 192 → (y : Slot) → slot_at (set slots s (Some x)) t ≡ Some y → (t < s) ⊎ (s < t) → y.part ≡ part g (t / 64) (side y.side)
    there t T y e other = before.parts t T y (sym (part_beside slots s t (Some x) other) ∙ e)

-- ---- a memory in which no side and no term stands
none_read : {A : Type 0} (n i : ℕ) → ◌≡◌ {A = Option A} (get_or (replicate n None) i None) None
none_read zero i = refl
none_read (suc n) zero = refl
none_read (suc n) (suc i) = none_read n i

pub none_remembers : (g : Gyroid) → Remembers g (replicate 192 None) (replicate 32 None)
none_remembers g = record {
  parts = λ s S x e. none_some (sym (none_read 192 s) ∙ e);
  terms = λ d D q e. none_some (sym (none_read 32 d) ∙ e);
}
