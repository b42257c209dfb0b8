-- A chain that keeps to the slots 1 to n for n steps and then comes to zero visits each of them once: a slot that it came back to would never lead
-- to zero. Assumes nothing.
use mathlib.Core.Path.{◌≡◌, refl, sym, ap, subst, ◌∙◌}
use mathlib.Core.Bool.{Bool, true, false, cond, ◌&&◌}
use mathlib.Core.List.{List}
use Prim.Native.Nat.{ℕ, zero, suc, ◌+◌, ◌≤◌}
use native.Mathlib.Omega.{arith}
use lib.Dec.{eqb, leb}
use lib.ListN.{length}
use borrow.Author.Tests.{eqb-true, leb-true}
use Rattle.limits.proofs.TestLaws.{true_false}
use Rattle.table.specs.Read.{next_in, chain_end}
use Rattle.table.proofs.ReadLaws.{end_none, end_more}
use Rattle.sound.specs.Slots.{slots_in, times, each_once}
use Rattle.sound.proofs.Pigeonhole.{all_one_to, all_once, once_all}

-- m slots that are not zero, and then zero
abbrev Runs : ℕ → List ℕ → ℕ → Type 0
Runs zero t s = s ≡ 0
Runs (suc m) t s = (1 ≤ s) × Runs m t (next_in t s)

runs_unique : (m k : ℕ) (t : List ℕ) (s : ℕ) → Runs m t s → Runs k t s → m ≡ k
runs_unique zero zero t s p q = refl
runs_unique zero (suc k) t s p q = absurd (omega (arith, q.0))
runs_unique (suc m) zero t s p q = absurd (omega (arith, p.0))
runs_unique (suc m) (suc k) t s p q = ap suc (runs_unique m k t (next_in t s) p.1 q.1)

-- a slot that is met on the way has its own run, no longer than the whole
record Met (m : ℕ) (t : List ℕ) (x : ℕ) : Type 0 where
  steps : ℕ
  no_longer : steps ≤ m
  runs : Runs steps t x

met : (m : ℕ) (t : List ℕ) (s x : ℕ) → Runs m t s → 1 ≤ times x (slots_in m t s) → Met m t x
unfolding slots_in times
met zero t s x r h = absurd (omega arith)
met (suc m) t s x r h = by_test (eqb x s) refl h (met m t (next_in t s) x r.1)
  where
    by_test : (a : Bool) → eqb x s ≡ a → 1 ≤ cond a 1 0 + times x (slots_in m t (next_in t s))
        → (1 ≤ times x (slots_in m t (next_in t s)) → Met m t x) → Met (suc m) t x
    by_test true e k f = record { steps = suc m; no_longer = omega arith; runs = subst (Runs (suc m) t) (sym (eqb-true x s e)) r }
    by_test false e k f = let n = f (omega arith) in record { steps = n.steps; no_longer = omega (arith, n.no_longer); runs = n.runs }

never_twice : (m : ℕ) (t : List ℕ) (s x : ℕ) → Runs m t s → times x (slots_in m t s) ≤ 1
unfolding slots_in times
never_twice zero t s x r = omega arith
never_twice (suc m) t s x r = by_test (eqb x s) refl (never_twice m t (next_in t s) x r.1) (met m t (next_in t s) x r.1)
  where
    gone : x ≡ s → (n : ℕ) → n ≡ times x (slots_in m t (next_in t s)) → (1 ≤ times x (slots_in m t (next_in t s)) → Met m t x) → n ≤ 0
    gone e zero h f = omega arith
    gone e (suc n) h f =
        let k = f (omega arith) in
        absurd (omega (arith, k.no_longer, runs_unique (suc m) k.steps t x (subst (Runs (suc m) t) (sym e) r) k.runs))

    by_test : (a : Bool) → eqb x s ≡ a → times x (slots_in m t (next_in t s)) ≤ 1
        → (1 ≤ times x (slots_in m t (next_in t s)) → Met m t x) → cond a 1 0 + times x (slots_in m t (next_in t s)) ≤ 1
    by_test true e k f = omega (arith, gone (eqb-true x s e) (times x (slots_in m t (next_in t s))) refl f)
    by_test false e k f = omega arith

runs_of : (n m : ℕ) (t : List ℕ) (s : ℕ) → all_one_to n (slots_in m t s) ≡ true → chain_end m t s ≡ 0 → Runs m t s
unfolding slots_in all_one_to
runs_of n zero t s a e = sym (end_none t s) ∙ e
runs_of n (suc m) t s a e =
    by_test (leb 1 s) (leb s n) (all_one_to n (slots_in m t (next_in t s))) refl a (λ h. runs_of n m t (next_in t s) h (sym (end_more m t s) ∙ e))
  where
    by_test : (a b c : Bool) → leb 1 s ≡ a → (a && b && c) ≡ true → (c ≡ true → Runs m t (next_in t s)) → (1 ≤ s) × Runs m t (next_in t s)
    by_test true true c p q f = (leb-true 1 s p, f q)
    by_test true false c p q f = true_false (sym q)
    by_test false b c p q f = true_false (sym q)

length_slots : (n : ℕ) (t : List ℕ) (s : ℕ) → length (slots_in n t s) ≡ n
unfolding slots_in
length_slots zero t s = refl
length_slots (suc n) t s = ap suc (length_slots n t (next_in t s))

-- THE TEST OF THE CODE says what the definition does, and the other way
pub visits_once : (n : ℕ) (t : List ℕ) (s : ℕ) → chain_end n t s ≡ 0 → all_one_to n (slots_in n t s) ≡ true → each_once n (slots_in n t s) ≡ true
visits_once n t s e a = all_once n (slots_in n t s) (length_slots n t s) a (λ x. never_twice n t s x (runs_of n n t s a e))

pub visits_all : (n : ℕ) (t : List ℕ) (s : ℕ) → each_once n (slots_in n t s) ≡ true → all_one_to n (slots_in n t s) ≡ true
visits_all n t s h = once_all n (slots_in n t s) (length_slots n t s) h
