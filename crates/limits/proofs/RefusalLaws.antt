-- Refusals in a row: the first that is not 0 wins, and none refuses where all are 0; and an answer by its refusal. Assumes nothing.
use mathlib.Core.Path.{◌≡◌, refl, sym, ap, subst, ◌∙◌}
use mathlib.Core.Bool.{Bool, true, false, cond, not}
use Prim.Native.Nat.{ℕ, suc}
use native.Mathlib.Omega.{arith}
use borrow.Author.Tests.{eq-eqb, ne_eqb}
use lib.Dec.{T, eqb, eqb→eq, eqb-suc-zero}
use Rattle.std.specs.Prelude.{Result, Err, IsErr, IsErrAnd}
use Rattle.std.proofs.lemmas.Result.{err_from_is_err_and}
use Rattle.limits.specs.declared.refusals.Refusal.{Refusal}
use Rattle.limits.specs.Refusals.{refused, ◌or_else◌, number, number_of}

-- ---- one test
suc_not : {n : ℕ} → suc n ≡ 0 → ⊥
suc_not e = omega arith

pub none_first : (b : Bool) (n m : ℕ) → (refused b (suc n) or_else m) ≡ 0 → T (not b) × (m ≡ 0)
none_first true n m e = absurd (suc_not (subst (λ (b : Bool). cond b m (suc n) ≡ 0) (eqb-suc-zero n) e))
none_first false n m e = (tt, e)

pub none_last : (b : Bool) (n : ℕ) → refused b (suc n) ≡ 0 → T (not b)
none_last true n e = absurd (suc_not e)
none_last false n e = tt

pub kept : (b : Bool) → T (not (not b)) → T b
kept true t = tt
kept false t = absurd t

-- ---- two numbers, and three
pub first_wins : (m n : ℕ) → (m ≡ 0 → ⊥) → (m or_else n) ≡ m
first_wins m n h = rw (ne_eqb m 0 h)

pub neither : (m n : ℕ) → (m or_else n) ≡ 0 → (m ≡ 0) × (n ≡ 0)
neither m n e = go (eqb m 0) refl e
  where
    go : (t : Bool) → eqb m 0 ≡ t → cond t n m ≡ 0 → (m ≡ 0) × (n ≡ 0)
    go true p e = (eqb→eq m 0 (subst T (sym p) tt), e)
    go false p e = absurd (subst T (sym (eq-eqb m 0 e) ∙ p) tt)

pub or_else_assoc : (a b c : ℕ) → ((a or_else b) or_else c) ≡ (a or_else b or_else c)
or_else_assoc a b c = go (eqb a 0) refl
  where
    go : (t : Bool) → eqb a 0 ≡ t → cond (eqb (cond t b a) 0) c (cond t b a) ≡ cond t (cond (eqb b 0) c b) a
    go true p = refl
    go false p = rw p refl

-- ---- a refusal's number is not 0
pub number_above : (r : Refusal) → number r ≡ 0 → ⊥
number_above r e = grind arith

pub number_not : (r : Refusal) → eqb (number r) 0 ≡ false
number_not r = ne_eqb (number r) 0 (number_above r)

-- ---- tests in a row, by `?`: what is returned where one fails, its number being k, and what is left where it passes
pub stopped : {A : Type 0} (r : Result A Refusal) (x : Refusal) {k : ℕ} (m : ℕ)
    → IsErr r × IsErrAnd r (λ e. e ≡ x) → number x ≡ k → number_of r ≡ (k or_else m)
stopped r x {k} m h e =
    let p = err_from_is_err_and r h.1 in
    ap number_of p.1 ∙ ap number p.2 ∙ e ∙ sym (first_wins k m (λ z. number_above x (e ∙ z)))

pub passed_on : {k m : ℕ} → 0 ≡ k → (k or_else m) ≡ m
passed_on {k} {m} e = subst (λ (n : ℕ). (n or_else m) ≡ m) e refl

-- ---- an answer by its refusal: n is the number that the code found, m the definition's
pub refused_is : {A : Type 0} (f : ℕ → A) {n m : ℕ} (x : A) → n ≡ m → (n ≡ 0 → ⊥) → f n ≡ cond (eqb m 0) x (f m)
refused_is f {n} x e h = subst (λ (k : ℕ). f n ≡ cond (eqb k 0) x (f k)) e (rw (ne_eqb n 0 h) refl)

pub answer_is : {A : Type 0} {n m : ℕ} {x y : A} (z : A) → n ≡ m → n ≡ 0 → y ≡ x → y ≡ cond (eqb m 0) x z
answer_is {x} {y} z e h p = subst (λ (k : ℕ). y ≡ cond (eqb k 0) x z) (sym h ∙ e) p

-- what a `?` returns of an answer that the number m refuses, where f says a refusal by its number
pub refused_said : {A B : Type 0} (said : Result B Refusal → A) (f : ℕ → A) (r : Result B Refusal) (x : Refusal) {m : ℕ} (v : A)
    → ((y : Refusal) → said (Err y) ≡ f (number y)) → IsErr r × IsErrAnd r (λ e. e ≡ x) → number x ≡ m → said r ≡ cond (eqb m 0) v (f m)
refused_said said f r x v by h e =
    let p = err_from_is_err_and r h.1 in
    ap said p.1 ∙ by _ ∙ ap (λ y. f (number y)) p.2 ∙ refused_is f v e (number_above x)
