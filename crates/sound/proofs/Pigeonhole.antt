-- n numbers of 1 to n, none of them twice, are each of 1 to n once; and the other way. Assumes nothing.
use mathlib.Core.Path.{◌≡◌, refl, sym}
use mathlib.Core.Bool.{Bool, true, false, cond, ◌&&◌, and-false}
use mathlib.Core.List.{List, [], ◌∷◌}
use Prim.Native.Nat.{ℕ, zero, suc, ◌+◌, ◌≤◌, ◌<◌}
use native.Mathlib.Omega.{arith}
use lib.Dec.{eqb, leb}
use lib.ListN.{length}
use borrow.Author.Tests.{eqb-true, eqb-false, leb-true, leb-false, lt-leb, eq-eqb}
use Rattle.limits.proofs.TestLaws.{true_false}
use Rattle.sound.specs.Slots.{one_to, times, each_once}

-- all of a list are of 1 to n
unfoldable pub all_one_to : ℕ → List ℕ → Bool
all_one_to n [] = true
all_one_to n (x ∷ xs) = one_to n x && all_one_to n xs

-- the occurrences of 1 to n
sum_times : ℕ → List ℕ → ℕ
sum_times zero l = 0
sum_times (suc n) l = times (suc n) l + sum_times n l

-- how many of a list are within 1 to n
hits : ℕ → List ℕ → ℕ
hits n [] = 0
hits n (x ∷ xs) = cond (one_to n x) 1 0 + hits n xs

abbrev one : Bool → ℕ
one t = cond t 1 0

one_more : (n x : ℕ) → one (one_to (suc n) x) ≡ one (eqb (suc n) x) + one (one_to n x)
one_more n x = by_tests (eqb (suc n) x) (leb 1 x) (leb x n) (leb x (suc n)) refl refl refl refl
  where
    by_tests : (a b c d : Bool) → eqb (suc n) x ≡ a → leb 1 x ≡ b → leb x n ≡ c → leb x (suc n) ≡ d → one (b && d) ≡ one a + one (b && c)
    by_tests true true true d p q r s = absurd (omega (arith, eqb-true (suc n) x p, leb-true x n r))
    by_tests true true false true p q r s = refl
    by_tests true true false false p q r s = absurd (omega (arith, eqb-true (suc n) x p, leb-false x (suc n) s))
    by_tests true false c d p q r s = absurd (omega (arith, eqb-true (suc n) x p, leb-false 1 x q))
    by_tests false true true true p q r s = refl
    by_tests false true true false p q r s = absurd (omega (arith, leb-true x n r, leb-false x (suc n) s))
    by_tests false true false true p q r s = absurd (apart (eqb-false (suc n) x p) (leb-false x n r) (leb-true x (suc n) s))
      where
        apart : (suc n ≡ x → ⊥) → n < x → x ≤ suc n → ⊥
        apart f g h = f (omega arith)
    by_tests false true false false p q r s = refl
    by_tests false false c d p q r s = refl

one_none : (x : ℕ) → one_to 0 x ≡ false
one_none zero = refl
one_none (suc x) = rw (lt-leb (suc x) 0 (omega arith)) (and-false (leb 1 (suc x)))

sum_none : (n : ℕ) → sum_times n [] ≡ 0
unfolding sum_times times
sum_none zero = refl
sum_none (suc n) = omega (arith, sum_none n)

sum_more : (n x : ℕ) (xs : List ℕ) → sum_times n (x ∷ xs) ≡ one (one_to n x) + sum_times n xs
unfolding sum_times times
sum_more zero x xs = rw (one_none x)
sum_more (suc n) x xs = omega (arith, sum_more n x xs, one_more n x)

sum_hits : (n : ℕ) (l : List ℕ) → sum_times n l ≡ hits n l
unfolding hits
sum_hits n [] = sum_none n
sum_hits n (x ∷ xs) = omega (arith, sum_more n x xs, sum_hits n xs)

-- ---- all of 1 to n, and as many hits as there are numbers
hits_all : (n : ℕ) (l : List ℕ) → all_one_to n l ≡ true → hits n l ≡ length l
unfolding hits all_one_to
hits_all n [] e = refl
hits_all n (x ∷ xs) e = by_test (one_to n x) (all_one_to n xs) refl e (hits_all n xs)
  where
    by_test : (a b : Bool) → one_to n x ≡ a → (a && b) ≡ true → (b ≡ true → hits n xs ≡ length xs) → one a + hits n xs ≡ suc (length xs)
    by_test true b p q f = omega (arith, f q)
    by_test false b p q f = true_false (sym q)

hits_le : (n : ℕ) (l : List ℕ) → hits n l ≤ length l
unfolding hits
hits_le n [] = omega arith
hits_le n (x ∷ xs) = by_test (one_to n x) (hits_le n xs)
  where
    by_test : (a : Bool) → hits n xs ≤ length xs → one a + hits n xs ≤ suc (length xs)
    by_test true h = omega arith
    by_test false h = omega arith

all_hits : (n : ℕ) (l : List ℕ) → hits n l ≡ length l → all_one_to n l ≡ true
unfolding hits all_one_to
all_hits n [] e = refl
all_hits n (x ∷ xs) e = by_test (one_to n x) e (all_hits n xs)
  where
    by_test : (a : Bool) → one a + hits n xs ≡ suc (length xs) → (hits n xs ≡ length xs → all_one_to n xs ≡ true) → (a && all_one_to n xs) ≡ true
    by_test true q f = f (omega arith)
    by_test false q f = absurd (omega (arith, hits_le n xs))

-- ---- none twice
sum_le : (n : ℕ) (l : List ℕ) → ((s : ℕ) → times s l ≤ 1) → sum_times n l ≤ n
unfolding sum_times
sum_le zero l f = omega arith
sum_le (suc n) l f = omega (arith, f (suc n), sum_le n l f)

once_sum : (n : ℕ) (l : List ℕ) → ((s : ℕ) → times s l ≤ 1) → sum_times n l ≡ n → each_once n l ≡ true
unfolding sum_times each_once
once_sum zero l f e = refl
once_sum (suc n) l f e =
    let h : times (suc n) l ≡ 1 = omega (arith, f (suc n), sum_le n l f) in
    rw (eq-eqb (times (suc n) l) 1 h) (once_sum n l f (omega arith))

sum_once : (n : ℕ) (l : List ℕ) → each_once n l ≡ true → sum_times n l ≡ n
unfolding sum_times each_once
sum_once zero l e = refl
sum_once (suc n) l e = by_test (eqb (times (suc n) l) 1) (each_once n l) refl e (sum_once n l)
  where
    by_test : (a b : Bool) → eqb (times (suc n) l) 1 ≡ a → (a && b) ≡ true → (b ≡ true → sum_times n l ≡ n) → times (suc n) l + sum_times n l ≡ suc n
    by_test true b p q f = omega (arith, eqb-true (times (suc n) l) 1 p, f q)
    by_test false b p q f = true_false (sym q)

-- THE PIGEONHOLE
pub all_once : (n : ℕ) (l : List ℕ) → length l ≡ n → all_one_to n l ≡ true → ((s : ℕ) → times s l ≤ 1) → each_once n l ≡ true
all_once n l e a f = once_sum n l f (omega (arith, sum_hits n l, hits_all n l a))

pub once_all : (n : ℕ) (l : List ℕ) → length l ≡ n → each_once n l ≡ true → all_one_to n l ≡ true
once_all n l e h = all_hits n l (omega (arith, sum_hits n l, sum_once n l h))
