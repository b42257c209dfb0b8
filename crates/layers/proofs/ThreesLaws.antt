-- Three numbers a layer: their list, one of them read, one of them raised. The columns count from 1, as states do. Assumes nothing.
use mathlib.Core.Path.{◌≡◌, refl, sym, ap, ◌∙◌}
use mathlib.Core.Bool.{Bool, true, false, cond, ◌&&◌}
use mathlib.Core.List.{List, [], ◌∷◌}
use Prim.Native.Nat.{ℕ, zero, suc, ◌+◌, ◌*◌, ◌/◌, ◌%◌, ◌<◌}
use native.Mathlib.Nat.{add-zero}
use native.Mathlib.Omega.{arith}
use lib.Dec.{eqb}
use lib.IntN.{ℤ, pos, ◌+ℤ◌}
use lib.ListN.{length, set, get_or, replicate, length-set}
use lib.Seq.{ext_get_or, get_or-set_same, get_or-set_other}
use borrow.Author.Tests.{eqb-true, eqb-false}
use Rattle.exact.proofs.IntegerOrder.{sum_parts, parts_eq}
use Rattle.table.specs.Table.{Record}
use Rattle.table.specs.Words.{bytes_of}
use Rattle.table.proofs.WordLists.{zero_words, AllSmall}
use Rattle.layers.specs.Layers.{area_in, areas}

unfoldable pub threes : ℕ → (ℕ → ℕ → ℕ) → List ℕ
threes zero f = []
threes (suc n) f = f 0 1 ∷ f 0 2 ∷ f 0 3 ∷ threes n (λ k. f (suc k))

pub length_threes : (n : ℕ) (f : ℕ → ℕ → ℕ) → length (threes n f) ≡ 3 * n
unfolding threes
length_threes zero f = refl
length_threes (suc n) f = omega (arith, length_threes n (λ k. f (suc k)))

pub threes_same : (n : ℕ) (f g : ℕ → ℕ → ℕ) → ((k s : ℕ) → k < n → f k s ≡ g k s) → threes n f ≡ threes n g
unfolding threes
threes_same zero f g h = refl
threes_same (suc n) f g h =
    let z : 0 < suc n = omega arith in
    λ i. h 0 1 z i ∷ h 0 2 z i ∷ h 0 3 z i ∷ threes_same n (λ k. f (suc k)) (λ k. g (suc k)) (λ k s l. h (suc k) s (omega arith)) i

pub threes_small : (n : ℕ) (f : ℕ → ℕ → ℕ) → ((k s : ℕ) → k < n → f k s < 18446744073709551616) → AllSmall (threes n f)
unfolding threes
threes_small zero f h = tt
threes_small (suc n) f h =
    let z : 0 < suc n = omega arith in
    (h 0 1 z, (h 0 2 z, (h 0 3 z, threes_small n (λ k. f (suc k)) (λ k s l. h (suc k) s (omega arith)))))

pub threes_read : (n : ℕ) (f : ℕ → ℕ → ℕ) (k c : ℕ) → k < n → c < 3 → get_or (threes n f) (3 * k + c) 0 ≡ f k (suc c)
unfolding threes
threes_read zero f k c h l = absurd (omega arith)
threes_read (suc n) f zero zero h l = refl
threes_read (suc n) f zero (suc zero) h l = refl
threes_read (suc n) f zero (suc (suc zero)) h l = refl
threes_read (suc n) f zero (suc (suc (suc c))) h l = absurd (omega arith)
threes_read (suc n) f (suc k) c h l =
    let e : 3 * suc k + c ≡ suc (suc (suc (3 * k + c))) = omega arith in
    ap (λ (j : ℕ). get_or (threes (suc n) f) j 0) e ∙ threes_read n (λ j. f (suc j)) k c (omega arith) l

-- ---- v more at one place
abbrev pub more : (ℕ → ℕ → ℕ) → ℕ → ℕ → ℕ → (ℕ → ℕ → ℕ)
more f k c v i s = f i s + cond (eqb i k && eqb s (suc c)) v 0

pub threes_raised : (n : ℕ) (f : ℕ → ℕ → ℕ) (k c v : ℕ) → k < n → c < 3 → set (threes n f) (3 * k + c) (f k (suc c) + v) ≡ threes n (more f k c v)
threes_raised n f k c v h l = ext_get_or 0 l' (threes n (more f k c v)) (long ∙ sym (length_threes n (more f k c v))) (λ j m. each j (omega (arith, long)))
  where
    l' : List ℕ
    l' = set (threes n f) (3 * k + c) (f k (suc c) + v)

    long : length l' ≡ 3 * n
    long = length-set (threes n f) (3 * k + c) (f k (suc c) + v) ∙ length_threes n f

    there : (i d : ℕ) → i ≡ k → d ≡ c → get_or l' (3 * i + d) 0 ≡ f i (suc d) + v
    there i d p q =
        (λ t. get_or l' (3 * p t + q t) 0)
        ∙ get_or-set_same (threes n f) (3 * k + c) (f k (suc c) + v) 0 (omega (arith, length_threes n f)) ∙ (λ t. f (sym p t) (suc (sym q t)) + v)

    other : (i d : ℕ) → i < n → d < 3 → (3 * i + d ≡ 3 * k + c → ⊥) → get_or l' (3 * i + d) 0 ≡ f i (suc d) + 0
    other i d p q ne =
        get_or-set_other (threes n f) (3 * k + c) (3 * i + d) (f k (suc c) + v) 0 ne ∙ threes_read n f i d p q ∙ sym (add-zero (f i (suc d)))

    by_tests : (i d : ℕ) → i < n → d < 3 → (a b : Bool) → eqb i k ≡ a → eqb (suc d) (suc c) ≡ b
        → get_or l' (3 * i + d) 0 ≡ f i (suc d) + cond (a && b) v 0
    by_tests i d p q true true s t = there i d (eqb-true i k s) (omega (arith, eqb-true (suc d) (suc c) t))
    by_tests i d p q true false s t = let ne = eqb-false (suc d) (suc c) t in other i d p q (λ e. ne (omega (arith, eqb-true i k s)))
    by_tests i d p q false b s t = let ne = eqb-false i k s in other i d p q (λ e. ne (omega arith))

    each : (j : ℕ) → j < 3 * n → get_or l' j 0 ≡ get_or (threes n (more f k c v)) j 0
    each j m =
        let i : ℕ = j / 3 in
        let d : ℕ = j % 3 in
        let e : j ≡ 3 * i + d = omega arith in
        let p : i < n = omega arith in
        let q : d < 3 = omega arith in
        ap (λ (x : ℕ). get_or l' x 0) e ∙ by_tests i d p q (eqb i k) (eqb (suc d) (suc c)) refl refl
        ∙ sym (threes_read n (more f k c v) i d p q) ∙ ap (λ (x : ℕ). get_or (threes n (more f k c v)) x 0) (sym e)

-- ---- nothing yet
three_zeros : (n : ℕ) → replicate (3 * n) 0 ≡ threes n (λ k s. 0)
unfolding threes
three_zeros zero = refl
three_zeros (suc n) =
    let z : ℕ = 0 in
    let e : 3 * suc n ≡ suc (suc (suc (3 * n))) = omega arith in
    ap (λ (m : ℕ). replicate m z) e ∙ ap (λ (l : List ℕ). z ∷ z ∷ z ∷ l) (three_zeros n)

pub threes_none : (n : ℕ) → replicate (24 * n) 0 ≡ bytes_of (threes n (λ k s. 0))
threes_none n =
    let z : ℕ = 0 in
    let e : 24 * n ≡ 8 * (3 * n) = omega arith in
    ap (λ (m : ℕ). replicate m z) e ∙ zero_words (3 * n) ∙ ap bytes_of (three_zeros n)

-- ---- the areas of a run of layers
next_layer : (z : ℤ) (k : ℕ) → z +ℤ pos 1 +ℤ pos k ≡ z +ℤ pos (suc k)
next_layer z k =
    parts_eq (z +ℤ pos 1 +ℤ pos k) (z +ℤ pos (suc k)) (omega (arith, sum_parts z (pos 1), sum_parts (z +ℤ pos 1) (pos k), sum_parts z (pos (suc k))))

first_layer : (z : ℤ) → z ≡ z +ℤ pos 0
first_layer z = parts_eq z (z +ℤ pos 0) (omega (arith, sum_parts z (pos 0)))

pub areas_are : (n : ℕ) (z : ℤ) (ms : List Record) → areas n z ms ≡ threes n (λ k s. area_in s (z +ℤ pos k) ms)
unfolding areas threes
areas_are zero z ms = refl
areas_are (suc n) z ms =
    let z0 = first_layer z in
    let rest = areas_are n (z +ℤ pos 1) ms
    ∙ threes_same n (λ k s. area_in s (z +ℤ pos 1 +ℤ pos k) ms) (λ k s. area_in s (z +ℤ pos (suc k)) ms)
    (λ k s h. ap (λ (y : ℤ). area_in s y ms) (next_layer z k)) in
    λ i. area_in 1 (z0 i) ms ∷ area_in 2 (z0 i) ms ∷ area_in 3 (z0 i) ms ∷ rest i
