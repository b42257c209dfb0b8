-- A list of u64s as bytes: zeros, one of them read, one of them written. Assumes nothing.
use mathlib.Core.Path.{◌≡◌, refl, sym, ap, ◌∙◌}
use mathlib.Core.List.{List, [], ◌∷◌, ◌++◌, append_assoc}
use Prim.Native.Nat.{ℕ, zero, suc, ◌+◌, ◌*◌, ◌/◌, ◌%◌, ◌<◌}
use native.Mathlib.Nat.{suc-add, zero-add, add_assoc}
use native.Mathlib.Omega.{arith}
use lib.ListN.{length, set, get_or, drop, replicate, length-append, replicate-append-replicate}
use lib.Seq.{sets, sets-eq, drop_at}
use Rattle.table.specs.Table.{word4, word8}
use Rattle.table.specs.Read.{u32_at, u64_at}
use Rattle.table.specs.Words.{bytes_of}
use Rattle.table.proofs.Words.{length_word8, digits, two_words}
use Rattle.table.proofs.Fronts.{word_later}

-- ---- zeros
zero_word : replicate 8 0 ≡ word8 0
unfolding word8 word4
zero_word = refl

pub zero_words : (n : ℕ) → replicate (8 * n) 0 ≡ bytes_of (replicate n 0)
unfolding bytes_of
zero_words zero = refl
zero_words (suc n) =
    let z : ℕ = 0 in
    let e : 8 * suc n ≡ 8 + 8 * n = omega arith in
    ap (λ (m : ℕ). replicate m z) e ∙ sym (replicate-append-replicate 8 (8 * n) z) ∙ (λ i. zero_word i ++ zero_words n i)

-- ---- one read
front_read : (w : ℕ) (l : List ℕ) → w < 18446744073709551616 → u64_at (word8 w ++ l) 0 ≡ w
unfolding word8 word4
front_read w l h = two_words w (digits (w % 4294967296) (omega arith)) (digits (w / 4294967296) (omega arith))

later : (w : ℕ) (l : List ℕ) (j : ℕ) → u64_at (word8 w ++ l) (8 + j) ≡ u64_at l j
later w l j =
    let e : drop 8 (word8 w ++ l) ≡ l = drop_at (word8 w) l 8 (length_word8 w) in
    let at : (k i : ℕ) → i ≡ 8 + k → u32_at (word8 w ++ l) i ≡ u32_at l k =
    λ k i p. word_later (word8 w ++ l) 8 k p ∙ ap (λ (x : List ℕ). u32_at x k) e in
    λ i. at j (8 + j) refl i + at (j + 4) (8 + j + 4) (add_assoc 8 j 4) i * 4294967296

-- the numbers of a list are u64s
abbrev pub AllSmall : List ℕ → Type 0
AllSmall [] = Unit {0}
AllSmall (w ∷ ws) = (w < 18446744073709551616) × AllSmall ws

pub word_read : (ws r : List ℕ) (k : ℕ) → AllSmall ws → k < length ws → u64_at (bytes_of ws ++ r) (8 * k) ≡ get_or ws k 0
unfolding bytes_of
word_read [] r k a h = absurd (omega arith)
word_read (w ∷ ws) r zero a h = ap (λ (l : List ℕ). u64_at l 0) (append_assoc (word8 w) (bytes_of ws) r) ∙ front_read w (bytes_of ws ++ r) a.0
word_read (w ∷ ws) r (suc k) a h =
    let step : 8 * suc k ≡ 8 + 8 * k = omega arith in
    (λ i. u64_at (append_assoc (word8 w) (bytes_of ws) r i) (step i)) ∙ later w (bytes_of ws ++ r) (8 * k) ∙ word_read ws r k a.1 (omega arith)

-- ---- one written
set_right : (p q : List ℕ) (j v : ℕ) → set (p ++ q) (length p + j) v ≡ p ++ set q j v
set_right [] q j v = ap (λ (k : ℕ). set q k v) (zero-add j)
set_right (a ∷ p) q j v =
    ap (λ (k : ℕ). set (a ∷ (p ++ q)) k v) (suc-add (length p) j) ∙ ap (λ (l : List ℕ). a ∷ l) (set_right p q j v)

sets_right : (vs p q : List ℕ) (j : ℕ) → sets (p ++ q) (length p + j) vs ≡ p ++ sets q j vs
sets_right [] p q j = refl
sets_right (v ∷ vs) p q j =
    let next : suc (length p + j) ≡ length p + suc j = omega arith in
    (λ i. sets (set_right p q j v i) (next i) vs) ∙ sets_right vs p (set q j v) (suc j)

pub word_written : (ws r : List ℕ) (k v : ℕ) → k < length ws → sets (bytes_of ws ++ r) (8 * k) (word8 v) ≡ bytes_of (set ws k v) ++ r
unfolding bytes_of
word_written [] r k v h = absurd (omega arith)
word_written (w ∷ ws) r zero v h =
    let l : List ℕ = bytes_of ws ++ r in
    let long : 0 + length (word8 v) ≡ 8 = omega (arith, length_word8 v) in
    ap (λ (x : List ℕ). sets x 0 (word8 v)) (append_assoc (word8 w) (bytes_of ws) r)
    ∙ sets-eq (word8 v) (word8 w ++ l) 0 (omega (arith, length-append (word8 w) l, length_word8 w, length_word8 v))
    ∙ ap (λ (x : List ℕ). word8 v ++ x) (ap (λ (k : ℕ). drop k (word8 w ++ l)) long ∙ drop_at (word8 w) l 8 (length_word8 w))
    ∙ sym (append_assoc (word8 v) (bytes_of ws) r)
word_written (w ∷ ws) r (suc k) v h =
    let l : List ℕ = bytes_of ws ++ r in
    let step : 8 * suc k ≡ length (word8 w) + 8 * k = omega (arith, length_word8 w) in
    (λ i. sets (append_assoc (word8 w) (bytes_of ws) r i) (step i) (word8 v)) ∙ sets_right (word8 v) (word8 w) l (8 * k)
    ∙ ap (λ (x : List ℕ). word8 w ++ x) (word_written ws r k v (omega arith)) ∙ sym (append_assoc (word8 w) (bytes_of (set ws k v)) r)
