-- What a report of three numbers a layer is after a cell was added to a column of some layers. Assumes nothing.
use mathlib.Core.Path.{◌≡◌, refl, sym, ap, ◌∙◌, subst, subst⁻¹}
use mathlib.Core.Bool.{Bool, true, false, cond, ◌&&◌}
use mathlib.Core.List.{List, ◌++◌}
use Prim.Native.Nat.{ℕ, zero, suc, ◌+◌, ◌*◌, ◌≤◌, ◌<◌}
use native.Mathlib.Nat.{add_assoc, add-zero}
use native.Mathlib.Omega.{arith}
use lib.Dec.{eqb, leb, ltb}
use lib.Seq.{sets}
use borrow.Author.Tests.{eqb-true, eqb-false, leb-true, leb-false, ltb-true, le-leb, lt-ltb, eq-eqb}
use Rattle.table.specs.Table.{word8}
use Rattle.table.specs.Read.{u64_at}
use Rattle.table.specs.Words.{bytes_of}
use Rattle.table.proofs.WordLists.{word_read, word_written}
use Rattle.layers.specs.Added.{raised, added_to, Fitting}
use Rattle.layers.proofs.ThreesLaws.{threes, length_threes, threes_small, threes_read, more, threes_raised}

-- v in the column c of m layers from k on
abbrev pub part : ℕ → ℕ → ℕ → ℕ → (ℕ → ℕ → ℕ)
part m k c v i s = cond (leb k i && ltb i (k + m) && eqb s (suc c)) v 0

-- the first of them, and the others
part_first : (m k c v i s : ℕ) → cond (eqb i k && eqb s (suc c)) v 0 + part m (suc k) c v i s ≡ part (suc m) k c v i s
part_first m k c v i s = by_tests (eqb i k) (leb (suc k) i) (leb k i) (eqb s (suc c)) refl refl refl
  where
    ends : (a b : Bool) → cond (a && ltb i (suc k + m) && b) v 0 ≡ cond (a && ltb i (k + suc m) && b) v 0
    ends a b = let same : suc k + m ≡ k + suc m = omega arith in ap (λ (e : ℕ). cond (a && ltb i e && b) v 0) same

    by_tests : (a b d e : Bool) → eqb i k ≡ a → leb (suc k) i ≡ b → leb k i ≡ d
        → cond (a && e) v 0 + cond (b && ltb i (suc k + m) && e) v 0 ≡ cond (d && ltb i (k + suc m) && e) v 0
    by_tests true true d e p q r = absurd (omega (arith, eqb-true i k p, leb-true (suc k) i q))
    by_tests true false true e p q r =
        add-zero (cond e v 0) ∙ ap (λ (x : Bool). cond (x && e) v 0) (sym (lt-ltb i (k + suc m) (omega (arith, eqb-true i k p))))
    by_tests true false false e p q r = absurd (omega (arith, eqb-true i k p, leb-false k i r))
    by_tests false true true e p q r = omega (arith, ends true e)
    by_tests false true false e p q r = absurd (omega (arith, leb-true (suc k) i q, leb-false k i r))
    by_tests false false true e p q r = let ne = eqb-false i k p in absurd (ne (omega (arith, leb-false (suc k) i q, leb-true k i r)))
    by_tests false false false e p q r = refl

module _ (n : ℕ) (rest : List ℕ) where
  abbrev pub report : (ℕ → ℕ → ℕ) → List ℕ
  report f = bytes_of (threes n f) ++ rest

  abbrev pub AllFit : (ℕ → ℕ → ℕ) → Type 0
  AllFit f = (i s : ℕ) → i < n → f i s < 18446744073709551616

  place : (k c : ℕ) → 24 * k + 8 * c ≡ 8 * (3 * k + c)
  place k c = omega arith

  pub read_one : (f : ℕ → ℕ → ℕ) (k c : ℕ) → k < n → c < 3 → AllFit f → u64_at (report f) (24 * k + 8 * c) ≡ f k (suc c)
  read_one f k c h l a =
      ap (u64_at (report f)) (place k c) ∙ word_read (threes n f) rest (3 * k + c) (threes_small n f a) (omega (arith, length_threes n f))
      ∙ threes_read n f k c h l

  raised_one : (f : ℕ → ℕ → ℕ) (k c v : ℕ) → k < n → c < 3 → AllFit f → raised k c v (report f) ≡ report (more f k c v)
  raised_one f k c v h l a =
      (λ i. sets (report f) (place k c i) (word8 (read_one f k c h l a i + v)))
      ∙ word_written (threes n f) rest (3 * k + c) (f k (suc c) + v) (omega (arith, length_threes n f))
      ∙ ap (λ (ws : List ℕ). bytes_of ws ++ rest) (threes_raised n f k c v h l)

  -- the numbers f and what is added to them fit, and are the report's
  pub record Sums (m k c v : ℕ) (f : ℕ → ℕ → ℕ) : Type 0 where
    pub fits : Fitting m k c v (report f)
    pub is : added_to m k c v (report f) ≡ report (λ i s. f i s + part m k c v i s)

  less : (a b c : ℕ) → a + b < c → a < c
  less a b c h = omega arith

  pub column : (m k c v : ℕ) (f : ℕ → ℕ → ℕ) → k + m ≤ n → c < 3 → AllFit (λ i s. f i s + part m k c v i s) → Sums m k c v f
  unfolding added_to Fitting
  column zero k c v f h l a = record { fits = tt; is = λ i. report (λ j s. none j s i) }
    where
      never : (j s : ℕ) → (a b : Bool) → leb k j ≡ a → ltb j (k + 0) ≡ b → cond (a && b && eqb s (suc c)) v 0 ≡ 0
      never j s true true p q = absurd (omega (arith, leb-true k j p, ltb-true j (k + 0) q))
      never j s true false p q = refl
      never j s false b p q = refl

      none : (j s : ℕ) → f j s ≡ f j s + part zero k c v j s
      none j s = omega (arith, never j s (leb k j) (ltb j (k + 0)) refl refl)
  column (suc m) k c v f h l a =
      let here : k < n = omega arith in
      let fit : AllFit f = λ i s q. less (f i s) (part (suc m) k c v i s) 18446744073709551616 (a i s q) in
      let one = raised_one f k c v here l fit in
      let moved : (i s : ℕ) → more f k c v i s + part m (suc k) c v i s ≡ f i s + part (suc m) k c v i s =
      λ i s. add_assoc (f i s) (cond (eqb i k && eqb s (suc c)) v 0) (part m (suc k) c v i s) ∙ ap (λ (x : ℕ). f i s + x) (part_first m k c v i s) in
      let on = column m (suc k) c v (more f k c v) (omega arith) l (λ i s q. subst⁻¹ (λ (x : ℕ). x < 18446744073709551616) (moved i s) (a i s q)) in
      record {
        fits = (
          subst (λ (x : ℕ). x < 18446744073709551616) (here_sum here l fit) (a k (suc c) here),
          subst⁻¹ (Fitting m (suc k) c v) one on.fits,
        );
        is = ap (added_to m (suc k) c v) one ∙ on.is ∙ (λ t. report (λ i s. moved i s t));
      }
    where
      here_sum : k < n → c < 3 → AllFit f → f k (suc c) + part (suc m) k c v k (suc c) ≡ u64_at (report f) (24 * k + 8 * c) + v
      here_sum h l a =
          (λ t. f k (suc c) + cond (le-leb k k (omega arith) t && lt-ltb k (k + suc m) (omega arith) t && eq-eqb (suc c) (suc c) refl t) v 0)
          ∙ ap (λ (x : ℕ). x + v) (sym (read_one f k c h l a))
