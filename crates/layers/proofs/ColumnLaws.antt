-- One layer after the other, as the code adds to a column. Assumes nothing.
use mathlib.Core.Path.{◌≡◌, refl, sym, ap, ◌∙◌, subst}
use mathlib.Core.List.{List}
use Prim.Native.Nat.{ℕ, zero, suc, ◌+◌, ◌-◌, ◌*◌, ◌≤◌, ◌<◌}
use native.Mathlib.Omega.{arith}
use lib.ListN.{length}
use lib.Seq.{sets, length-sets}
use Rattle.table.specs.Table.{word8}
use Rattle.table.specs.Read.{u64_at}
use Rattle.layers.specs.Added.{raised, added_to, Fitting}

pub length_stored : (r : List ℕ) (i w : ℕ) {u : List ℕ} → u ≡ sets r i (word8 w) → length u ≡ length r
length_stored r i w e = ap length e ∙ length-sets r i (word8 w)

pub length_added : (m k c v : ℕ) (r : List ℕ) → length (added_to m k c v r) ≡ length r
unfolding added_to
length_added zero k c v r = refl
length_added (suc m) k c v r = length_added m (suc k) c v (raised k c v r) ∙ length_stored r (24 * k + 8 * c) _ refl

module _ (end c v : ℕ) where
  -- what is left to add, from the layer k on, makes the whole and fits
  pub record Left (k : ℕ) (r all : List ℕ) : Type 0 where
    pub same : added_to (end - k) k c v r ≡ all
    pub fits : Fitting (end - k) k c v r

  pub none_left : {k : ℕ} {r all : List ℕ} → end ≤ k → Left k r all → r ≡ all
  unfolding added_to
  none_left {k} {r} h l = let e : end - k ≡ 0 = omega arith in ap (λ (m : ℕ). added_to m k c v r) (sym e) ∙ l.same

  pub sum_fits : {k : ℕ} {r all : List ℕ} → k < end → Left k r all → u64_at r (24 * k + 8 * c) + v < 18446744073709551616
  unfolding Fitting
  sum_fits {k} {r} h l = let e : end - k ≡ suc (end - (k + 1)) = omega arith in (subst (λ (m : ℕ). Fitting m k c v r) e l.fits).0

  next_fits : (m k : ℕ) (r : List ℕ) → Fitting (suc m) k c v r → Fitting m (suc k) c v (raised k c v r)
  unfolding Fitting
  next_fits m k r f = f.1

  next_added : (m k : ℕ) (r : List ℕ) → added_to m (suc k) c v (raised k c v r) ≡ added_to (suc m) k c v r
  unfolding added_to
  next_added m k r = refl

  pub one_layer : {k : ℕ} {r all : List ℕ} {x : ℕ} {u : List ℕ} → k < end → x ≡ u64_at r (24 * k + 8 * c) → u ≡ sets r (24 * k + 8 * c) (word8 (x + v))
      → Left k r all → Left (k + 1) u all
  one_layer {k} {r} {all} h e f l =
      let n : ℕ = end - (k + 1) in
      let i : end - k ≡ suc n = omega arith in
      let j : suc k ≡ k + 1 = omega arith in
      let d : end - suc k ≡ n = omega arith in
      let is = f ∙ ap (λ (y : ℕ). sets r (24 * k + 8 * c) (word8 (y + v))) e in
      subst (λ (l : List ℕ). Left (k + 1) l all) (sym is)
      (subst (λ (m : ℕ). Left m (raised k c v r) all) j (record {
        same = ap (λ (m : ℕ). added_to m (suc k) c v (raised k c v r)) d ∙ next_added n k r ∙ ap (λ (m : ℕ). added_to m k c v r) (sym i) ∙ l.same;
        fits = subst (λ (m : ℕ). Fitting m (suc k) c v (raised k c v r)) (sym d)
            (next_fits n k r (subst (λ (m : ℕ). Fitting m k c v r) i l.fits));
      }))
