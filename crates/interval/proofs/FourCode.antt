-- The tests of the least and the greatest of four candidates, as code makes them. Assumes nothing.
use Rattle.std.proofs.Common.{◌≡◌, ℕ, zero, suc, ◌+◌, ◌*◌, ◌<◌, Bool, true, false, cond, T, sym, refl, ap, ◌∙◌, subst, zero-lt-suc, arith, ltb→lt, lt→ltb}
use lib.Ieee.{Float, nan, inf, fin, neg, lt, le, of_bits, up, down}
use lib.Ieee.Bits.{is_true}
use Rattle.interval.specs.Step.{b64}
use Rattle.interval.specs.Interval.{least, greatest, least4, greatest4}
use Rattle.interval.proofs.SignTests.{largest, lowest}
use Rattle.interval.proofs.StepCode.{yes}

-- ---- the least of four above zero has the greatest above it too, and the greatest below zero has the least below it
less_zero : (a b d : ℕ) → a < b * d → 0 < b
less_zero a zero d h = absurd (none a d h)
  where
    none : (a d : ℕ) → a < 0 * d → ⊥
    none a d h = omega arith
less_zero a (suc b) d h = zero-lt-suc b

above_trans : (x y : Float) → T (lt (b64 0) x) → T (lt x y) → T (lt (b64 0) y)
unfolding lt of_bits
above_trans nan y h k = absurd h
above_trans (inf true) y h k = absurd h
above_trans (inf false) nan h k = absurd k
above_trans (inf false) (inf t) h k = absurd k
above_trans (inf false) (fin t n d) h k = absurd k
above_trans (fin s m e) nan h k = absurd k
above_trans (fin s m e) (inf t) h k = k
above_trans (fin true m e) (fin t n d) h k = absurd h
above_trans (fin false m e) (fin true n d) h k = absurd k
above_trans (fin false m e) (fin false n d) h k = lt→ltb (0 * 1 * down d) (n * up d * 1) (plain (n * up d) (down d) (less_zero (m * up e * down d) (n * up d) (down e) (ltb→lt (m * up e * down d) (n * up d * down e) k)))
  where
    plain : (a d : ℕ) → 0 < a → 0 * 1 * d < a * 1
    plain a d h = omega arith

below_trans : (x y : Float) → T (lt x y) → T (lt y (b64 0)) → T (lt x (b64 0))
unfolding lt of_bits
below_trans nan y h k = absurd h
below_trans (inf true) y h k = tt
below_trans (inf false) nan h k = absurd h
below_trans (inf false) (inf t) h k = absurd h
below_trans (inf false) (fin t n d) h k = absurd h
below_trans (fin s m e) nan h k = absurd k
below_trans (fin s m e) (inf true) h k = absurd h
below_trans (fin s m e) (inf false) h k = absurd k
below_trans (fin s m e) (fin false n d) h k = absurd (plain (n * up d) (down d) (ltb→lt (n * up d * 1) (0 * 1 * down d) k))
  where
    plain : (a d : ℕ) → a * 1 < 0 * 1 * d → ⊥
    plain a d h = omega arith
below_trans (fin false m e) (fin true n d) h k = absurd h
below_trans (fin true m e) (fin true n d) h k = lt→ltb 0 (m * up e * 1 + 0 * 1 * down e) (plain (m * up e) (down e) (less_zero (n * up d * down e) (m * up e) (down d) (ltb→lt (n * up d * down e) (m * up e * down d) h)))
  where
    plain : (a d : ℕ) → 0 < a → 0 < a * 1 + 0 * 1 * d
    plain a d h = omega arith

least_above : (x y : Float) → T (lt (b64 0) (least x y)) → T (lt (b64 0) x)
least_above x y = go (lt y x) (λ k h. above_trans y x h k)
  where
    go : (u : Bool) → (T u → T (lt (b64 0) y) → T (lt (b64 0) x)) → T (lt (b64 0) (cond u y x)) → T (lt (b64 0) x)
    go true f h = f tt h
    go false f h = h

greatest_above : (x y : Float) → T (lt (b64 0) x) → T (lt (b64 0) (greatest x y))
greatest_above x y h = go (lt x y) (above_trans x y h)
  where
    go : (u : Bool) → (T u → T (lt (b64 0) y)) → T (lt (b64 0) (cond u y x))
    go true f = f tt
    go false f = h

greatest_below : (x y : Float) → T (lt (greatest x y) (b64 0)) → T (lt x (b64 0))
greatest_below x y = go (lt x y) (below_trans x y)
  where
    go : (u : Bool) → (T u → T (lt y (b64 0)) → T (lt x (b64 0))) → T (lt (cond u y x) (b64 0)) → T (lt x (b64 0))
    go true f h = f tt h
    go false f h = h

least_below : (x y : Float) → T (lt x (b64 0)) → T (lt (least x y) (b64 0))
least_below x y h = go (lt y x) (λ k. below_trans y x k h)
  where
    go : (u : Bool) → (T u → T (lt y (b64 0))) → T (lt (cond u y x) (b64 0))
    go true f = f tt
    go false f = h

pub four_above : (a b c d : Float) → T (lt (b64 0) (least4 a b c d)) → T (lt (b64 0) (greatest4 a b c d))
four_above a b c d h = greatest_above (greatest a b) (greatest c d) (greatest_above a b (least_above a b (least_above (least a b) (least c d) h)))

pub four_below : (a b c d : Float) → T (lt (greatest4 a b c d) (b64 0)) → T (lt (least4 a b c d) (b64 0))
four_below a b c d h = least_below (least a b) (least c d) (least_below a b (greatest_below a b (greatest_below (greatest a b) (greatest c d) h)))

-- ---- for the code of the least and the greatest of four
pub around_above : (a b c d lo hi : Float) → lo ≡ least4 a b c d → hi ≡ greatest4 a b c d → lt (b64 0) lo ≡ true → lt (b64 0) hi ≡ true
around_above a b c d lo hi p q h = is_true (lt (b64 0) hi) (subst (λ (v : Float). T (lt (b64 0) v)) (sym q) (four_above a b c d (subst (λ (v : Float). T (lt (b64 0) v)) p (yes (lt (b64 0) lo) h))))

pub around_below : (a b c d lo hi : Float) → lo ≡ least4 a b c d → hi ≡ greatest4 a b c d → lt hi (b64 0) ≡ true → lt lo (b64 0) ≡ true
around_below a b c d lo hi p q h = is_true (lt lo (b64 0)) (subst (λ (v : Float). T (lt v (b64 0))) (sym p) (four_below a b c d (subst (λ (v : Float). T (lt v (b64 0))) q (yes (lt hi (b64 0)) h))))

pub lowest_is : neg largest ≡ lowest
unfolding neg of_bits
lowest_is = refl

pub from_lowest : (x : Float) → le (neg largest) x ≡ true → le lowest x ≡ true
from_lowest x h = ap (λ (v : Float). le v x) (sym lowest_is) ∙ h
