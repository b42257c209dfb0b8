-- The longest span: which axis it is on, and that it can be halved unless the box is one tick cube. Assumes nothing.
use mathlib.Core.Path.{◌≡◌, refl, sym}
use mathlib.Core.Bool.{Bool, true, false, cond}
use mathlib.Core.Logic.{⊎_elim}
use Prim.Native.Nat.{ℕ, ◌≤◌, ◌<◌}
use native.Mathlib.Nat.{eq-or-lt_of_le}
use native.Mathlib.Omega.{arith}
use lib.Dec.{leb}
use borrow.Author.Tests.{leb-true, leb-false, le-leb, lt-leb, eq-eqb}
use Rattle.tree.specs.declared.Axis.{Axis}
use Rattle.tree.specs.declared.Axis.TheVariants.{X, Y, Z}
use Rattle.tree.specs.Box.{Box, low, high, span, longest, one_cube}
use Rattle.tree.specs.Tree.{Fair}
use Rattle.tree.proofs.Spans.{span_least}
use Rattle.tree.proofs.HalfLaws.{by_axis}

-- ---- "the longest span, ties to the lowest axis", by the tests that decide it
module _ (b : Box) where
  pub longest_x : span Y b ≤ span X b → span Z b ≤ span X b → X ≡ longest b
  unfolding longest
  longest_x p q = rw (le-leb (span Y b) (span X b) p, le-leb (span Z b) (span X b) q)

  pub longest_y : span X b < span Y b → span Z b ≤ span Y b → Y ≡ longest b
  unfolding longest
  longest_y p q = rw (lt-leb (span Y b) (span X b) p, le-leb (span Z b) (span Y b) q)

  pub longest_z : span X b < span Z b → span Y b < span Z b → Z ≡ longest b
  unfolding longest
  longest_z p q = rw (lt-leb (span Z b) (span X b) p, lt-leb (span Z b) (span Y b) q) (either (leb (span Y b) (span X b)))
    where
      either : (t : Bool) → Z ≡ cond t Z Z
      either true = refl
      either false = refl

  -- ---- "one tick cube (all spans 1)"
  pub one_cube_lem : span X b ≡ 1 → span Y b ≡ 1 → span Z b ≡ 1 → one_cube b ≡ true
  unfolding one_cube
  one_cube_lem p q r = rw (eq-eqb (span X b) 1 p, eq-eqb (span Y b) 1 q, eq-eqb (span Z b) 1 r)

-- the three, as the code's tests decide
pub ruleset by_tests = (longest_x, longest_y, longest_z)

-- ---- no span is longer than the longest
longest_of : (s : Axis → ℕ) (t v w : Bool) → leb (s Y) (s X) ≡ t → leb (s Z) (s X) ≡ v → leb (s Z) (s Y) ≡ w → (a : Axis)
    → s a ≤ s (cond t (cond v X Z) (cond w Y Z))
longest_of s true true w p q r = by_axis (λ a. s a ≤ s X) (omega arith) (leb-true (s Y) (s X) p) (leb-true (s Z) (s X) q)
longest_of s true false w p q r =
    by_axis (λ a. s a ≤ s Z) (omega (arith, leb-false (s Z) (s X) q)) (omega (arith, leb-true (s Y) (s X) p, leb-false (s Z) (s X) q)) (omega arith)
longest_of s false v true p q r = by_axis (λ a. s a ≤ s Y) (omega (arith, leb-false (s Y) (s X) p)) (omega arith) (leb-true (s Z) (s Y) r)
longest_of s false v false p q r =
    by_axis (λ a. s a ≤ s Z) (omega (arith, leb-false (s Y) (s X) p, leb-false (s Z) (s Y) r)) (omega (arith, leb-false (s Z) (s Y) r)) (omega arith)

pub longest_most : (b : Box) (a : Axis) → span a b ≤ span (longest b) b
unfolding longest
longest_most b = longest_of (λ a. span a b) _ _ _ refl refl refl

pub fair_longest : Fair longest
unfolding Fair
fair_longest b g u = ⊎_elim (λ e. absurd (not_cube (sym e))) (λ h. h) (eq-or-lt_of_le (least (longest b)))
  where
    least : (a : Axis) → 1 ≤ span a b
    least a = span_least (low a b) (high a b) (g.spans a)

    not_cube : span (longest b) b ≡ 1 → ⊥
    not_cube e =
        let one : (a : Axis) → span a b ≡ 1 = λ a. omega (arith, longest_most b a, least a) in
        let z : ◌≡◌ {A = ℕ} 0 1 = cc (one_cube_lem b (one X) (one Y) (one Z)) in
        omega arith
