-- The longest span by the axis that ties go to: it can be halved unless the box is one tick cube, whichever that axis is, and ties to x are ties to the
-- lowest. Assumes nothing.
use mathlib.Core.Path.{◌≡◌, refl, sym}
use mathlib.Core.Bool.{Bool, true, false, cond, ◌&&◌}
use Prim.Native.Nat.{ℕ, ◌≤◌, ◌<◌}
use native.Mathlib.Omega.{arith}
use lib.Dec.{eqb, leb}
use borrow.Author.Tests.{eqb-true, eq-eqb, ne_eqb, leb-true, leb-false}
use Rattle.tree.specs.declared.Axis.{Axis}
use Rattle.tree.specs.declared.Axis.TheVariants.{X, Y, Z}
use Rattle.tree.specs.Box.{Box, span, longest, cut}
use Rattle.tree.specs.Tree.{Fair}
use Rattle.tree.proofs.LongestLaws.{longest_x, longest_most, fair_longest}

pub fair_cut : (a : Axis) → Fair (cut a)
unfolding Fair cut
fair_cut a b g u = by_test (eqb (span a b) (span (longest b) b)) refl (fair_longest b g u)
  where
    by_test : (t : Bool) → eqb (span a b) (span (longest b) b) ≡ t → 2 ≤ span (longest b) b → 2 ≤ span (cond t a (longest b)) b
    by_test true e h = omega (arith, eqb-true (span a b) (span (longest b) b) e)
    by_test false e h = h

pub to_x : cut X ≡ longest
unfolding cut
to_x = λ i b. of_box b (eqb (span X b) (span (longest b) b)) refl i
  where
    of_box : (b : Box) (t : Bool) → eqb (span X b) (span (longest b) b) ≡ t → cond t X (longest b) ≡ longest b
    of_box b true e =
        let s = eqb-true (span X b) (span (longest b) b) e in
        longest_x b (omega (arith, s, longest_most b Y)) (omega (arith, s, longest_most b Z))
    of_box b false e = refl

-- ---- "the axis .. if it is among them": a is where no span is longer than its own; "otherwise the lowest"
module _ (a : Axis) (b : Box) where
  pub cut_tied : ((q : Axis) → span q b ≤ span a b) → a ≡ cut a b
  unfolding cut
  cut_tied most = sym (rw (eq-eqb (span a b) (span (longest b) b) (omega (arith, most (longest b), longest_most b a))))

  pub cut_longer : (q : Axis) → span a b < span q b → longest b ≡ cut a b
  unfolding cut
  cut_longer q h = sym (rw (ne_eqb (span a b) (span (longest b) b) (λ e. omega (arith, e, h, longest_most b q))))

-- by a test, whether no other span is longer: s is the span on a, and t and u are those on the other axes, o and p. The code of `cut` is proved
-- without the two laws; they stand because docs/landings/L06.md names them.
module _ (a o p : Axis) (b : Box) {s t u : ℕ} (on-a : s ≡ span a b) (on-o : t ≡ span o b) (on-p : u ≡ span p b) where
  pub cut_among : ((P : Axis → Type 0) → P a → P o → P p → (q : Axis) → P q) → (leb t s && leb u s) ≡ true → a ≡ cut a b
  cut_among each e = go (leb t s) (leb u s) refl refl e
    where
      go : (x y : Bool) → leb t s ≡ x → leb u s ≡ y → (x && y) ≡ true → a ≡ cut a b
      go true true v w e =
          let t-le = leb-true t s v in
          let u-le = leb-true u s w in
          cut_tied a b (each (λ q. span q b ≤ span a b) (omega arith) (omega (arith, t-le)) (omega (arith, u-le)))
      go true false v w e = let z : ◌≡◌ {A = ℕ} 0 1 = cc in absurd (omega arith)
      go false y v w e = let z : ◌≡◌ {A = ℕ} 0 1 = cc in absurd (omega arith)

  pub cut_longest : (leb t s && leb u s) ≡ false → longest b ≡ cut a b
  cut_longest e = go (leb t s) (leb u s) refl refl e
    where
      go : (x y : Bool) → leb t s ≡ x → leb u s ≡ y → (x && y) ≡ false → longest b ≡ cut a b
      go true true v w e = let z : ◌≡◌ {A = ℕ} 0 1 = cc in absurd (omega arith)
      go true false v w e = cut_longer a b p (omega (arith, leb-false u s w))
      go false y v w e = cut_longer a b o (omega (arith, leb-false t s v))
