-- WHAT A WALK OF LENT SLICES RETURNS AND LEAVES, by what their lengths and the rule's number refuse and then by the walk's own two equations. And
-- WHAT DEMAND 3 SUPPOSES OF THEM: they refuse nothing, and the call returns 0. Assumes nothing.
use mathlib.Core.Path.{◌≡◌, refl, sym, ap, ◌∙◌}
use mathlib.Core.List.{List}
use Prim.Native.Nat.{ℕ}
use native.Mathlib.Omega.{arith}
use borrow.Author.Tests.{eq-eqb, ne_eqb}
use lib.Dec.{eqb}
use lib.IntN.{ℤ}
use lib.ListN.{length}
use mir.Syntax.{w64}
use mir.Val.{to_z, of_z, SFits}
use Rattle.exact.proofs.Signed.{back}
use Rattle.grade.specs.InUse.{in_use}
use Rattle.gyroid.specs.declared.Description.{Description}
use Rattle.walk.specs.declared.TieRule.{TieRule}
use Rattle.walk.specs.InUse.{walk_number, walk_table}
use Rattle.walk.proofs.SupposedLaws.{supposed_none}
use Rattle.capi.specs.Lent.{description, whole_point, walk_lent}
use Rattle.capi.specs.Exports.{tie_rule, walk_status, walk_left, WalkSupposed}
use Rattle.capi.proofs.LengthLaws.{walk_right}

module _ (ds ns : List ℤ) (D : ℤ) (rule : ℕ) (t : List ℕ) {n : ℕ} (e : n ≡ walk_lent (length ds) (length ns) rule) where
  test : eqb (walk_lent (length ds) (length ns) rule) 0 ≡ eqb n 0
  test = ap (λ (k : ℕ). eqb k 0) (sym e)

  -- what is promised of a number and of the table's bytes
  abbrev Walked : ℕ → List ℕ → Type 0
  Walked r u = (r ≡ walk_status ds ns D rule (length t)) × (u ≡ walk_left ds ns D rule t)

  -- the laws of the two cases, which twice's proof cites and docs/landings name: a length or the rule is wrong
  pub walk_stopped : (n ≡ 0 → ⊥) → Walked n t
  unfolding walk_status walk_left
  walk_stopped h = let f = test ∙ ne_eqb n 0 h in (rw f e, rw f)

  -- none is
  pub walk_passed : n ≡ 0 → SFits w64 D → {d : Description} {lo hi : List ℤ} {k : TieRule} {r : ℕ} {u : List ℕ}
      → d ≡ description ds → lo ≡ whole_point ns 0 → hi ≡ whole_point ns 3 → k ≡ tie_rule rule
      → r ≡ walk_number d lo hi (to_z w64 (of_z w64 D)) k (length t)
      → u ≡ walk_table d lo hi (to_z w64 (of_z w64 D)) k t
      → Walked r u
  unfolding walk_status walk_left
  walk_passed h fits a b c k p q =
      let f = test ∙ eq-eqb n 0 h in
      let D-is = back {x = D} fits in
      (rw f (p ∙ (λ i. walk_number (a i) (b i) (c i) (D-is i) (k i) (length t))), rw f (q ∙ (λ i. walk_table (a i) (b i) (c i) (D-is i) (k i) t)))

module _ (ds ns : List ℤ) (D : ℤ) (rule len : ℕ) (s : WalkSupposed ds ns D rule len) where
  pub lent_right : walk_lent (length ds) (length ns) rule ≡ 0
  lent_right = walk_right (record { entries = s.entries; argument = s.ends; room = omega arith }) s.rules

  pub supposed_status : walk_status ds ns D rule len ≡ 0
  unfolding walk_status
  supposed_status = rw (lent_right, supposed_none in_use (description ds) (whole_point ns 0) (whole_point ns 3) D (tie_rule rule) len s.supposed) refl
