-- A SECOND-ORDER TERM IS WRITTEN, and every other stays. The term of a box is that of any box with its spans. Assumes nothing.
use Rattle.std.proofs.Common.{◌≡◌, ◌≢◌, sym, ap, ◌∙◌, subst, ℕ, ◌+◌, ◌-◌, ◌≤◌, ◌<◌, List, [], ◌∷◌, length, set, Option, Some, inl, inr, arith}
use native.Mathlib.Nat.{eq-or-lt_of_le, eq-zero-or-pos}
use lib.IntN.{ℤ, pos, ◌-ℤ◌}
use Rattle.std.proofs.lemmas.List.{get_or-set_same, get_or-set_other}
use Rattle.exact.specs.Within.{Within}
use Rattle.exact.proofs.IntegerOrder.{zarith}
use Rattle.exact.proofs.Size.{within_of_bounds}
use Rattle.exact.proofs.Ring.{◌⊕◌, ◌⊖◌, ring}
use Rattle.interval.proofs.Alike.{Same}
use Rattle.grade.specs.InUse.{in_use}
use Rattle.gyroid.specs.declared.Gyroid.{Gyroid}
use Rattle.gyroid.specs.declared.Part.{Part}
use Rattle.gyroid.specs.FunctionsInUse.{radius, second_of}
use Rattle.gyroid.proofs.SpanLaws.{radius_span, second_spans}
use Rattle.tree.specs.declared.Axis.TheVariants.{X, Y, Z}
use Rattle.tree.specs.declared.Side.{Side}
use Rattle.tree.specs.declared.ShiftedBox.{ShiftedBox}
use Rattle.tree.specs.Box.{Good, span, unshifted, box_of}
use Rattle.tree.proofs.ShiftedLaws.{unshifted_parts, unshifted_add, good_shifted}
use Rattle.memory.specs.declared.Places.{Places}
use Rattle.memory.specs.declared.Slot.{Slot}
use Rattle.memory.specs.declared.Term.{Term}
use Rattle.memory.specs.Memory.{side, radius_of, term_of, slot_at, term_at, part_in, Remembers, Slots, Ready}
use Rattle.memory.proofs.BoxLaws.{radius_x, radius_y, radius_z}

-- ---- the term of a box is that of its spans
unshifted_within : (u : ℕ) → u ≤ 2097152 → Within 1048576 (unshifted u)
unshifted_within u h = within_of_bounds 1048576 (omega (zarith, unshifted_parts u)) (omega (zarith, unshifted_parts u))

-- a side, and the side of its span from the lowest coordinate on
long : (low n : ℕ) → unshifted (low + n) -ℤ unshifted low ≡ unshifted n -ℤ unshifted 0
long low n =
    ap (λ (z : ℤ). z -ℤ unshifted low) (unshifted_add low n) ∙ ring 3 (λ a b n. a ⊕ n ⊖ a) (λ a b n. b ⊕ n ⊖ b) tt (unshifted low ∷ unshifted 0 ∷ pos n ∷ [])
    ∙ ap (λ (z : ℤ). z -ℤ unshifted 0) (sym (unshifted_add 0 n) ∙ ap unshifted (none n))
  where
    none : (n : ℕ) → 0 + n ≡ n
    none n = omega arith

side_span : (s : Side) → s.low < s.high → s.high ≤ 2097152 → Same 13 (radius (side s)) (radius_of (s.high - s.low))
side_span s l m =
    let n = s.high - s.low in
    let e : s.low + n ≡ s.high = omega arith in
    radius_span in_use (unshifted s.low) (unshifted s.high) (unshifted 0) (unshifted n) (unshifted_within s.low (omega arith)) (unshifted_within s.high m)
    (unshifted_within 0 (omega arith)) (unshifted_within n (omega arith))
    (subst (λ (h : ℕ). unshifted h -ℤ unshifted s.low ≡ unshifted n -ℤ unshifted 0) e (long s.low n))

pub box_spans : (g : Gyroid) (b : ShiftedBox) → Good (box_of b)
    → second_of g (radius (side b.x)) (radius (side b.y)) (radius (side b.z)) ≡ term_of g (span X (box_of b) ∷ span Y (box_of b) ∷ span Z (box_of b) ∷ [])
box_spans g b good =
    let n = good_shifted b good in
    second_spans g (side_span b.x n.below_x n.most_x) (side_span b.y n.below_y n.most_y) (side_span b.z n.below_z n.most_z)
    ∙ sym (λ i. second_of g (radius_of (n.span_x i)) (radius_of (n.span_y i)) (radius_of (n.span_z i)))

-- ---- so is the term of the parts that stand in its slots
module _ (g : Gyroid) (slots : List (Option Slot)) (terms : List (Option Term)) (b : ShiftedBox) (p : Places) (remembers : Remembers g slots terms)
    (at : Slots p) (ready : Ready slots b p) where
  pub parts_term : {spans : List ℕ} → Good (box_of b) → spans ≡ span X (box_of b) ∷ span Y (box_of b) ∷ span Z (box_of b) ∷ []
      → (x y z : Part) → part_in (slot_at slots p.x) ≡ Some x → part_in (slot_at slots p.y) ≡ Some y → part_in (slot_at slots p.z) ≡ Some z
      → second_of g x.radius y.radius z.radius ≡ term_of g spans
  parts_term good e x y z hx hy hz =
      let rx = radius_x g slots terms b p remembers at ready x hx in
      let ry = radius_y g slots terms b p remembers at ready y hy in
      let rz = radius_z g slots terms b p remembers at ready z hz in
      (λ i. second_of g (rx i) (ry i) (rz i)) ∙ box_spans g b good ∙ ap (term_of g) (sym e)

-- ---- a term is written
module _ (g : Gyroid) (slots : List (Option Slot)) (terms : List (Option Term)) (remembers : Remembers g slots terms) where
  pub term_stored : (d : ℕ) (q : Term) → d < 32 → length terms ≡ 32 → q.value ≡ term_of g q.spans → Remembers g slots (set terms d (Some q))
  term_stored d q D n e = record {
    parts = remembers.parts;
    terms = λ t T r h. elim (eq-zero-or-pos (d - t)) [
      | inr u ↦ there t T r h (λ k. absurd (omega arith))
      | inl u ↦ elim (eq-or-lt_of_le (reaches t u)) [ inl k ↦ here t r k h | inr w ↦ there t T r h (λ k. absurd (omega arith)) ]
    ];
  }
    where
      reaches : (t : ℕ) → d - t ≡ 0 → d ≤ t
      reaches t z = omega arith

      here : (t : ℕ) (r : Term) → d ≡ t → term_at (set terms d (Some q)) t ≡ Some r → r.value ≡ term_of g r.spans
      here t r k h =
          let own : Some q ≡ Some r = sym (get_or-set_same terms d (Some q) _ (omega arith)) ∙ ap (term_at (set terms d (Some q))) k ∙ h in
          let same : q ≡ r = cc in
          subst (λ (c : Term). c.value ≡ term_of g c.spans) same e

      there : (t : ℕ) → t < 32 → (r : Term) → term_at (set terms d (Some q)) t ≡ Some r → t ≢ d → r.value ≡ term_of g r.spans
      there t T r h other = remembers.terms t T r (sym (get_or-set_other terms d t (Some q) _ other) ∙ h)
