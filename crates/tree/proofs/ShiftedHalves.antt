-- The halves of the code's box stand for the halves of the box. Assumes nothing.
use mathlib.Core.Path.{◌≡◌, sym, ap, ◌∙◌}
use Prim.Native.Nat.{ℕ, ◌+◌, ◌-◌, ◌/◌}
use lib.IntN.{pos, ◌+ℤ◌}
use Rattle.tree.specs.declared.Axis.{Axis}
use Rattle.tree.specs.declared.Axis.TheVariants.{X, Y, Z}
use Rattle.tree.specs.declared.Half.{Half}
use Rattle.tree.specs.declared.Half.TheVariants.{Lower, Upper}
use Rattle.tree.specs.declared.Side.{Side}
use Rattle.tree.specs.declared.ShiftedBox.{ShiftedBox}
use Rattle.tree.specs.Box.{Good, lower, upper, half_of, half_side, unshifted, box_of}
use Rattle.tree.proofs.ShiftedLaws.{unshifted_add, good_shifted}

-- the middle that the code takes
abbrev middle : Side → ℕ
middle s = s.low + (s.high - s.low) / 2

middle_shifted : (s : Side) {n : ℕ} → n ≡ s.high - s.low → unshifted (middle s) ≡ unshifted s.low +ℤ pos (n / 2)
middle_shifted s f = unshifted_add s.low ((s.high - s.low) / 2) ∙ ap (λ k. unshifted s.low +ℤ pos (k / 2)) (sym f)

-- a is the axis that the code halves on, s the half that it takes
module _ (b : ShiftedBox) (g : Good (box_of b)) where
  pub half_x : (h : Half) {a : Axis} {s : Side} → a ≡ X → s ≡ half_side h b.x → box_of (record { x = s; y = b.y; z = b.z }) ≡ half_of h a (box_of b)
  unfolding box_of lower upper
  half_x Lower e f = rw (e, f, middle_shifted b.x (good_shifted b g).span_x)
  half_x Upper e f = rw (e, f, middle_shifted b.x (good_shifted b g).span_x)

  pub half_y : (h : Half) {a : Axis} {s : Side} → a ≡ Y → s ≡ half_side h b.y → box_of (record { x = b.x; y = s; z = b.z }) ≡ half_of h a (box_of b)
  unfolding box_of lower upper
  half_y Lower e f = rw (e, f, middle_shifted b.y (good_shifted b g).span_y)
  half_y Upper e f = rw (e, f, middle_shifted b.y (good_shifted b g).span_y)

  pub half_z : (h : Half) {a : Axis} {s : Side} → a ≡ Z → s ≡ half_side h b.z → box_of (record { x = b.x; y = b.y; z = s }) ≡ half_of h a (box_of b)
  unfolding box_of lower upper
  half_z Lower e f = rw (e, f, middle_shifted b.z (good_shifted b g).span_z)
  half_z Upper e f = rw (e, f, middle_shifted b.z (good_shifted b g).span_z)
