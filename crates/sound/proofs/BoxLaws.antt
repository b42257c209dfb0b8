-- The coordinates of a slot, by way of the bits that the code passes on, are those of its box. Assumes nothing.
use mathlib.Core.Path.{◌≡◌, sym, ap, ◌∙◌}
use mathlib.Core.Bool.{Bool, ◌&&◌}
use mathlib.Core.List.{List}
use Prim.Native.Nat.{ℕ}
use lib.IntN.{ℤ}
use mir.Syntax.{w64}
use mir.Val.{to_z, of_z}
use Rattle.exact.proofs.Size.{within_fits}
use Rattle.exact.proofs.Signed.{back}
use Rattle.limits.specs.Ticks.{side}
use Rattle.table.specs.Read.{coordinate_in, record_in}
use Rattle.table.proofs.ReadLaws.{box_is, coordinate_within}
use Rattle.sound.specs.Sound.{keeps_limits}

module _ (t : List ℕ) (slot : ℕ) where
  -- what the code has read of a coordinate, and what a callee hears of it
  abbrev pub Read : ℕ → ℤ → Type 0
  Read i z = z ≡ coordinate_in t slot i

  plain : (i : ℕ) {z : ℤ} → Read i z → to_z w64 (of_z w64 z) ≡ coordinate_in t slot i
  plain i e = ap (λ (z : ℤ). to_z w64 (of_z w64 z)) e ∙ back (within_fits {n = 2147483648} tt (coordinate_within t slot i))

  -- a side's test, of the coordinates i and j
  pub side_is : {a b : ℤ} {p : Bool} (i j : ℕ) → Read i a → Read j b → p ≡ side (to_z w64 (of_z w64 a)) (to_z w64 (of_z w64 b))
      → p ≡ side (coordinate_in t slot i) (coordinate_in t slot j)
  side_is i j e f g = g ∙ (λ k. side (plain i e k) (plain j f k))

  pub limits_is : {p q r : Bool} → p ≡ side (coordinate_in t slot 0) (coordinate_in t slot 3) → q ≡ side (coordinate_in t slot 1) (coordinate_in t slot 4)
      → r ≡ side (coordinate_in t slot 2) (coordinate_in t slot 5) → (p && q && r) ≡ keeps_limits (record_in t slot).box
  unfolding keeps_limits
  limits_is p q r = (λ i. p i && q i && r i) ∙ ap keeps_limits (sym (box_is t slot))
