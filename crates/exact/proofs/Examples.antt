-- The solvers at work, and that they refuse what is false. Assumes nothing.
use mathlib.Core.Path.{◌≡◌}
use mathlib.Core.List.{[], ◌∷◌}
use lib.Dec.{T}
use lib.IntN.{ℤ, pos, ◌+ℤ◌, ◌*ℤ◌}
use lib.Signed.{◌<ℤ◌}
use Rattle.exact.specs.Fraction.{Fraction, ◌+F◌, ◌-F◌, ◌*F◌, neg_f, ◌≈F◌}
use Rattle.exact.proofs.IntegerOrder.{zarith, sum_parts}
use Rattle.exact.proofs.Ring.{at, lit, ◌⊕◌, ◌⊖◌, ◌⊗◌, ⊝◌, norm, zeros, ring}
use Rattle.exact.proofs.FractionRing.{SameF, ring_f}

-- ---- identities of whole numbers and of fractions
square_of_sum : (a b : ℤ) → (a +ℤ b) *ℤ (a +ℤ b) ≡ a *ℤ a +ℤ pos 2 *ℤ (a *ℤ b) +ℤ b *ℤ b
square_of_sum a b = ring 2 (λ a b. (a ⊕ b) ⊗ (a ⊕ b)) (λ a b. a ⊗ a ⊕ lit (pos 2) ⊗ (a ⊗ b) ⊕ b ⊗ b) tt (a ∷ b ∷ [])

difference_of_squares : (a b : Fraction) → (a +F b) *F (a -F b) ≈F a *F a +F neg_f (b *F b)
difference_of_squares a b = ring_f 2 (λ a b. (a ⊕ b) ⊗ (a ⊖ b)) (λ a b. a ⊗ a ⊕ ⊝ (b ⊗ b)) tt (a ∷ b ∷ [])

-- a product is not a square: the test is not passed
product_no_square : T (zeros (norm (at 0 ⊗ at 1 ⊖ at 1 ⊗ at 1))) → ⊥
product_no_square t = t

product_no_square-F : SameF (at 0 ⊗ at 1) (at 1 ⊗ at 1) → ⊥
product_no_square-F t = t

-- ---- linear facts of whole numbers
half_way : (a b : ℤ) → a <ℤ b → (a +ℤ a) <ℤ (a +ℤ b)
half_way a b h = omega (zarith, sum_parts a a, sum_parts a b)
