-- The ring solver over fractions, up to their equality: each fraction is two variables of `Ring`, its numerator and its denominator.
-- Assumes nothing.
use mathlib.Core.Path.{◌≡◌, refl, sym, ap, ap₂, ◌∙◌}
use mathlib.Core.List.{List, [], ◌∷◌}
use Prim.Native.Nat.{ℕ, zero, suc}
use lib.Dec.{T}
use lib.IntN.{ℤ, pos, neg_ℤ, ◌+ℤ◌, ◌-ℤ◌, ◌*ℤ◌}
use Rattle.exact.specs.Fraction.{Fraction, den_z, whole, zero_f, ◌+F◌, ◌-F◌, ◌*F◌, neg_f, ◌≈F◌}
use Rattle.exact.proofs.Ring.{E, at, lit, ◌⊕◌, ◌⊖◌, ◌⊗◌, ⊝◌, eval, norm, zeros, ring_at, Fn, app}

abbrev pub nth_f : List Fraction → ℕ → Fraction
nth_f [] i = zero_f
nth_f (x ∷ ρ) zero = x
nth_f (x ∷ ρ) (suc i) = nth_f ρ i

abbrev pub eval_f : E → (ℕ → Fraction) → Fraction
eval_f (at i) ρ = ρ i
eval_f (lit k) ρ = whole k
eval_f (a ⊕ b) ρ = eval_f a ρ +F eval_f b ρ
eval_f (a ⊖ b) ρ = eval_f a ρ -F eval_f b ρ
eval_f (a ⊗ b) ρ = eval_f a ρ *F eval_f b ρ
eval_f (⊝ a) ρ = neg_f (eval_f a ρ)

-- ---- the polynomials of a value's numerator and denominator: variable i has them at the places 2 i and 2 i + 1
abbrev pub twice : ℕ → ℕ
twice zero = zero
twice (suc i) = suc (suc (twice i))

abbrev pub den_e : E → E
den_e (at i) = at (suc (twice i))
den_e (lit k) = lit (pos 1)
den_e (a ⊕ b) = den_e a ⊗ den_e b
den_e (a ⊖ b) = den_e a ⊗ den_e b
den_e (a ⊗ b) = den_e a ⊗ den_e b
den_e (⊝ a) = den_e a

abbrev pub num_e : E → E
num_e (at i) = at (twice i)
num_e (lit k) = lit k
num_e (a ⊕ b) = num_e a ⊗ den_e b ⊕ num_e b ⊗ den_e a
num_e (a ⊖ b) = num_e a ⊗ den_e b ⊖ num_e b ⊗ den_e a
num_e (a ⊗ b) = num_e a ⊗ num_e b
num_e (⊝ a) = ⊝ num_e a

abbrev parts : (ℕ → Fraction) → ℕ → ℤ
parts ρ zero = (ρ 0).num
parts ρ (suc zero) = den_z (ρ 0)
parts ρ (suc (suc j)) = parts (λ i. ρ (suc i)) j

parts_num : (ρ : ℕ → Fraction) (i : ℕ) → parts ρ (twice i) ≡ (ρ i).num
parts_num ρ zero = refl
parts_num ρ (suc i) = parts_num (λ j. ρ (suc j)) i

parts_den : (ρ : ℕ → Fraction) (i : ℕ) → parts ρ (suc (twice i)) ≡ den_z (ρ i)
parts_den ρ zero = refl
parts_den ρ (suc i) = parts_den (λ j. ρ (suc j)) i

den_sound : (e : E) (ρ : ℕ → Fraction) → eval (den_e e) (parts ρ) ≡ den_z (eval_f e ρ)
unfolding ◌+F◌ ◌-F◌ ◌*F◌ neg_f
den_sound (at i) ρ = parts_den ρ i
den_sound (lit k) ρ = refl
den_sound (a ⊕ b) ρ = ap₂ ◌*ℤ◌ (den_sound a ρ) (den_sound b ρ)
den_sound (a ⊖ b) ρ = ap₂ ◌*ℤ◌ (den_sound a ρ) (den_sound b ρ)
den_sound (a ⊗ b) ρ = ap₂ ◌*ℤ◌ (den_sound a ρ) (den_sound b ρ)
den_sound (⊝ a) ρ = den_sound a ρ

num_sound : (e : E) (ρ : ℕ → Fraction) → eval (num_e e) (parts ρ) ≡ (eval_f e ρ).num
unfolding ◌+F◌ ◌-F◌ ◌*F◌ neg_f
num_sound (at i) ρ = parts_num ρ i
num_sound (lit k) ρ = refl
num_sound (a ⊕ b) ρ = ap₂ ◌+ℤ◌ (ap₂ ◌*ℤ◌ (num_sound a ρ) (den_sound b ρ)) (ap₂ ◌*ℤ◌ (num_sound b ρ) (den_sound a ρ))
num_sound (a ⊖ b) ρ = ap₂ ◌-ℤ◌ (ap₂ ◌*ℤ◌ (num_sound a ρ) (den_sound b ρ)) (ap₂ ◌*ℤ◌ (num_sound b ρ) (den_sound a ρ))
num_sound (a ⊗ b) ρ = ap₂ ◌*ℤ◌ (num_sound a ρ) (num_sound b ρ)
num_sound (⊝ a) ρ = ap neg_ℤ (num_sound a ρ)

-- the computed test that two polynomials are the same fraction
abbrev pub SameF : E → E → Type 0
SameF a b = T (zeros (norm (num_e a ⊗ den_e b ⊖ num_e b ⊗ den_e a)))

pub ring_f : (n : ℕ) (f g : Fn n) → SameF (app n 0 f) (app n 0 g) → (ρ : List Fraction) → eval_f (app n 0 f) (nth_f ρ) ≈F eval_f (app n 0 g) (nth_f ρ)
ring_f n f g t ρ = same (app n 0 f) (app n 0 g) (nth_f ρ) t
  where
    same : (a b : E) (ρ : ℕ → Fraction) → SameF a b → eval_f a ρ ≈F eval_f b ρ
    same a b ρ t = record { eq = sym (ap₂ ◌*ℤ◌ (num_sound a ρ) (den_sound b ρ)) ∙ ring_at (parts ρ) (num_e a ⊗ den_e b) (num_e b ⊗ den_e a) t ∙ ap₂ ◌*ℤ◌ (num_sound b ρ) (den_sound a ρ) }
