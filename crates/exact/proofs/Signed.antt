-- Signed code: a signed local holds bits, and `Is n w z` says that w, as the machine has it (each operand read back from its bits), is the
-- number z, which is within n. One term of it follows the code's expression; each need and the result are read off it. Assumes nothing.
use mathlib.Core.Path.{◌≡◌, refl, sym, ap, ap₂, ◌∙◌, subst, subst⁻¹}
use mathlib.Core.Bool.{Bool, true, false, ◌&&◌}
use Prim.Native.Nat.{ℕ, ◌+◌, ◌*◌, ◌^◌}
use lib.Dec.{T, ltb, leb, eqb, eqb→eq, eqb_refl}
use lib.IntN.{ℤ, pos, ◌+ℤ◌, ◌-ℤ◌, ◌*ℤ◌}
use lib.Signed.{le_z, ◌≤ℤ◌, le_z_yes, ≤ℤ_refl}
use mir.Syntax.{w64}
use mir.Val.{to_z, of_z, SFits}
use mir.ValLaws.{to_z-of_z}
use Rattle.exact.specs.Within.{Within}
use Rattle.exact.proofs.IntegerOrder.{≤ℤ_antisym}
use Rattle.exact.proofs.Size.{within_fits, within_more, within_add, within_sub, within_mul, within_zero}

pub record Is (n : ℕ) (w z : ℤ) : Type 0 where
  pub same : w ≡ z
  pub within : Within n z

pub is : {n : ℕ} {z : ℤ} → Within n z → Is n z z
is h = record { same = refl; within = h }

-- a call's result: what it ensures, and the bound of what it ensures
pub got : {n : ℕ} {w z : ℤ} → w ≡ z → Within n z → Is n w z
got e h = record { same = e; within = h }

pub fits : {n : ℕ} {w z : ℤ} → T (ltb n (2 ^ 63)) → Is n w z → SFits w64 w
fits t i = subst⁻¹ (SFits w64) i.same (within_fits t i.within)

-- written to a local and read back
pub bit : {n : ℕ} {w z : ℤ} → T (ltb n (2 ^ 63)) → Is n w z → Is n (to_z w64 (of_z w64 w)) z
bit {w} t i = record { same = to_z-of_z w64 w (fits t i) ∙ i.same; within = i.within }

pub add : {m n : ℕ} {a b x y : ℤ} → Is m a x → Is n b y → Is (m + n) (a +ℤ b) (x +ℤ y)
add i j = record { same = ap₂ ◌+ℤ◌ i.same j.same; within = within_add i.within j.within }

pub sub : {m n : ℕ} {a b x y : ℤ} → Is m a x → Is n b y → Is (m + n) (a -ℤ b) (x -ℤ y)
sub i j = record { same = ap₂ ◌-ℤ◌ i.same j.same; within = within_sub i.within j.within }

pub mul : {m n : ℕ} {a b x y : ℤ} → Is m a x → Is n b y → Is (m * n) (a *ℤ b) (x *ℤ y)
mul i j = record { same = ap₂ ◌*ℤ◌ i.same j.same; within = within_mul i.within j.within }

-- what a callee asks of an argument
pub asked : {m n : ℕ} {w z : ℤ} → T (leb m n) → Is m w z → Within n w
asked {n} t i = subst⁻¹ (Within n) i.same (within_more t i.within)

-- a call's result, where what it ensures is stated of the arguments as the machine has them
pub through : {n : ℕ} {v w z : ℤ} → v ≡ w → Is n w z → Is n v z
through e i = record { same = e ∙ i.same; within = i.within }

-- ---- what a number is worth after its bits, and what a test of the bits says of it
pub back : {x : ℤ} → SFits w64 x → to_z w64 (of_z w64 x) ≡ x
back {x} f = to_z-of_z w64 x f

pub plain : (t : ℤ → ℤ → Bool) {x y : ℤ} {b : Bool} → SFits w64 x → SFits w64 y → t (to_z w64 (of_z w64 x)) (to_z w64 (of_z w64 y)) ≡ b → t x y ≡ b
plain t fx fy e = sym (ap₂ t (back fx) (back fy)) ∙ e

pub zero_fits : SFits w64 (pos 0)
zero_fits = within_fits {n = 0} tt (within_zero 0)

-- a bounded number, read back from its bits
pub within_bits : {m : ℕ} (n : ℕ) {z : ℤ} → T (ltb m (2 ^ 63)) → T (leb m n) → Within m z → Within n (to_z w64 (of_z w64 z))
within_bits n {z} t u h = subst⁻¹ (Within n) (back (within_fits t h)) (within_more u h)

-- what a callee ensures of a signed argument is so of the number
pub heard : {A : Type 0} (f : ℤ → A) {x : ℤ} {r : A} → SFits w64 x → r ≡ f (to_z w64 (of_z w64 x)) → r ≡ f x
heard f fx e = e ∙ ap f (back fx)

pub heard₂ : {A : Type 0} (f : ℤ → ℤ → A) {x y : ℤ} {r : A} → SFits w64 x → SFits w64 y → r ≡ f (to_z w64 (of_z w64 x)) (to_z w64 (of_z w64 y)) → r ≡ f x y
heard₂ f fx fy e = e ∙ ap₂ f (back fx) (back fy)

pub heard₃ : {A : Type 0} (f : ℤ → ℤ → ℤ → A) {x y z : ℤ} {r : A} → SFits w64 x → SFits w64 y → SFits w64 z → r ≡ f (to_z w64 (of_z w64 x)) (to_z w64 (of_z w64 y)) (to_z w64 (of_z w64 z)) → r ≡ f x y z
heard₃ f fx fy fz e = e ∙ (λ k. f (back fx k) (back fy k) (back fz k))

-- what its test says of the number
pub told : (f : ℤ → Bool) {x : ℤ} {r b : Bool} → SFits w64 x → r ≡ f (to_z w64 (of_z w64 x)) → r ≡ b → f x ≡ b
told f fx e q = sym (heard f fx e) ∙ q

-- equal bits are equal numbers
pub equal_bits : {x y : ℤ} → SFits w64 x → SFits w64 y → eqb (of_z w64 x) (of_z w64 y) ≡ (le_z x y && le_z y x)
equal_bits {x} {y} fx fy = alike (eqb (of_z w64 x) (of_z w64 y)) (le_z x y) (le_z y x)
    (λ t. from (sym (back fx) ∙ ap (to_z w64) (eqb→eq (of_z w64 x) (of_z w64 y) t) ∙ back fy))
    (λ s t. subst (λ (z : ℤ). T (eqb (of_z w64 x) (of_z w64 z))) (≤ℤ_antisym {a = x} {b = y} (le_z_yes s) (le_z_yes t)) (eqb_refl (of_z w64 x)))
  where
    alike : (b c d : Bool) → (T b → T c × T d) → (T c → T d → T b) → b ≡ (c && d)
    alike true true true f g = refl
    alike true false d f g = absurd (f tt).0
    alike true true false f g = absurd (f tt).1
    alike false true true f g = absurd (g tt tt)
    alike false true false f g = refl
    alike false false d f g = refl

    from : x ≡ y → T (le_z x y) × T (le_z y x)
    from e = subst (λ (z : ℤ). T (le_z x z) × T (le_z z x)) e ((≤ℤ_refl x).le, (≤ℤ_refl x).le)
