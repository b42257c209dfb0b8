-- Fractions of whole numbers, never reduced: the one notion of fraction in this repository.
-- Order and equality are by cross multiplication. Definitions only; assumes nothing.
use Rattle.std.specs.Prelude.{◌≡◌, Bool, cond, not, ◌&&◌, ℕ, zero, suc, ◌*◌, ◌<◌, ℤ, pos, neg_ℤ, ◌+ℤ◌, ◌-ℤ◌, ◌*ℤ◌, ◌≤ℤ◌, ◌<ℤ◌}
use Rattle.std.proofs.Common.{mul-pos, zero-lt-suc, lit<}
use Rattle.std.specs.Int.Signed.{lt_z}

pub record Fraction : Type 0 where
  pub num : ℤ
  pub den : ℕ
  pub den_pos : 0 < den

-- the denominator as a whole number
abbrev pub den_z : Fraction → ℤ
den_z a = pos a.den

-- z over d
abbrev pub ratio : ℤ → (d : ℕ) → 0 < d → Fraction
ratio z d h = record { num = z; den = d; den_pos = h }

-- z over 1
abbrev pub whole : ℤ → Fraction
whole z = ratio z 1 (lit< tt)

abbrev pub zero_f : Fraction
zero_f = whole (pos 0)

abbrev pub one_f : Fraction
one_f = whole (pos 1)

-- ---- sums and products
infixl 6 ◌+F◌ ◌-F◌
infixl 7 ◌*F◌
unfoldable pub ◌+F◌ : Fraction → Fraction → Fraction
a +F b = ratio (a.num *ℤ den_z b +ℤ b.num *ℤ den_z a) (a.den * b.den) (mul-pos a.den_pos b.den_pos)

unfoldable pub ◌-F◌ : Fraction → Fraction → Fraction
a -F b = ratio (a.num *ℤ den_z b -ℤ b.num *ℤ den_z a) (a.den * b.den) (mul-pos a.den_pos b.den_pos)

unfoldable pub ◌*F◌ : Fraction → Fraction → Fraction
a *F b = ratio (a.num *ℤ b.num) (a.den * b.den) (mul-pos a.den_pos b.den_pos)

unfoldable pub neg_f : Fraction → Fraction
neg_f a = ratio (neg_ℤ a.num) a.den a.den_pos

-- a over n. Over zero it would be no fraction; zero stands there, and nothing is divided so
infixl 7 ◌/F◌
unfoldable pub ◌/F◌ : Fraction → ℕ → Fraction
a /F zero = zero_f
a /F suc n = ratio a.num (a.den * suc n) (mul-pos a.den_pos (zero-lt-suc n))

-- ---- order and equality
infix 4 ◌≤F◌ ◌<F◌ ◌≈F◌
pub record ◌≤F◌ (a b : Fraction) : Type 0 where
  pub le : (a.num *ℤ den_z b) ≤ℤ (b.num *ℤ den_z a)

pub record ◌<F◌ (a b : Fraction) : Type 0 where
  pub lt : (a.num *ℤ den_z b) <ℤ (b.num *ℤ den_z a)

pub record ◌≈F◌ (a b : Fraction) : Type 0 where
  pub eq : a.num *ℤ den_z b ≡ b.num *ℤ den_z a

-- the size of x is at most a
pub record AbsF (x a : Fraction) : Type 0 where
  pub low : neg_f a ≤F x
  pub high : x ≤F a

-- whether a is below b
abbrev pub below_f : Fraction → Fraction → Bool
below_f a b = lt_z (a.num *ℤ den_z b) (b.num *ℤ den_z a)

-- whether they are equal
abbrev pub equal_f : Fraction → Fraction → Bool
equal_f a b = not (below_f a b) && not (below_f b a)

-- the lesser and the greater of two
unfoldable pub min_f : Fraction → Fraction → Fraction
min_f a b = cond (below_f b a) b a

unfoldable pub max_f : Fraction → Fraction → Fraction
max_f a b = cond (below_f a b) b a

-- t held to 0..l
unfoldable pub held_f : Fraction → Fraction → Fraction
unfolding min_f max_f
held_f t l = min_f (max_f t zero_f) l
