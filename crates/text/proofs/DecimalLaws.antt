-- A number in decimal: its digits before the last, and the last; how many there are. Assumes nothing.
use mathlib.Core.Path.{◌≡◌, refl, sym, ap, ◌∙◌}
use mathlib.Core.List.{List, [], ◌∷◌, ◌++◌}
use Prim.Native.Nat.{ℕ, zero, suc, ◌+◌, ◌*◌, ◌/◌, ◌%◌, ◌^◌, ◌≤◌, ◌<◌}
use native.Mathlib.Omega.{arith}
use native.Mathlib.Nat.{pow-suc}
use borrow.Author.Tests.{lt-ltb, le-ltb, ltb-true, ltb-false}
use lib.Dec.{ltb}
use lib.IntN.{ℤ, pos, nat_abs}
use lib.Signed.{lt_z}
use lib.ListN.{length, length-append}
use mathlib.Core.Bool.{Bool, true, false}
use Rattle.text.specs.Decimal.{digits_within, decimal, signed_decimal}

digit : (most n : ℕ) → n < 10 → digits_within (suc most) n ≡ (48 + n) ∷ []
unfolding digits_within
digit most n h =
    ap (λ (b : Bool). elim b as (λ _. List ℕ) [ true ↦ (48 + n) ∷ [] | false ↦ digits_within most (n / 10) ++ ((48 + n % 10) ∷ []) ]) (lt-ltb n 10 h)

digits : (most n : ℕ) → 10 ≤ n → digits_within (suc most) n ≡ digits_within most (n / 10) ++ ((48 + n % 10) ∷ [])
unfolding digits_within
digits most n h =
    ap (λ (b : Bool). elim b as (λ _. List ℕ) [ true ↦ (48 + n) ∷ [] | false ↦ digits_within most (n / 10) ++ ((48 + n % 10) ∷ []) ]) (le-ltb n 10 h)

-- room for more digits than there are changes nothing
digits_enough : (f g n : ℕ) → n < f → n < g → digits_within f n ≡ digits_within g n
digits_enough zero g n h k = absurd (omega arith)
digits_enough (suc f) zero n h k = absurd (omega arith)
digits_enough (suc f) (suc g) n h k = go (ltb n 10) refl (λ p. digits_enough f g (n / 10) (omega arith) (omega arith))
  where
    go : (b : Bool) → ltb n 10 ≡ b → (10 ≤ n → digits_within f (n / 10) ≡ digits_within g (n / 10)) → digits_within (suc f) n ≡ digits_within (suc g) n
    go true e fewer = let small = ltb-true n 10 e in digit f n small ∙ sym (digit g n small)
    go false e fewer =
        let big = ltb-false n 10 e in
        digits f n big ∙ ap (λ (x : List ℕ). x ++ ((48 + n % 10) ∷ [])) (fewer big) ∙ sym (digits g n big)

pub decimal_digit : (n : ℕ) → n < 10 → decimal n ≡ (48 + n) ∷ []
unfolding decimal
decimal_digit n h = digit n n h

pub decimal_digits : (n : ℕ) → 10 ≤ n → decimal n ≡ decimal (n / 10) ++ ((48 + n % 10) ∷ [])
unfolding decimal
decimal_digits n h =
    digits n n h ∙ ap (λ (x : List ℕ). x ++ ((48 + n % 10) ∷ [])) (digits_enough n (suc (n / 10)) (n / 10) (omega arith) (omega arith))

pub length_digit : (n : ℕ) → n < 10 → length (decimal n) ≡ 1
length_digit n h = rw (decimal_digit n h)

pub length_digits : (n : ℕ) → 10 ≤ n → length (decimal n) ≡ length (decimal (n / 10)) + 1
length_digits n h = rw (decimal_digits n h, length-append (decimal (n / 10)) ((48 + n % 10) ∷ []))

-- a number below 10^k has k digits at most
pub few_digits : (k n : ℕ) → n < 10 ^ suc k → length (decimal n) ≤ suc k
few_digits zero n h = let small = length_digit n h in omega arith
few_digits (suc k) n h = go (ltb n 10) refl (λ p. few_digits k (n / 10) (fewer (10 ^ suc k) (rw pow-suc at h)))
  where
    fewer : (x : ℕ) → n < x * 10 → n / 10 < x
    fewer x h = omega arith

    go : (b : Bool) → ltb n 10 ≡ b → (10 ≤ n → length (decimal (n / 10)) ≤ suc k) → length (decimal n) ≤ suc (suc k)
    go true e less = omega (arith, length_digit n (ltb-true n 10 e))
    go false e less = let big = ltb-false n 10 e in omega (arith, length_digits n big, less big)

pub signed_below : (z : ℤ) → lt_z z (pos 0) ≡ true → signed_decimal z ≡ (45 ∷ []) ++ decimal (nat_abs z)
unfolding signed_decimal
signed_below z e = rw e

pub length_signed_below : (z : ℤ) → lt_z z (pos 0) ≡ true → length (signed_decimal z) ≡ length (decimal (nat_abs z)) + 1
length_signed_below z e = rw (signed_below z e) (omega arith)

pub signed_above : (z : ℤ) → lt_z z (pos 0) ≡ false → signed_decimal z ≡ decimal (nat_abs z)
unfolding signed_decimal
signed_above z e = rw e
