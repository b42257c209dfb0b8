-- What the reading of the line says step by step: a digit, a number, a line of so many numbers still to come. Assumes nothing.
use mathlib.Core.Path.{◌≡◌, refl, ap, ◌∙◌}
use mathlib.Core.Bool.{Bool, true, false, cond, ◌&&◌}
use mathlib.Core.List.{List, [], ◌∷◌, ◌++◌}
use Prim.Native.Nat.{ℕ, zero, suc, ◌+◌, ◌-◌, ◌*◌, ◌^◌, ◌≤◌, ◌<◌}
use native.Mathlib.Omega.{arith}
use native.Mathlib.Numerals.{add-one}
use native.Mathlib.Nat.{pow-suc, pow-zero, mul-le-mul}
use borrow.Author.Tests.{leb-true, eq-eqb, ne_eqb}
use lib.Dec.{leb, eqb, eqb-suc-zero}
use lib.IntN.{ℤ}
use lib.Seq.{take-suc-set}
use lib.ListN.{length, take, set}
use Rattle.std.specs.Prelude.{Option, Some, None, option_and_then}
use Rattle.text.specs.declared.parse.Read.{Read}
use Rattle.text.specs.Line.{byte_at, is_digit, digits_at, number_at, separator, line_from}

-- ---- a byte
pub digit_range : (b : ℕ) → is_digit b ≡ true → (48 ≤ b) × (b ≤ 57)
digit_range b e = (leb-true 48 b (left (leb 48 b) (leb b 57) e), leb-true b 57 (right (leb 48 b) (leb b 57) e))
  where
    left : (x y : Bool) → (x && y) ≡ true → x ≡ true
    left true y e = refl
    left false y e = e

    right : (x y : Bool) → (x && y) ≡ true → y ≡ true
    right true y e = e
    right false true e = refl
    right false false e = e

-- a byte that is not 0 stands within the text
pub byte_inside : (t : List ℕ) (i : ℕ) → 0 < byte_at t i → i < length t
byte_inside [] i h = absurd (omega arith)
byte_inside (b ∷ t) zero h = omega arith
byte_inside (b ∷ t) (suc i) h = omega (arith, byte_inside t i h)

-- ---- digits
module _ (v : ℕ) (t : List ℕ) (i b : ℕ) (e : b ≡ byte_at t i) where
  pub digits_step : (left : ℕ) → 0 < left → is_digit b ≡ true → digits_at left v t i ≡ digits_at (left - 1) (10 * v + (b - 48)) t (i + 1)
  unfolding digits_at
  digits_step zero h d = absurd (omega arith)
  digits_step (suc left) h d =
      let less : suc left - 1 ≡ left = omega arith in
      let d' : is_digit (byte_at t i) ≡ true = rw e at d in
      rw (less, e, d')

  pub digits_stop : (left : ℕ) → is_digit b ≡ false → digits_at left v t i ≡ record { value = v; next = i }
  unfolding digits_at
  digits_stop zero d = refl
  digits_stop (suc left) d =
      let d' : is_digit (byte_at t i) ≡ false = rw e at d in
      rw d'

pub digits_done : (v : ℕ) (t : List ℕ) (i left : ℕ) → left ≤ 0 → digits_at left v t i ≡ record { value = v; next = i }
unfolding digits_at
digits_done v t i zero h = refl
digits_done v t i (suc left) h = absurd (omega arith)

-- n digits after the value v stay below 10^7
abbrev pub Room : ℕ → ℕ → Type 0
Room left v = (v + 1) * 10 ^ left ≤ 10000000

ten_pos : (n : ℕ) → 0 < 10 ^ n
ten_pos zero = rw pow-zero (omega arith)
ten_pos (suc n) = rw pow-suc (omega (arith, ten_pos n))

pub room_below : (left v : ℕ) → Room left v → v < 10000000
room_below left v h = below (10 ^ left) (ten_pos left) h
  where
    below : (x : ℕ) → 0 < x → (v + 1) * x ≤ 10000000 → v < 10000000
    below zero p h = absurd (omega arith)
    below (suc x) p h = omega arith

pub room_step : (left v b : ℕ) → 0 < left → b ≤ 57 → Room left v → Room (left - 1) (10 * v + (b - 48))
room_step zero v b p q h = absurd (omega arith)
room_step (suc left) v b p q h =
    let less : suc left - 1 ≡ left = omega arith in
    rw less (more (10 ^ left) (rw pow-suc at h))
  where
    more : (x : ℕ) → (v + 1) * (x * 10) ≤ 10000000 → (10 * v + (b - 48) + 1) * x ≤ 10000000
    more x h = let m : (b - 48) * x ≤ 9 * x = mul-le-mul {n₁ = b - 48} {m₁ = x} {n₂ = 9} {m₂ = x} (omega arith) (omega arith) in omega (arith, m)

-- ---- the line
pub separator_above : (left : ℕ) {s : ℕ} → s ≡ separator left → 0 < s
separator_above zero e = omega (arith, e)
separator_above (suc left) e = omega (arith, e ∙ ap (λ b. cond b 10 32) (eqb-suc-zero left))

-- a number is put behind those before it
pub stored : (ns : List ℤ) (k : ℕ) {w x : ℤ} → w ≡ x → k < length ns → take k ns ++ (x ∷ []) ≡ take (k + 1) (set ns k w)
stored ns k {w} e h = rw (add-one, take-suc-set ns k w h, e)

-- the line after k of its 17 numbers
module _ (ns : List ℤ) (t : List ℕ) (i k : ℕ) where
  others : (left : ℕ) → (17 - k ≡ suc left) → line_from (17 - k) ns t i ≡ option_and_then
      (λ n. cond (eqb (byte_at t n.next) (separator left)) (line_from left (ns ++ (n.value ∷ [])) t (n.next + 1)) None) (number_at t i)
  unfolding line_from
  others left e = rw e

  pub line_no_number : k < 17 → {n : Option (Read ℤ)} → n ≡ number_at t i → n ≡ None → line_from (17 - k) ns t i ≡ None
  line_no_number h e f = others (16 - k) (omega arith) ∙ rw (← e, f)

  pub line_no_separator : k < 17 → {n : Option (Read ℤ)} {m : Read ℤ} {b s : ℕ} → n ≡ number_at t i → n ≡ Some m → b ≡ byte_at t m.next
      → s ≡ separator (16 - k) → (b ≡ s → ⊥) → line_from (17 - k) ns t i ≡ None
  line_no_separator h {b} {s} e f g q d = others (16 - k) (omega arith) ∙ rw (← e, f, ← g, ← q, ne_eqb b s d)

  pub line_step : k < 17 → {n : Option (Read ℤ)} {m : Read ℤ} {b s : ℕ} → n ≡ number_at t i → n ≡ Some m → b ≡ byte_at t m.next
      → s ≡ separator (16 - k) → b ≡ s → line_from (17 - k) ns t i ≡ line_from (17 - (k + 1)) (ns ++ (m.value ∷ [])) t (m.next + 1)
  line_step h {m} {b} {s} e f g q d =
      let less : 17 - (k + 1) ≡ 16 - k = omega arith in
      others (16 - k) (omega arith) ∙ rw (← e, f, ← g, ← q, eq-eqb b s d, less)

  line_end : 17 ≤ k → line_from (17 - k) ns t i ≡ cond (eqb i (length t)) (Some ns) None
  unfolding line_from
  line_end h = let z : 17 - k ≡ 0 = omega arith in rw z

  pub line_bytes_after : 17 ≤ k → (i ≡ length t → ⊥) → line_from (17 - k) ns t i ≡ None
  line_bytes_after h d = line_end h ∙ rw (ne_eqb i (length t) d)

  pub line_whole : 17 ≤ k → i ≡ length t → line_from (17 - k) ns t i ≡ Some ns
  line_whole h d = line_end h ∙ rw (eq-eqb i (length t) d)
