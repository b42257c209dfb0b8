-- Words of four and eight bytes: their lengths, a number from its bytes and to them, a whole number from its 32 bits and to them. Assumes nothing.
use mathlib.Core.Path.{◌≡◌, refl, sym, ap, ◌∙◌}
use mathlib.Core.List.{List, [], ◌∷◌}
use Prim.Native.Nat.{ℕ, ◌+◌, ◌-◌, ◌*◌, ◌/◌, ◌%◌, ◌≤◌, ◌<◌}
use native.Mathlib.Omega.{arith}
use native.Mathlib.Nat.{div-div-eq-div-mul, div-add-mod', mod-eq_of_lt}
use borrow.Author.Tests.{lt-ltb, le-ltb}
use lib.IntN.{ℤ, pos, negsuc, ◌-ℤ◌}
use lib.ListN.{length, get_or, length-append}
use mir.Syntax.{w32, w64}
use mir.Val.{to_z, of_z, SFits}
use Rattle.std.specs.Int.{to_le_bytes}
use Rattle.std.proofs.lemmas.Int.{to_z-of_z}
use Rattle.exact.specs.Within.{Within}
use Rattle.exact.proofs.IntegerOrder.{zarith}
use Rattle.exact.proofs.Size.{within_of_bounds, within_fits}
use Rattle.exact.proofs.Signed.{back}
use Rattle.tree.specs.Box.{unshifted}
use Rattle.tree.proofs.ShiftedLaws.{unshifted_parts}
use Rattle.table.specs.Table.{word4, word8, bits, state_word}
use Rattle.table.specs.Read.{twos_complement}
use Rattle.table.specs.Bounds.{FitsI32}

pub length_word4 : (x : ℕ) → length (word4 x) ≡ 4
unfolding word4
length_word4 x = refl

pub length_word8 : (x : ℕ) → length (word8 x) ≡ 8
unfolding word8
length_word8 x = simp (length-append, length_word4)

-- a number is the sum of its four bytes, each at its place
pub digits : (x : ℕ) → x < 4294967296 → x % 256 + x / 256 % 256 * 256 + x / 65536 % 256 * 65536 + x / 16777216 % 256 * 16777216 ≡ x
digits x h =
    sum x _ _ _ _ _ _ _ (div-add-mod' x 256)
    (ap (λ (n : ℕ). n * 256 + x / 256 % 256) (sym (div-div-eq-div-mul x 256 256)) ∙ div-add-mod' (x / 256) 256)
    (ap (λ (n : ℕ). n * 256 + x / 65536 % 256) (sym (div-div-eq-div-mul x 65536 256)) ∙ div-add-mod' (x / 65536) 256)
    (mod-eq_of_lt (omega arith))
  where
    sum : (x p q r a b c d : ℕ) → p * 256 + a ≡ x → q * 256 + b ≡ p → r * 256 + c ≡ q → d ≡ r → a + b * 256 + c * 65536 + d * 16777216 ≡ x
    sum x p q r a b c d e f g h = omega arith

-- and of its two words
pub two_words : (x : ℕ) {low high : ℕ} → low ≡ x % 4294967296 → high ≡ x / 4294967296 → low + high * 4294967296 ≡ x
two_words x e f = omega arith

-- ---- the bytes that the code takes a number apart to
-- all of a u64
pub word8_bytes : (x : ℕ) {b : List ℕ} → b ≡ to_le_bytes w64 x → b ≡ word8 x
unfolding word8 word4
word8_bytes x e =
    let first : x % 256 ≡ x % 4294967296 % 256 = omega arith in
    let second : x / 256 % 256 ≡ x % 4294967296 / 256 % 256 = omega arith in
    let third : x / 65536 % 256 ≡ x % 4294967296 / 65536 % 256 = omega arith in
    let fourth : x / 16777216 % 256 ≡ x % 4294967296 / 16777216 % 256 = omega arith in
    let fifth : x / 1099511627776 % 256 ≡ x / 4294967296 / 256 % 256 = omega arith in
    let sixth : x / 281474976710656 % 256 ≡ x / 4294967296 / 65536 % 256 = omega arith in
    let seventh : x / 72057594037927936 % 256 ≡ x / 4294967296 / 16777216 % 256 = omega arith in
    e ∙ (λ i. first i ∷ second i ∷ third i ∷ fourth i ∷ x / 4294967296 % 256 ∷ fifth i ∷ sixth i ∷ seventh i ∷ [])

-- the first four, as a u32
pub word4_bytes : (x : ℕ) {b : List ℕ} → b ≡ to_le_bytes w64 x → get_or b 0 0 ∷ get_or b 1 0 ∷ get_or b 2 0 ∷ get_or b 3 0 ∷ [] ≡ word4 x
unfolding word4
word4_bytes x e = ap (λ (b : List ℕ). get_or b 0 0 ∷ get_or b 1 0 ∷ get_or b 2 0 ∷ get_or b 3 0 ∷ []) e

-- a tick, from its shifted coordinate, as an i32
pub tick_bytes : (u : ℕ) → u ≤ 2097152 → {z : ℤ} → z ≡ unshifted u → {b : List ℕ}
    → b ≡ to_le_bytes w32 (of_z w32 (to_z w32 (of_z w32 (to_z w64 (of_z w64 z))))) → b ≡ word4 (bits (unshifted u))
unfolding word4
tick_bytes u h {z} e f =
    f ∙ ap (λ (t : ℤ). to_le_bytes w32 (of_z w32 (to_z w32 (of_z w32 (to_z w64 (of_z w64 t)))))) e
    ∙ ap (λ (t : ℤ). to_le_bytes w32 (of_z w32 (to_z w32 (of_z w32 t)))) (back (within_fits {n = 1048576} tt tick))
    ∙ ap (λ (t : ℤ). to_le_bytes w32 (of_z w32 t)) (to_z-of_z w32 (unshifted u) (fits (unshifted u) tick))
    ∙ ap (to_le_bytes w32) (same_bits (unshifted u))
  where
    tick : Within 1048576 (unshifted u)
    tick = within_of_bounds 1048576 (omega (zarith, unshifted_parts u)) (omega (zarith, unshifted_parts u))

    fits : (t : ℤ) → Within 1048576 t → SFits w32 t
    fits (pos n) w = record { sfits = omega (arith, w.abs) }
    fits (negsuc n) w = record { sfits = omega (arith, w.abs) }

    same_bits : (t : ℤ) → of_z w32 t ≡ bits t
    same_bits (pos n) = refl
    same_bits (negsuc n) = omega arith

-- ---- the 32 bits of a whole number
pub twos_complement_low : (w : ℕ) → w < 2147483648 → twos_complement w ≡ pos w
twos_complement_low w h = rw (lt-ltb w 2147483648 h)

pub twos_complement_high : (w : ℕ) → 2147483648 ≤ w → w < 4294967296 → twos_complement w ≡ pos w -ℤ pos 4294967296
twos_complement_high w h k = rw (le-ltb w 2147483648 h, lt-ltb w 4294967296 k) (ap negsuc (omega arith))

-- an i32 comes back from its bits, which are a u32
pub twos_complement_bits : (z : ℤ) → FitsI32 z → twos_complement (bits z) ≡ z
twos_complement_bits (pos n) h = twos_complement_low n (omega (zarith, h.most))
twos_complement_bits (negsuc n) h =
    let k : n ≤ 2147483647 = omega (zarith, h.least) in
    twos_complement_high (4294967295 - n) (omega arith) (omega arith) ∙ rw (lt-ltb (4294967295 - n) 4294967296 (omega arith)) (ap negsuc (omega arith))

pub bits_below : (z : ℤ) → FitsI32 z → bits z < 4294967296
bits_below (pos n) h = omega (zarith, h.most)
bits_below (negsuc n) h = omega arith

-- ---- the state word as a number of 32 bits: the code writes its bytes, and this law of the number stands since documents name it
two_bytes : (s d : ℕ) → s < 256 → d < 256 → word4 (s + 256 * d) ≡ s ∷ d ∷ 0 ∷ 0 ∷ []
unfolding word4
two_bytes s d h k =
    let first : (s + 256 * d) % 256 ≡ s = omega arith in
    let second : (s + 256 * d) / 256 ≡ d = omega arith in
    let third : (s + 256 * d) / 65536 ≡ 0 = omega arith in
    let fourth : (s + 256 * d) / 16777216 ≡ 0 = omega arith in
    λ i. first i ∷ (ap (λ (n : ℕ). n % 256) second ∙ mod-eq_of_lt k) i ∷ third i % 256 ∷ fourth i % 256 ∷ []

pub state_word_lem : (state depth : ℕ) → word4 (state % 256 + 256 * (depth % 256)) ≡ state_word state depth
unfolding state_word
state_word_lem state depth = two_bytes (state % 256) (depth % 256) (omega arith) (omega arith)
