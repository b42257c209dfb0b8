-- A line has 153 bytes at most: 17 numbers of eight, and one byte after each. So the first 256 bytes of a text decide what is printed of it.
-- Assumes nothing.
use mathlib.Core.Path.{◌≡◌, refl, sym, ap, ◌∙◌, subst}
use mathlib.Core.Bool.{Bool, true, false, cond}
use mathlib.Core.List.{List, [], ◌∷◌, ◌++◌}
use Prim.Native.Nat.{ℕ, zero, suc, ◌+◌, ◌-◌, ◌*◌, ◌≤◌, ◌<◌}
use native.Mathlib.Omega.{arith}
use lib.Dec.{eqb, ltb}
use lib.IntN.{ℤ}
use lib.ListN.{length, take}
use lib.Seq.{length-take-le, take_all}
use borrow.Author.Tests.{ltb-true, ltb-false, eqb-true}
use Rattle.std.specs.Prelude.{Option, Some, None, option_and_then}
use Rattle.std.specs.Option.{option_map_or}
use Rattle.text.specs.declared.parse.Read.{Read}
use Rattle.text.specs.Ascii.{minus, nought}
use Rattle.text.specs.Line.{byte_at, is_digit, digits_at, with_minus, some_digits, number_at, separator, line_from, line_of}
use Rattle.text.specs.Listing.{refused_text}
use Rattle.text.specs.Cells.{walked_text, cells_text}

-- ---- digits and a number
either : (b : Bool) (d e : Read ℕ) {n : ℕ} → d.next ≤ n → e.next ≤ n → (cond b d e).next ≤ n
either true d e h k = h
either false d e h k = k

digits_end : (most v : ℕ) (t : List ℕ) (i : ℕ) → (digits_at most v t i).next ≤ i + most
unfolding digits_at
digits_end zero v t i = omega arith
digits_end (suc most) v t i =
    let more = 10 * v + (byte_at t i - nought) in
    either (is_digit (byte_at t i)) (digits_at most more t (i + 1)) (record { value = v; next = i }) (omega (arith, digits_end most more t (i + 1))) (omega arith)

-- a number, if there is one, ends before n or there
abbrev Ends : ℕ → Option (Read ℤ) → Type 0
Ends n None = Unit {0}
Ends n (Some x) = x.next ≤ n

some_ends : (n : ℕ) (below : Bool) (i : ℕ) (d : Read ℕ) → d.next ≤ n → Ends n (some_digits below i d)
some_ends n below i d h = go (eqb d.next i)
  where
    go : (b : Bool) → Ends n (cond b None (Some (record { value = with_minus below d.value; next = d.next })))
    go true = tt
    go false = h

number_end : (t : List ℕ) (i : ℕ) → Ends (i + 8) (number_at t i)
unfolding number_at
number_end t i = go (eqb (byte_at t i) minus)
  where
    go : (b : Bool) → Ends (i + 8) (cond b (some_digits true (i + 1) (digits_at 7 0 t (i + 1))) (some_digits false i (digits_at 7 0 t i)))
    go true = some_ends (i + 8) true (i + 1) (digits_at 7 0 t (i + 1)) (omega (arith, digits_end 7 0 t (i + 1)))
    go false = some_ends (i + 8) false i (digits_at 7 0 t i) (omega (arith, digits_end 7 0 t i))

-- ---- the line: a text that is one has n bytes at most
abbrev Most : ℕ → ℕ → Option (List ℤ) → Type 0
Most bytes n None = Unit {0}
Most bytes n (Some ns) = bytes ≤ n

most_more : (bytes : ℕ) {n m : ℕ} (l : Option (List ℤ)) → n ≤ m → Most bytes n l → Most bytes m l
most_more bytes None h k = tt
most_more bytes (Some ns) h k = omega (arith, h, k)

line_step : (bytes left i : ℕ) (n : Option (Read ℤ)) (ends : ℕ → Bool) (rest : Read ℤ → Option (List ℤ)) → Ends (i + 8) n
    → ((m : Read ℤ) → Most bytes (m.next + 1 + 9 * left) (rest m))
    → Most bytes (i + 9 * suc left) (option_and_then (λ m. cond (ends m.next) (rest m) None) n)
line_step bytes left i None ends rest h f = tt
line_step bytes left i (Some m) ends rest h f = go (ends m.next)
  where
    go : (b : Bool) → Most bytes (i + 9 * suc left) (cond b (rest m) None)
    go true = most_more bytes (rest m) (omega (arith, h)) (f m)
    go false = tt

line_done : (i bytes : ℕ) (ns : List ℤ) (b : Bool) → eqb i bytes ≡ b → Most bytes (i + 9 * 0) (cond b (Some ns) None)
line_done i bytes ns true e = omega (arith, eqb-true i bytes e)
line_done i bytes ns false e = tt

line_end : (left : ℕ) (ns : List ℤ) (t : List ℕ) (i : ℕ) → Most (length t) (i + 9 * left) (line_from left ns t i)
unfolding line_from
line_end zero ns t i = line_done i (length t) ns (eqb i (length t)) refl
line_end (suc left) ns t i =
    line_step (length t) left i (number_at t i) (λ next. eqb (byte_at t next) (separator left)) (λ m. line_from left (ns ++ (m.value ∷ [])) t (m.next + 1))
    (number_end t i)
    (λ m. line_end left (ns ++ (m.value ∷ [])) t (m.next + 1))

pub longest : (t : List ℕ) {ns : List ℤ} → line_of t ≡ Some ns → length t ≤ 153
unfolding line_of
longest t e = subst (λ (l : Option (List ℤ)). Most (length t) 153 l) e (line_end 17 [] t 0)

-- ---- what is printed
pub long_refused : (t : List ℕ) → 153 < length t → cells_text t ≡ refused_text 14
unfolding cells_text
long_refused t h = go (line_of t) refl
  where
    go : (l : Option (List ℤ)) → line_of t ≡ l → option_map_or walked_text (line_of t) (refused_text 14) ≡ refused_text 14
    go (Some ns) e = absurd (omega (arith, longest t e))
    go None e = rw e

-- a text and its first 256 bytes are printed alike
pub front_decides : (t : List ℕ) → cells_text (take 256 t) ≡ cells_text t
front_decides t = go (ltb 256 (length t)) refl
  where
    go : (b : Bool) → ltb 256 (length t) ≡ b → cells_text (take 256 t) ≡ cells_text t
    go true e =
        let h = ltb-true 256 (length t) e in
        long_refused (take 256 t) (omega (arith, length-take-le 256 t (omega arith))) ∙ sym (long_refused t (omega arith))
    go false e = ap cells_text (take_all 256 t (ltb-false 256 (length t) e))
