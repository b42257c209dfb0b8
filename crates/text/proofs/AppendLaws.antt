-- Texts put one behind the other. Assumes nothing.
use mathlib.Core.Path.{◌≡◌, refl, sym, ap, ◌∙◌}
use mathlib.Core.List.{List, ◌++◌}
use Prim.Native.Nat.{ℕ, ◌+◌, ◌-◌, ◌≤◌}
use native.Mathlib.Nat.{zero-add}
use native.Mathlib.Omega.{arith}
use lib.ListN.{length, take, drop, length-append}
use lib.Seq.{sets, sets-eq, length-sets, length-take-le, take_all, take_at, drop_at}
use borrow.Rule.Slice.PartMut.{put_mid}
use Rattle.std.proofs.lemmas.Slice.{put_mid-paste}
use Rattle.table.proofs.Stores.{sets_then}
use Rattle.text.specs.declared.print.Text.{Text}
use Rattle.text.specs.Listing.{Front}
use Rattle.text.specs.Appended.{Appended}

-- a text, and then another behind it
pub then_appended : {l m n : Text} (s t : List ℕ) → Appended l s m → Appended m t n → Appended l (s ++ t) n
then_appended {l} s t a b = record {
  written = sets_then l.out.now l.at s t a.written b.written a.at_is;
  at_is = omega (arith, a.at_is, b.at_is, length-append s t);
  lent = b.lent ∙ a.lent;
}

-- the same text in other words
pub as_appended : {l m : Text} {s t : List ℕ} → t ≡ s → Appended l s m → Appended l t m
as_appended {l} {m} e a = rw e a

-- a text copied over a part of the bytes is that text stored there
pub copied : (l : List ℕ) (at : ℕ) (s : List ℕ) {ys : List ℕ} → ys ≡ s → at + length s ≤ length l → put_mid at (at + length s - at) l ys ≡ sets l at s
copied l at s {ys} e h =
    put_mid-paste at (at + length s - at) l ys s (length s) e (omega arith) refl
    ∙ ap (λ (x : List ℕ). take at l ++ x ++ drop (at + length s) l) (take_all (length s) s (omega arith))
    ∙ sym (sets-eq s l at h)

-- the bytes that were lent, x, once the text in them is written
pub bytes_after : {x : List ℕ} {l m : Text} {s : List ℕ} → x ≡ m.out.now → Appended l s m → x ≡ sets l.out.now l.at s
bytes_after e a = e ∙ a.written

-- a text from the start on, in a buffer that has room for it
pub at_front : (l : List ℕ) (s : List ℕ) {m : List ℕ} {r : ℕ} → m ≡ sets l 0 s → r ≡ length s → length s ≤ length l → Front r m
at_front l s {m} {r} e n h =
    let fits : r ≤ length m = omega (arith, n, h, ap length e, length-sets l 0 s) in
    (fits, sym (length-take-le r m fits))

-- and what a reader finds in such a buffer: the text at its front, and behind it what stood there
pub front_is : (l s : List ℕ) → length s ≤ length l → take (length s) (sets l 0 s) ≡ s
front_is l s h = ap (take (length s)) (sets-eq s l 0 (omega arith)) ∙ take_at s (drop (0 + length s) l) (length s) refl

pub behind_is : (l s : List ℕ) → length s ≤ length l → drop (length s) (sets l 0 s) ≡ drop (length s) l
behind_is l s h =
    ap (drop (length s)) (sets-eq s l 0 (omega arith))
    ∙ drop_at s (drop (0 + length s) l) (length s) refl
    ∙ ap (λ (k : ℕ). drop k l) (zero-add (length s))
