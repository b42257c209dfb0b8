-- Runs of stores, one after the other. Assumes nothing.
use mathlib.Core.Path.{◌≡◌, refl, sym, ap, ◌∙◌}
use mathlib.Core.List.{List, [], ◌∷◌, ◌++◌, append_assoc}
use Prim.Native.Nat.{ℕ, suc, ◌+◌, ◌≤◌, ◌<◌}
use native.Mathlib.Omega.{arith}
use native.Mathlib.Nat.{add-zero, add-suc, suc-add}
use lib.ListN.{length, set, get_or, take, drop}
use lib.Seq.{sets, sets-eq, length-take-le}
use borrow.Rule.Slice.PartMut.{put_mid}
use Rattle.std.proofs.lemmas.List.{take_more, drop-drop}

pub sets_append : (vs ws l : List ℕ) (i : ℕ) → sets (sets l i vs) (i + length vs) ws ≡ sets l i (vs ++ ws)
sets_append [] ws l i = ap (λ (k : ℕ). sets l k ws) (add-zero i)
sets_append (v ∷ vs) ws l i =
    ap (λ (k : ℕ). sets (sets (set l i v) (suc i) vs) k ws) (add-suc i (length vs) ∙ sym (suc-add i (length vs)))
    ∙ sets_append vs ws (set l i v) (suc i)

-- a run of stores, and then one that starts where it ended
pub sets_then : (l : List ℕ) (i : ℕ) (vs ws : List ℕ) {m r : List ℕ} {j : ℕ} → m ≡ sets l i vs → r ≡ sets m j ws → j ≡ i + length vs → r ≡ sets l i (vs ++ ws)
sets_then l i vs ws e f g = f ∙ (λ k. sets (e k) (g k) ws) ∙ sets_append vs ws l i

-- a run of a list's first elements, and the next
pub one_more : (l vs : List ℕ) (at i d : ℕ) {m : List ℕ} → i < length vs → m ≡ sets l at (take i vs)
    → set m (at + i) (get_or vs i d) ≡ sets l at (take (i + 1) vs)
one_more l vs at i d {m} h e =
    let v : ℕ = get_or vs i d in
    sets_then l at (take i vs) (v ∷ []) {r = set m (at + i) v} e refl (ap (λ (k : ℕ). at + k) (sym (length-take-le i vs (omega arith))))
    ∙ ap (sets l at) (sym (take_more vs i d h))

-- a part of a slice written over: n bytes from `at` on
pub part_stored : (l : List ℕ) (at : ℕ) (vs : List ℕ) {ws : List ℕ} {n : ℕ} → ws ≡ vs → n ≡ length vs → at + length vs ≤ length l
    → put_mid at n l ws ≡ sets l at vs
part_stored l at vs e f h =
    (λ k. take at l ++ (e k ++ drop (f k) (drop at l)))
    ∙ ap (λ (r : List ℕ). take at l ++ (vs ++ r)) (drop-drop (length vs) at l)
    ∙ sym (append_assoc (take at l) vs (drop (at + length vs) l))
    ∙ sym (sets-eq vs l at h)
