-- What the stores of each writer leave. Assumes nothing.
use mathlib.Core.Path.{◌≡◌, refl, sym, ap, ◌∙◌}
use mathlib.Core.List.{List, ◌++◌}
use Prim.Native.Nat.{ℕ, ◌+◌}
use native.Mathlib.Omega.{arith}
use lib.ListN.{length-append, replicate}
use lib.Seq.{sets}
use Rattle.tree.specs.Box.{Box, unshifted, box_of}
use Rattle.tree.specs.declared.ShiftedBox.{ShiftedBox}
use Rattle.tree.proofs.Coordinates.{coordinates}
use Rattle.table.specs.declared.Head.{Head}
use Rattle.table.specs.Table.{word4, word8, bits, head_bytes, state_word, cell_bytes}
use Rattle.table.specs.Read.{state_offset, coordinates_offset}
use Rattle.table.proofs.Stores.{sets_then}
use Rattle.table.proofs.Words.{length_word4, length_word8}
use Rattle.table.proofs.Slots.{length_state}

zero_word : word4 0 ≡ replicate 4 0
unfolding word4
zero_word = refl

-- slot 0
pub head_stored : (l : List ℕ) (h : Head) {m n o p q r : List ℕ} → m ≡ sets l 0 (word4 h.first) → n ≡ sets m 4 (word4 h.cells)
    → o ≡ sets n 8 (word4 h.evaluated) → p ≡ sets o 12 (word8 h.solid) → q ≡ sets p 20 (word8 h.«open») → r ≡ sets q 28 (word4 0)
    → r ≡ sets l 0 (head_bytes h)
unfolding head_bytes
head_stored l h e1 e2 e3 e4 e5 e6 =
    let two : List ℕ = word4 h.first ++ word4 h.cells in
    let three : List ℕ = two ++ word4 h.evaluated in
    let four : List ℕ = three ++ word8 h.solid in
    let five : List ℕ = four ++ word8 h.«open» in
    sets_then l 0 five (word4 0)
    (sets_then l 0 four (word8 h.«open»)
    (sets_then l 0 three (word8 h.solid)
    (sets_then l 0 two (word4 h.evaluated)
    (sets_then l 0 (word4 h.first) (word4 h.cells) e1 e2 (simp length_word4)) e3
    (simp (length-append, length_word4))) e4
    (simp (length-append, length_word4))) e5
    (simp (length-append, length_word4, length_word8))) e6
    (simp (length-append, length_word4, length_word8))
    ∙ ap (λ (w : List ℕ). sets l 0 (five ++ w)) zero_word

-- three coordinates
abbrev corner : ℕ → ℕ → ℕ → List ℕ
corner x y z = word4 (bits (unshifted x)) ++ word4 (bits (unshifted y)) ++ word4 (bits (unshifted z))

pub corner_stored : (l : List ℕ) (at x y z : ℕ) {m n r : List ℕ} → m ≡ sets l at (word4 (bits (unshifted x)))
    → n ≡ sets m (at + 4) (word4 (bits (unshifted y))) → r ≡ sets n (at + 8) (word4 (bits (unshifted z))) → r ≡ sets l at (corner x y z)
corner_stored l at x y z e f g =
    let one : List ℕ = word4 (bits (unshifted x)) in
    let two : List ℕ = word4 (bits (unshifted y)) in
    sets_then l at (one ++ two) (word4 (bits (unshifted z))) (sets_then l at one two e f (simp length_word4)) g (simp (length-append, length_word4))

-- the slot of a cell
pub cell_stored : (l : List ℕ) (at next state depth : ℕ) (b : ShiftedBox) {j k : ℕ} {m n p r : List ℕ} → m ≡ sets l at (word4 next)
    → n ≡ sets m (at + state_offset) (state_word state depth) → p ≡ sets n j (corner b.x.low b.y.low b.z.low) → r ≡ sets p k (corner b.x.high b.y.high b.z.high)
    → j ≡ at + coordinates_offset → k ≡ at + coordinates_offset + 12
    → r ≡ sets l at (cell_bytes next (record { state = state; depth = depth; box = box_of b }))
unfolding cell_bytes
cell_stored l at next state depth b e f g h ej ek =
    let lows : List ℕ = corner b.x.low b.y.low b.z.low in
    let highs : List ℕ = corner b.x.high b.y.high b.z.high in
    sets_then l at (word4 next ++ state_word state depth ++ lows) highs
    (sets_then l at (word4 next ++ state_word state depth) lows
    (sets_then l at (word4 next) (state_word state depth) e f (simp length_word4)) g
    (ej ∙ simp (length-append, length_word4, length_state))) h
    (ek ∙ simp (length-append, length_word4, length_state) (omega arith))
    ∙ ap (λ (c : Box). sets l at (cell_bytes next (record { state = state; depth = depth; box = c }))) (sym (coordinates b))
