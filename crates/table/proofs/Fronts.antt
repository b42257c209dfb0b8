-- The numbers of a slot that stands at the front of a list. Assumes nothing.
use mathlib.Core.Path.{◌≡◌, refl, sym, ap, ◌∙◌, subst⁻¹}
use mathlib.Core.List.{List, ◌++◌}
use Prim.Native.Nat.{ℕ, ◌+◌, ◌*◌, ◌/◌, ◌%◌, ◌<◌}
use native.Mathlib.Omega.{arith}
use native.Mathlib.Nat.{add_assoc, mod-eq_of_lt}
use lib.IntN.{ℤ}
use lib.ListN.{drop}
use lib.Seq.{get_or-drop}
use Rattle.table.specs.declared.Head.{Head}
use Rattle.table.specs.Table.{Record, word4, word8, bits, head_bytes, state_word, cell_bytes}
use Rattle.table.specs.Read.{u8_at, u32_at, twos_complement, head_in, next_in, coordinate_in, record_in, TwoZeros}
use Rattle.table.specs.Bounds.{HeadFits, FitsI32, Fits}
use Rattle.table.proofs.Words.{digits, two_words, twos_complement_bits, bits_below}

-- ---- slot 0 at the front
pub head_front : (h : Head) (r : List ℕ) → HeadFits h → head_in (head_bytes h ++ r) ≡ h
unfolding head_bytes word8 word4
head_front h r f = λ i. record {
  first = digits h.first f.first i;
  cells = digits h.cells f.cells i;
  evaluated = digits h.evaluated f.evaluated i;
  solid = two_words h.solid (digits (h.solid % 4294967296) (omega arith)) (digits (h.solid / 4294967296) (omega (arith, f.solid))) i;
  «open» = two_words h.«open» (digits (h.«open» % 4294967296) (omega arith)) (digits (h.«open» / 4294967296) (omega (arith, f.«open»))) i;
}

-- ---- a cell at the front
coordinate : (z : ℤ) {w : ℕ} → FitsI32 z → w ≡ bits z % 256 + bits z / 256 % 256 * 256 + bits z / 65536 % 256 * 65536 + bits z / 16777216 % 256 * 16777216
    → twos_complement w ≡ z
coordinate z h e = ap twos_complement (e ∙ digits (bits z) (bits_below z h)) ∙ twos_complement_bits z h

module _ (next : ℕ) (m : Record) (r : List ℕ) where
  front_next : next < 4294967296 → next_in (cell_bytes next m ++ r) 0 ≡ next
  unfolding cell_bytes state_word word4
  front_next h = digits next h

  front_record : Fits m → record_in (cell_bytes next m ++ r) 0 ≡ m
  unfolding record_in cell_bytes state_word word4
  front_record h = λ i. record {
    state = mod-eq_of_lt h.state i;
    depth = mod-eq_of_lt h.depth i;
    box = record {
      lx = coordinate m.box.lx h.lx refl i;
      ly = coordinate m.box.ly h.ly refl i;
      lz = coordinate m.box.lz h.lz refl i;
      hx = coordinate m.box.hx h.hx refl i;
      hy = coordinate m.box.hy h.hy refl i;
      hz = coordinate m.box.hz h.hz refl i;
    };
  }

  front_zeros : TwoZeros (cell_bytes next m ++ r) 0
  unfolding cell_bytes state_word word4
  front_zeros = record { first = refl; second = refl }

-- ---- a slot further on in a list, as the front of the rest
byte_later : (t : List ℕ) (n k : ℕ) {i : ℕ} → i ≡ n + k → u8_at t i ≡ u8_at (drop n t) k
byte_later t n k e = ap (u8_at t) e ∙ sym (get_or-drop n t k 0)

pub word_later : (t : List ℕ) (n k : ℕ) {i : ℕ} → i ≡ n + k → u32_at t i ≡ u32_at (drop n t) k
word_later t n k {i} e =
    let byte0 = byte_later t n k e in
    let byte1 = byte_later t n (k + 1) (ap (λ (j : ℕ). j + 1) e ∙ add_assoc n k 1) in
    let byte2 = byte_later t n (k + 2) (ap (λ (j : ℕ). j + 2) e ∙ add_assoc n k 2) in
    let byte3 = byte_later t n (k + 3) (ap (λ (j : ℕ). j + 3) e ∙ add_assoc n k 3) in
    λ j. byte0 j + byte1 j * 256 + byte2 j * 65536 + byte3 j * 16777216

module _ (t : List ℕ) (slot : ℕ) where
  abbrev rest : List ℕ
  rest = drop (32 * slot) t

  next_later : next_in t slot ≡ next_in rest 0
  next_later = word_later t (32 * slot) _ (omega arith)

  coordinate_later : (i : ℕ) → coordinate_in t slot i ≡ coordinate_in rest 0 i
  coordinate_later i = ap twos_complement (word_later t (32 * slot) _ (omega arith))

  state_later : (record_in t slot).state ≡ (record_in rest 0).state
  unfolding record_in
  state_later = byte_later t (32 * slot) _ (omega arith)

  depth_later : (record_in t slot).depth ≡ (record_in rest 0).depth
  unfolding record_in
  depth_later = byte_later t (32 * slot) _ (omega arith)

  record_later : record_in t slot ≡ record_in rest 0
  unfolding record_in
  record_later = λ i. record {
    state = state_later i;
    depth = depth_later i;
    box = record {
      lx = coordinate_later 0 i;
      ly = coordinate_later 1 i;
      lz = coordinate_later 2 i;
      hx = coordinate_later 3 i;
      hy = coordinate_later 4 i;
      hz = coordinate_later 5 i;
    };
  }

  zeros_later : TwoZeros rest 0 → TwoZeros t slot
  zeros_later z = record {
    first = byte_later t (32 * slot) _ (omega arith) ∙ z.first;
    second = byte_later t (32 * slot) _ (omega arith) ∙ z.second;
  }

module _ (t r : List ℕ) (slot next : ℕ) (m : Record) (e : drop (32 * slot) t ≡ cell_bytes next m ++ r) where
  pub next_at : next < 4294967296 → next_in t slot ≡ next
  next_at h = next_later t slot ∙ ap (λ (l : List ℕ). next_in l 0) e ∙ front_next next m r h

  pub record_at : Fits m → record_in t slot ≡ m
  record_at h = record_later t slot ∙ ap (λ (l : List ℕ). record_in l 0) e ∙ front_record next m r h

  pub zeros_at : TwoZeros t slot
  zeros_at = zeros_later t slot (subst⁻¹ (λ (l : List ℕ). TwoZeros l 0) e (front_zeros next m r))
