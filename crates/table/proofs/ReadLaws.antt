-- What is read of a table, step by step: its chain, a cell's box, zeros past its end, the size of a coordinate. Assumes nothing.
use mathlib.Core.Path.{◌≡◌, refl, ap}
use mathlib.Core.Bool.{Bool, true, false, cond}
use mathlib.Core.List.{List, [], ◌∷◌}
use Prim.Native.Nat.{ℕ, zero, suc, ◌+◌, ◌-◌, ◌*◌, ◌≤◌, ◌<◌}
use native.Mathlib.Omega.{arith}
use borrow.Author.Tests.{ltb-true, ltb-false}
use lib.Dec.{ltb}
use lib.IntN.{pos, negsuc}
use lib.ListN.{length, get_or-eq_default}
use Rattle.exact.specs.Within.{Within}
use Rattle.table.specs.Read.{u8_at, u32_at, twos_complement, next_in, coordinate_in, record_in, chain, chain_end}

-- ---- the chain
pub chain_end_lem : (n : ℕ) (t : List ℕ) (slot : ℕ) → n ≤ 0 → chain n t slot ≡ []
unfolding chain
chain_end_lem zero t slot h = refl
chain_end_lem (suc n) t slot h = absurd (omega arith)

pub chain_step : (n : ℕ) (t : List ℕ) (slot : ℕ) → 0 < n → chain n t slot ≡ record_in t slot ∷ chain (n - 1) t (next_in t slot)
unfolding chain
chain_step zero t slot h = absurd (omega arith)
chain_step (suc n) t slot h = let e : suc n - 1 ≡ n = omega arith in rw e

-- one cell more, and where the chain ends
pub chain_more : (n : ℕ) (t : List ℕ) (slot : ℕ) → chain (suc n) t slot ≡ record_in t slot ∷ chain n t (next_in t slot)
unfolding chain
chain_more n t slot = refl

pub end_none : (t : List ℕ) (slot : ℕ) → chain_end 0 t slot ≡ slot
unfolding chain_end
end_none t slot = refl

pub end_more : (n : ℕ) (t : List ℕ) (slot : ℕ) → chain_end (suc n) t slot ≡ chain_end n t (next_in t slot)
unfolding chain_end
end_more n t slot = refl

pub length_chain : (n : ℕ) (t : List ℕ) (slot : ℕ) → length (chain n t slot) ≡ n
unfolding chain
length_chain zero t slot = refl
length_chain (suc n) t slot = ap suc (length_chain n t (next_in t slot))

-- ---- a cell's box, by its coordinates
pub box_is : (t : List ℕ) (slot : ℕ) → (record_in t slot).box ≡ record {
  lx = coordinate_in t slot 0;
  ly = coordinate_in t slot 1;
  lz = coordinate_in t slot 2;
  hx = coordinate_in t slot 3;
  hy = coordinate_in t slot 4;
  hz = coordinate_in t slot 5;
}
unfolding record_in
box_is t slot = refl

-- ---- a slot past the end
byte_past : (t : List ℕ) {i : ℕ} → length t ≤ i → u8_at t i ≡ 0
byte_past t h = get_or-eq_default t 0 h

word_past : (t : List ℕ) {i : ℕ} → length t ≤ i → u32_at t i ≡ 0
word_past t {i} h =
    let a = byte_past t h in
    let b : u8_at t (i + 1) ≡ 0 = byte_past t (omega arith) in
    let c : u8_at t (i + 2) ≡ 0 = byte_past t (omega arith) in
    let d : u8_at t (i + 3) ≡ 0 = byte_past t (omega arith) in
    omega arith

module _ (t : List ℕ) (slot : ℕ) (past : length t ≤ 32 * slot) where
  pub next_past : next_in t slot ≡ 0
  next_past = word_past t past

  pub state_past : (record_in t slot).state ≡ 0
  unfolding record_in
  state_past = byte_past t (omega arith)

  pub coordinate_past : (i : ℕ) → coordinate_in t slot i ≡ pos 0
  coordinate_past i = ap twos_complement (word_past t (omega arith))

-- ---- a coordinate's size
twos_complement_within : (w : ℕ) → Within 2147483648 (twos_complement w)
twos_complement_within w = go (ltb w 2147483648) refl
  where
    go : (b : Bool) → ltb w 2147483648 ≡ b → Within 2147483648 (cond b (pos w) (negsuc (4294967295 - w)))
    go true e = record { abs = omega (arith, ltb-true w 2147483648 e) }
    go false e = record { abs = omega (arith, ltb-false w 2147483648 e) }

pub coordinate_within : (t : List ℕ) (slot i : ℕ) → Within 2147483648 (coordinate_in t slot i)
coordinate_within t slot i = twos_complement_within (u32_at t _)
