-- WHAT THE BYTES OF A TABLE TELL, by their reading alone: slot 0, the cells in the order of a chain through "slots 1, 2, ..." that a zero ends,
-- and in each of their slots "two zeros". Definitions only; assumes nothing.
use Rattle.std.specs.Prelude.{◌≡◌, List, ℕ, suc, ◌≤◌, ◌<◌, length}
use Rattle.table.specs.declared.Head.{Head}
use Rattle.table.specs.Table.{Record}
use Rattle.table.specs.Read.{first_in, cells_in, head_in, next_in, TwoZeros, records_in, chain_end}

pub record Told (t : List ℕ) (h : Head) (ms : List Record) : Type 0 where
  pub head_is : head_in t ≡ h
  pub records_are : records_in t ≡ ms
  pub goes_on : (slot : ℕ) → 1 ≤ slot → slot < cells_in t → next_in t slot ≡ suc slot
  pub ends : 0 < length ms → chain_end (cells_in t) t (first_in t) ≡ 0
  pub zeros : (slot : ℕ) → 1 ≤ slot → slot ≤ cells_in t → TwoZeros t slot
