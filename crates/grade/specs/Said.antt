-- What the answer of a public call says, whatever its type: a refusal's number, or values. Definitions only; assumes nothing.
use Rattle.std.specs.Prelude.{cond, List, ℕ, eqb}

-- "A refusal returns its number only."; an answer that is no refusal has values, none of them where nothing is found
pub data Said (A : Type 0) : Type 0 where
  refusing : ℕ → Said A
  found : List A → Said A

-- a call that the number n refuses, and that says v where n is 0
abbrev pub answered : {A : Type 0} → ℕ → List A → Said A
answered n v = cond (eqb n 0) (found v) (refusing n)
