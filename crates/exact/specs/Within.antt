-- A bound on the size of a whole number, as signed code asks it of its arguments. Assumes nothing.
use Rattle.std.specs.Prelude.{ℕ, ◌≤◌, ℤ, nat_abs}

-- z is at most n in size. A record, so that n and z are read off a hypothesis
pub record Within (n : ℕ) (z : ℤ) : Type 0 where
  pub abs : nat_abs z ≤ n
