-- THE SLOTS THAT A CHAIN VISITS. Definitions only; assumes nothing.
use Rattle.std.specs.Prelude.{Bool, true, cond, ◌&&◌, List, [], ◌∷◌, ℕ, zero, suc, ◌+◌, eqb, leb}
use Rattle.table.specs.Read.{next_in}

-- n slots from a slot on, each named by the one before it
unfoldable pub slots_in : ℕ → List ℕ → ℕ → List ℕ
slots_in zero t slot = []
slots_in (suc n) t slot = slot ∷ slots_in n t (next_in t slot)

-- "1 to" n
abbrev pub one_to : ℕ → ℕ → Bool
one_to n x = leb 1 x && leb x n

-- how often a number stands in a list
unfoldable pub times : ℕ → List ℕ → ℕ
times x [] = 0
times x (y ∷ ys) = cond (eqb x y) 1 0 + times x ys

-- each of 1 to n stands there once
unfoldable pub each_once : ℕ → List ℕ → Bool
each_once zero l = true
each_once (suc n) l = eqb (times (suc n) l) 1 && each_once n l
