-- The constructors: "`Gyroid::certified` is the reference" and answers with `refusal` or the leaf; "the wrapper `new` turns 4 and 5 into 3".
-- Definitions only; assumes nothing.
use Rattle.std.specs.Prelude.{cond, ◌||◌, ℕ, eqb}

-- the number that `new` answers in place of `certified`'s
abbrev pub unsupported : ℕ → ℕ
unsupported n = cond (eqb n 4 || eqb n 5) 3 n
