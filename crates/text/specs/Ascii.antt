-- TEXT AS BYTES, in ASCII. Definitions only; assumes nothing.
use Rattle.std.specs.Prelude.{List, [] as none, ◌∷◌ as ◌then◌, ℕ}
use Prim.Native.Char.{code}
use Prim.Native.String.{String, [], ◌∷◌}

abbrev pub ascii : String → List ℕ
ascii [] = none
ascii (c ∷ s) = code c then ascii s

abbrev pub minus : ℕ
minus = code "-"

abbrev pub space : ℕ
space = code " "

abbrev pub newline : ℕ
newline = code "\n"

-- the digit 0; those of 1 to 9 follow it
abbrev pub nought : ℕ
nought = code "0"

abbrev pub nine : ℕ
nine = code "9"
