-- Refusals by the documents' numbers: tests in their order, and the first that fails wins. Definitions only; assumes nothing.
use Rattle.std.specs.Prelude.{Bool, cond, ℕ, eqb, Result, Ok, Err}
use Rattle.limits.specs.declared.refusals.Refusal.{Refusal}

-- the number n where the test b says so; 0 is no refusal
abbrev pub refused : Bool → ℕ → ℕ
refused b n = cond b n 0

-- a refusal, or where it is none, the next
infixr 5 ◌or_else◌
abbrev pub ◌or_else◌ : ℕ → ℕ → ℕ
first or_else next = cond (eqb first 0) next first

-- the documents' number of a refusal
abbrev pub number : Refusal → ℕ
number Refusal.Limits = 1
number Refusal.Degenerate = 2
number Refusal.Unsupported = 3
number Refusal.Axes = 4
number Refusal.Slope = 5
number Refusal.LowAboveHigh = 6
number Refusal.Distance = 7
number Refusal.OnePoint = 8
number Refusal.Unordered = 9
number Refusal.Far = 10
number Refusal.Span = 11
number Refusal.Depth = 12
number Refusal.Room = 13
number Refusal.Line = 14
number Refusal.Unsound = 15
number Refusal.Layers = 16
number Refusal.Report = 17

-- and of an answer, 0 where it is no refusal
abbrev pub number_of : {A : Type 0} → Result A Refusal → ℕ
number_of (Ok x) = 0
number_of (Err r) = number r
