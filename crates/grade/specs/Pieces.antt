-- The pieces by document 01's numbers. Definitions only; assumes nothing.
use Rattle.std.specs.Prelude.{◌≡◌, ℕ, ◌<◌, Result, MatchResult}
use Rattle.limits.specs.declared.refusals.Refusal.{Refusal}
use Rattle.grade.specs.declared.Piece.{Piece}
use Rattle.grade.specs.declared.Piece.TheVariants.{Start, Ramp, End}

-- 0 Start, 1 Ramp, 2 End, the original's order
abbrev pub piece_number : Piece → ℕ
piece_number Start = 0
piece_number Ramp = 1
piece_number End = 2

-- the piece with this number, or the refusal 1 of a number that no piece has
abbrev pub Decodes : ℕ → Result Piece Refusal → Type 0
Decodes n r = MatchResult r (λ piece. piece_number piece ≡ n) (λ e. (e ≡ Refusal.Limits) × (2 < n))
