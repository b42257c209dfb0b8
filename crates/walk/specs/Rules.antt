-- A TIE RULE BY ITS NUMBER: 0 is the default, 1 the lowest axis, and another number is no rule. Definitions only; assumes nothing.
use Rattle.std.specs.Prelude.{cond, ℕ, eqb, Result, Ok, Err}
use Rattle.limits.specs.declared.refusals.Refusal.{Refusal}
use Rattle.walk.specs.declared.TieRule.{TieRule}
use Rattle.walk.specs.declared.TieRule.TheVariants.{GradeAxis, LowestAxis}

abbrev pub rule_of : ℕ → Result TieRule Refusal
rule_of n = cond (eqb n 0) (Ok GradeAxis) (cond (eqb n 1) (Ok LowestAxis) (Err Refusal.Limits))
