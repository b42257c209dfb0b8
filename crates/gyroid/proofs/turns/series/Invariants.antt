-- Before each step each sum is that of i steps. Assumes nothing.
use mathlib.Core.Path.{◌≡◌}
use Rattle.gyroid.specs.FunctionsInUse.{horner}
use Rattle.gyroid.proofs.turns.series.Given as goal

abbrev pub invariant-loop-i : goal.invariant-loop-i
invariant-loop-i l = (l.s ≡ horner l.sine l.x l.i) × (l.c ≡ horner l.cosine l.x l.i)
