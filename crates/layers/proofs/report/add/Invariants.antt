-- What is left to add makes the whole, and fits.
use mathlib.Core.Path.{◌≡◌}
use Prim.Native.Nat.{◌-◌}
use lib.ListN.{length}
use Rattle.layers.specs.Added.{added_to}
use Rattle.layers.proofs.ColumnLaws.{Left}
use Rattle.layers.proofs.report.add.Given as goal

abbrev pub invariant-loop-k : goal.invariant-loop-k
invariant-loop-k l = record {
  rest : Left l.end l.column l.v l.k l.r (added_to (l.end - l.first) l.first l.column l.v l.fn.r);
  long : length l.r ≡ length l.fn.r;
}
