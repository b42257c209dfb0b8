-- Before each step the ends of the intervals so far are written. Assumes nothing.
use mathlib.Core.Path.{◌≡◌}
use lib.ListN.{take}
use Rattle.calls.specs.Calls.{rows}
use Rattle.capi.specs.Lent.{over}
use Rattle.capi.proofs.writing.put_rows.Given as goal

abbrev pub invariant-loop-k : goal.invariant-loop-k
invariant-loop-k l = l.out ≡ over l.fn.out l.fn.at (rows (take l.k l.vs))
