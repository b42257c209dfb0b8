-- The invariant is a turn: what the report holds, and what the cells from the slot on add to it, make the whole.
use Prim.Native.Nat.{◌-◌}
use Rattle.layers.proofs.TurnLaws.{Turn}
use Rattle.layers.proofs.report.write.Given as goal

abbrev pub invariant-loop : goal.invariant-loop
invariant-loop l = Turn l.t l.low l.n l.initial.r l.r l.slot (l.end - l.counter)
