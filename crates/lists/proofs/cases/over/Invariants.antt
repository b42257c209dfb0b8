-- Tries of what is left, one after the other, go on from those behind; both closures may be called again. Assumes nothing.
use Rattle.std.proofs.Common.{◌≤◌}
use denote.Param.Always.{always_mut}
use Rattle.lists.proofs.Tries.{More}
use Rattle.lists.proofs.cases.over.Given as goal

abbrev pub invariant-loop : goal.invariant-loop
invariant-loop g l = record {
  tries : always_mut g.F.FnMut l.initial.case → always_mut g.F.FnMut l.case;
  tells : always_mut g.D.FnMut l.initial.differs → always_mut g.D.FnMut l.differs;
  seen : l.tally.seen ≤ l.counter;
  more : More g.F.FnMut g.D.FnMut l.fn.case l.fn.list l.fn.differs l.case l.list l.differs l.tally.seen l.tally.bad;
}
