-- The place never passes the end, and what stands before it was read. Assumes nothing.
use Rattle.std.proofs.Common.{◌≤◌, length, take}
use Rattle.std.specs.Io.KnownBytes.{Consumes}
use Rattle.lists.proofs.reading.read_full.Given as goal

abbrev pub invariant-loop : goal.invariant-loop
invariant-loop g l = record {
  within : l.done ≤ length l.s;
  consumed : Consumes (g.R.Read.remaining l.fn.text) (g.R.Read.remaining l.text) (take l.done l.s);
}
