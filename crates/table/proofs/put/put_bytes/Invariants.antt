-- The bytes below the index are stored, and the length is as it was.
use mathlib.Core.Path.{◌≡◌}
use lib.ListN.{length, take}
use lib.Seq.{sets}
use Rattle.table.proofs.put.put_bytes.Given as goal

abbrev pub invariant-loop-i : goal.invariant-loop-i
invariant-loop-i g l = record {
  stored : l.t ≡ sets l.fn.t l.at (take l.i l.bytes);
  long : length l.t ≡ length l.fn.t;
}
