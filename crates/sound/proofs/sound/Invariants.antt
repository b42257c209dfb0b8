-- The invariant is a turn: what is left of the chain says whether the table is sound.
use Prim.Native.Nat.{◌-◌}
use Rattle.sound.proofs.FollowLaws.{Turn}
use Rattle.sound.proofs.sound.Given as goal

abbrev pub invariant-loop : goal.invariant-loop
invariant-loop l = Turn l.t l.n (l.n - l.counter) l.slot l.sum
