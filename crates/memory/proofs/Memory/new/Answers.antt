-- Nothing stands in it. Assumes nothing.
use Rattle.memory.proofs.SlotLaws.{none_remembers}
use Rattle.memory.proofs.Memory.new.Goals as goal

pub invariant_of-result : goal.invariant_of-result
invariant_of-result c = record { remembers = none_remembers c.args.leaf }
