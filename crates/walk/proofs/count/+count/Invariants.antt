-- The depth that is left falls. Assumes nothing.
use Rattle.walk.proofs.count.+count.Given as goal

abbrev pub decreases-count : goal.decreases-count
decreases-count l = l.depth
