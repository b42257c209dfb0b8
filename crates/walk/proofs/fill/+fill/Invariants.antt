-- The depth that is left falls. Assumes nothing.
use Rattle.walk.proofs.fill.+fill.Given as goal

abbrev pub decreases-fill : goal.decreases-fill
decreases-fill l = l.depth
