-- A near point has a quarter number that fits. Assumes nothing.
use Rattle.interval.proofs.DoubleSizes.{product_small}
use Rattle.calls.proofs.fast.fast_turn.Goals as goal

pub quarter_number-q-requires : goal.quarter_number-q-requires
quarter_number-q-requires c = product_small 40 10 c.args.x c.args.turns tt c.requires.0 c.requires.1
