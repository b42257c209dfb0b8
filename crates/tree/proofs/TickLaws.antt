-- A good box has its ends within "−2^20 to 2^20", and a box that has them there is good where its lows are below its highs. Assumes nothing.
use lib.IntN.{ℤ, pos, negsuc}
use lib.Signed.{◌≤ℤ◌, ◌<ℤ◌}
use Rattle.exact.specs.Within.{Within}
use Rattle.exact.proofs.IntegerOrder.{zarith}
use Rattle.exact.proofs.Size.{within_of_bounds, within_low, within_high}
use Rattle.tree.specs.declared.Axis.{Axis}
use Rattle.tree.specs.Box.{Box, Good, low, high}
use Rattle.tree.specs.InTicks.{InTicks}

within_ends : {l h : ℤ} → l <ℤ h → negsuc 1048575 ≤ℤ l → h ≤ℤ pos 1048576 → Within 1048576 l × Within 1048576 h
within_ends {l} {h} p q r = (within_of_bounds 1048576 q (omega zarith), within_of_bounds 1048576 (omega zarith) r)

pub good_ticks : (b : Box) → Good b → InTicks b
good_ticks b g = record { lows = λ a. (within_ends (g.spans a) (g.least a) (g.most a)).0; highs = λ a. (within_ends (g.spans a) (g.least a) (g.most a)).1 }

pub ticks_good : (b : Box) → InTicks b → ((a : Axis) → low a b <ℤ high a b) → Good b
ticks_good b t s = record { spans = s; least = λ a. within_low (t.lows a); most = λ a. within_high (t.highs a) }
