-- The slot's box is within the limits. Assumes nothing.
use mathlib.Core.Path.{subst⁻¹}
use Rattle.tree.specs.InTicks.{InTicks}
use Rattle.tree.specs.Box.{box_from}
use Rattle.tree.proofs.TickLaws.{good_ticks}
use Rattle.sound.proofs.CellLaws.{cell_is}
use Rattle.sound.proofs.box_of.Goals as goal

pub of-requires : goal.of-requires
of-requires c =
    subst⁻¹ InTicks (λ i. box_from (c.lows_of.ensures i) (c.highs_of.ensures i)) (good_ticks _ (cell_is _ c.requires.slot_value).good)
