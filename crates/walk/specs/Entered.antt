-- A CALL THAT PASSES THE REFUSALS BEFORE 13, as the code holds it. Definitions only; assumes nothing.
use Rattle.std.specs.Prelude.{◌≡◌, List, ℤ, nat_abs}
use Rattle.gyroid.specs.declared.Description.{Description}
use Rattle.gyroid.specs.InUse.{leaf}
use Rattle.tree.specs.Box.{box_from, box_of, cut}
use Rattle.walk.specs.declared.TieRule.{TieRule}
use Rattle.walk.specs.declared.entered.Entered.{Entered}
use Rattle.walk.specs.Walk.{cut_of}

-- of a description, the lows and highs of a box, a depth and a tie rule
pub record Enters (d : Description) (lo hi : List ℤ) (D : ℤ) (rule : TieRule) (e : Entered) : Type 0 where
  pub leaf_is : e.leaf ≡ leaf d
  pub box_is : box_of e.b ≡ box_from lo hi
  pub depth_is : e.depth ≡ nat_abs D
  pub axis_is : cut e.ties ≡ cut_of rule d
