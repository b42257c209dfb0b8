-- A BOX OF THE WALK ASKED OF THE PUBLIC `box_state`: over doubles with the values of the box's ends, a zero of either sign among them, neither 9
-- nor 10 refuses it, and the answer is the state that the walk has for it. Assumes nothing.
use mathlib.Core.Path.{◌≡◌, sym, ap, ◌∙◌}
use mathlib.Core.List.{List, [], ◌∷◌}
use Rattle.interval.specs.declared.Interval.{Interval}
use Rattle.grade.specs.Said.{found}
use Rattle.gyroid.specs.declared.Description.{Description}
use Rattle.gyroid.specs.declared.State.{State}
use Rattle.gyroid.specs.Fits.{Accepted}
use Rattle.gyroid.specs.Residual.{state_number}
use Rattle.grade.specs.Holds.{OfTicks}
use Rattle.gyroid.specs.InUse.{leaf}
use Rattle.calls.specs.Calls.{box_state_call}
use Rattle.calls.proofs.TickLaws.{box_state_ticks}
use Rattle.tree.specs.Box.{Box, Good, lows, highs}
use Rattle.walk.specs.FunctionsInUse.{state_at}
use Rattle.walk.proofs.EndLaws.{lows_ticks, highs_ticks, ends_ordered, state_is}

pub box_state_walked : (d : Description) → Accepted d → (b : Box) → Good b → (w : List Interval) → OfTicks (lows b) (highs b) w
    → box_state_call d w ≡ found (state_number (state_at (leaf d) b) ∷ [])
box_state_walked d a b g w h =
    box_state_ticks (lows b) (highs b) (lows_ticks b g) (highs_ticks b g) (ends_ordered b g) w h d a
    ∙ ap (λ (s : State). found (state_number s ∷ [])) (sym (state_is (leaf d) b))
