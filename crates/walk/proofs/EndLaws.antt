-- The ends of a box of the tree, as the layers below are asked about it: they pass document 01's tests of a whole-number box, and the walk's state
-- is that of the box of ticks between them. Assumes nothing.
use mathlib.Core.Path.{◌≡◌, refl}
use mathlib.Core.Bool.{Bool, true, false, not, ◌&&◌, ◌||◌}
use mathlib.Core.List.{[], ◌∷◌}
use lib.Dec.{T, not_T}
use lib.IntN.{ℤ, pos, negsuc}
use lib.Signed.{le_z, lt_z, lt_z_yes, ◌<ℤ◌}
use lib.Ieee.Fits.{and_i}
use Rattle.exact.specs.Within.{Within}
use Rattle.exact.proofs.IntegerOrder.{zarith}
use Rattle.exact.proofs.Size.{within_low, within_high}
use Rattle.limits.specs.Ticks.{tick, ticks, above}
use Rattle.gyroid.specs.declared.Gyroid.{Gyroid}
use Rattle.gyroid.specs.InUse.{box_state}
use Rattle.gyroid.specs.Admitted.{tick_box}
use Rattle.tree.specs.declared.Axis.{Axis}
use Rattle.tree.specs.declared.Axis.TheVariants.{X, Y, Z}
use Rattle.tree.specs.Box.{Box, Good, low, high, lows, highs}
use Rattle.tree.proofs.TickLaws.{good_ticks}
use Rattle.walk.specs.Walk
use Rattle.walk.specs.FunctionsInUse.{state_at}

-- ---- the limits
end_tick : {z : ℤ} → Within 1048576 z → T (tick z)
end_tick {z} w = and_i (le_z (negsuc 1048575) z) (le_z z (pos 1048576)) (within_low w).le (within_high w).le

three : (x y z : ℤ) → Within 1048576 x → Within 1048576 y → Within 1048576 z → T (ticks (x ∷ y ∷ z ∷ []))
three x y z p q r = and_i (tick x && tick y) (tick z) (and_i (tick x) (tick y) (end_tick p) (end_tick q)) (end_tick r)

module _ (b : Box) (g : Good b) where
  pub lows_ticks : T (ticks (lows b))
  lows_ticks = let t = good_ticks b g in three b.lx b.ly b.lz (t.lows X) (t.lows Y) (t.lows Z)

  pub highs_ticks : T (ticks (highs b))
  highs_ticks = let t = good_ticks b g in three b.hx b.hy b.hz (t.highs X) (t.highs Y) (t.highs Z)

  -- no low is above its high
  pub ends_ordered : T (not (above (lows b) (highs b)))
  ends_ordered = none (lt_z b.hx b.lx) (lt_z b.hy b.ly) (lt_z b.hz b.lz) (on X) (on Y) (on Z)
    where
      apart : {l h : ℤ} → l <ℤ h → h <ℤ l → ⊥
      apart p q = omega zarith

      on : (a : Axis) → T (not (lt_z (high a b) (low a b)))
      on a = not_T (lt_z (high a b) (low a b)) (λ t. apart (g.spans a) (lt_z_yes t))

      none : (x y z : Bool) → T (not x) → T (not y) → T (not z) → T (not (x || y || z))
      none true y z p q r = absurd p
      none false true z p q r = absurd q
      none false false z p q r = r

-- ---- the state
pub state_is : (g : Gyroid) (b : Box) → state_at g b ≡ box_state g (tick_box (lows b) (highs b))
unfolding Walk.state_at
state_is g b = refl
