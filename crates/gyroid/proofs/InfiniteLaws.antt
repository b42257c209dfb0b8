-- An infinite end passes the refusals of `residual`, `affine_residual` and `box_state`, and there they are "none, none, unsettled". Assumes
-- nothing.
use mathlib.Core.Path.{◌≡◌, refl, ap}
use mathlib.Core.Bool.{Bool, true, false, cond, not}
use mathlib.Core.List.{List}
use lib.Dec.{T}
use Rattle.std.specs.Prelude.{Option, Some, None, option_map}
use Rattle.interval.specs.declared.Interval.{Interval}
use Rattle.interval.specs.Interval.{Arithmetic}
use Rattle.grade.specs.declared.Piece.{Piece}
use Rattle.grade.specs.Intervals.{zero, zeros, interval, affine, gradient, piece}
use Rattle.gyroid.specs.declared.Gyroid.{Gyroid}
use Rattle.gyroid.specs.declared.State.TheVariants.{Unsettled}
use Rattle.gyroid.specs.Refusals.{all_finite}
use Rattle.gyroid.specs.Jet.{jet}
use Rattle.gyroid.specs.Residual.{centre, radii, second_order, expanded, expansion}
use Rattle.gyroid.specs.Residual.{less_level, residual_on, residual, affine_residual, state_of, box_state}

module _ (ar : Arithmetic) where
  -- ---- where the expansion is none, whatever the level
  module _ (g : Gyroid) (w : List Interval) (none : (level : Interval) (slope : List Interval) → expansion ar g w level slope ≡ None) where
    on_none : (a : Option Piece) → residual_on ar a g w ≡ None
    on_none (Some p) = none _ _
    on_none None = ap (λ (r : Option Interval). less_level ar r (interval ar g.intervals w)) (none zero zeros)

    pub none_residual : residual ar g w ≡ None
    unfolding residual
    none_residual = on_none (piece ar g.intervals w)

  module _ (g : Gyroid) (w : List Interval) (t : T (not (all_finite w))) where
    expansion_none : (level : Interval) (slope : List Interval) → expansion ar g w level slope ≡ None
    unfolding expansion
    expansion_none level slope = go (not (all_finite w)) t
      where
        go : (b : Bool) → T b
            → cond b None
            (option_map (expanded ar (second_order ar g.surface g.wave_squared (radii ar w)) level slope (radii ar w)) (jet ar g (centre w))) ≡ None
        go true u = refl
        go false u = absurd u

    pub residual_none : residual ar g w ≡ None
    residual_none = none_residual g w expansion_none

    pub affine_residual_none : affine_residual ar g w ≡ None
    unfolding affine_residual
    affine_residual_none = expansion_none (affine ar g.intervals (centre w)) (gradient g.intervals)

    pub box_state_unsettled : box_state ar g w ≡ Unsettled
    unfolding box_state
    box_state_unsettled = ap state_of residual_none
