-- `jet` and `affine_jet`: the value and the gradient at a point, in the original's order of operations. What adds is stated of either
-- arithmetic. Definitions only; assumes nothing.
use Rattle.std.specs.Prelude.{List, [], ◌∷◌, Option, Some, None, option_map}
use Rattle.interval.specs.declared.Interval.{Interval}
use Rattle.interval.specs.Interval.{Arithmetic, sum, difference, product, negation}
use Rattle.grade.specs.Intervals.{box_at, affine, gradient}
use Rattle.gyroid.specs.declared.Surface.{Surface}
use Rattle.gyroid.specs.declared.Gyroid.{Gyroid}
use Rattle.gyroid.specs.declared.Circle.{Circle}
use Rattle.gyroid.specs.declared.Waves.{Waves}
use Rattle.gyroid.specs.declared.Jet.{Jet}
use Rattle.gyroid.specs.Turn.{turn}

-- sine and cosine of the three turn coordinates
abbrev pub waves_of : Option Circle → Option Circle → Option Circle → Option Waves
waves_of None y z = None
waves_of (Some x) None z = None
waves_of (Some x) (Some y) None = None
waves_of (Some x) (Some y) (Some z) = Some (record { x = x; y = y; z = z })

-- ---- what adds
module _ (ar : Arithmetic) where
  unfoldable pub waves : Gyroid → List Interval → Option Waves
  waves g p =
      waves_of (turn ar g (product (box_at p 0) g.turns)) (turn ar g (product (box_at p 1) g.turns)) (turn ar g (product (box_at p 2) g.turns))

  -- ---- the surface's value: sx·cy + sy·cz + sz·cx, and of the primitive surface "(cx + cy) + cz"
  unfoldable pub value_at : Surface → Waves → Interval
  value_at Surface.Network w = sum ar (sum ar (product w.x.sine w.y.cosine) (product w.y.sine w.z.cosine)) (product w.z.sine w.x.cosine)
  value_at Surface.Primitive w = sum ar (sum ar w.x.cosine w.y.cosine) w.z.cosine

  -- ---- its gradient: on x (cx·cy − sz·sx) k, and of the primitive surface "(−sx) × wave". An entry is made of the axis' own sine and cosine, the cosine
  -- of the axis after it and the sine of the one before
  unfoldable pub entry_at : Surface → Circle → Interval → Interval → Interval → Interval
  entry_at Surface.Network own after before k = product (difference ar (product own.cosine after) (product before own.sine)) k
  entry_at Surface.Primitive own after before k = product (negation own.sine) k

  unfoldable pub gradient_at : Surface → Waves → Interval → List Interval
  gradient_at f w k =
      entry_at f w.x w.y.cosine w.z.sine k
      ∷ entry_at f w.y w.z.cosine w.x.sine k
      ∷ entry_at f w.z w.x.cosine w.y.sine k
      ∷ []

  -- ---- the jet
  abbrev pub jet_of : Surface → Interval → Waves → Jet
  jet_of f k w = record { value = value_at f w; gradient = gradient_at f w k }

  unfoldable pub jet : Gyroid → List Interval → Option Jet
  jet g p = option_map (jet_of g.surface g.wave) (waves g p)

  -- ---- less the level's affine extension
  unfoldable pub minus : List Interval → List Interval → List Interval
  minus a b = difference ar (box_at a 0) (box_at b 0) ∷ difference ar (box_at a 1) (box_at b 1) ∷ difference ar (box_at a 2) (box_at b 2) ∷ []

  unfoldable pub less : Jet → Interval → List Interval → Jet
  less j level slope = record { value = difference ar j.value level; gradient = minus j.gradient slope }

  unfoldable pub affine_jet : Gyroid → List Interval → Option Jet
  affine_jet g p = option_map (λ j. less j (affine ar g.intervals p) (gradient g.intervals)) (jet g p)
