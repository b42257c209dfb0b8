-- `fast_distance`: (g − c) over the Lipschitz bound in doubles, in the original's order of operations: tentative. Definitions only; assumes
-- nothing.
use Rattle.std.specs.Prelude.{cond, List, reverse, fold, ℕ, eqb, ℤ, get_or, Float}
use Rattle.std.specs.Float.{binary64, nan}
use Rattle.std.specs.Float.Ieee.{neg, add, sub, mul, div}
use Rattle.interval.specs.Step.{b64}
use Rattle.interval.specs.Nearest.{nearest}
use Rattle.interval.specs.Floor.{quarter_number, mod_four}
use Rattle.interval.specs.Series.{sine_term, cosine_term, nine_nearest}
use Rattle.grade.specs.declared.GradeDef.{GradeDef}
use Rattle.grade.specs.Fast.{fast}
use Rattle.gyroid.specs.declared.Surface.{Surface}
use Rattle.gyroid.specs.declared.Gyroid.{Gyroid}
use Rattle.calls.specs.declared.FastCircle.{FastCircle}

-- the coordinate on an axis
abbrev pub point_at : List Float → ℕ → Float
point_at p i = get_or p i nan

-- Horner's rule from zero over the coefficients, the last first
unfoldable pub fast_horner : List Float → Float → Float
fast_horner c x = fold (λ s k. add binary64 (mul binary64 s x) k) (b64 0) (reverse c)

-- (t − q/4) times the double below 2π
unfoldable pub fast_reduced : Float → ℤ → Float
fast_reduced t q = mul binary64 (sub binary64 t (mul binary64 (nearest q 1) (b64 0x3fd0_0000_0000_0000))) (b64 0x4019_21fb_5444_2d18)

unfoldable pub fast_circle : Float → FastCircle
fast_circle u = record {
  sine = mul binary64 (fast_horner (nine_nearest sine_term) (mul binary64 u u)) u;
  cosine = fast_horner (nine_nearest cosine_term) (mul binary64 u u);
}

unfoldable pub fast_turned : ℕ → FastCircle → FastCircle
fast_turned m c =
    cond (eqb m 0) c
    (cond (eqb m 1) (record { sine = c.cosine; cosine = neg c.sine })
    (cond (eqb m 2) (record { sine = neg c.sine; cosine = neg c.cosine })
    (record { sine = neg c.cosine; cosine = c.sine })))

-- of the coordinate x, with 1/a
unfoldable pub fast_turn : Float → Float → FastCircle
fast_turn x turns =
    let t = mul binary64 x turns in
    let q = quarter_number t in
    fast_turned (mod_four q) (fast_circle (fast_reduced t q))

-- left to right; of the primitive surface "(cx + cy) + cz"
unfoldable pub fast_value : Surface → FastCircle → FastCircle → FastCircle → Float
fast_value Surface.Network x y z =
    add binary64 (add binary64 (mul binary64 x.sine y.cosine) (mul binary64 y.sine z.cosine)) (mul binary64 z.sine x.cosine)
fast_value Surface.Primitive x y z = add binary64 (add binary64 x.cosine y.cosine) z.cosine

-- of the coordinate on an axis
abbrev turn_at : Gyroid → List Float → ℕ → FastCircle
turn_at g p i = fast_turn (point_at p i) g.fast_turns

abbrev level_by : GradeDef → Gyroid → List Float → Float
level_by (GradeDef.Constant c) g p = g.fast_level
level_by (GradeDef.Linear l) g p = fast g.grade p

unfoldable pub fast_distance : Gyroid → List Float → Float
fast_distance g p =
    div binary64
    (sub binary64 (fast_value g.surface (turn_at g p 0) (turn_at g p 1) (turn_at g p 2)) (level_by g.grade g p))
    g.fast_lipschitz
