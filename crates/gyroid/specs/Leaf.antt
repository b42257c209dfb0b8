-- The leaf that an accepted description compiles to. Lengths are in millimetres, levels plain. Definitions only; assumes nothing.
use Rattle.std.specs.Prelude.{cond, ℤ, pos, nat_abs, ◌+ℤ◌, ◌*ℤ◌}
use Rattle.interval.specs.declared.Interval.{Interval}
use Rattle.interval.specs.Interval.{Arithmetic, two_pi, product, square}
use Rattle.interval.specs.Nearest.{nearest, from_rational}
use Rattle.interval.specs.Series.{sine_term, cosine_term, nine, tail_up}
use Rattle.grade.specs.declared.GradeDef.{GradeDef}
use Rattle.grade.specs.declared.Slope.{Slope}
use Rattle.grade.specs.Grade.{eq_z}
use Rattle.grade.specs.Exact.{compiled}
use Rattle.grade.specs.Certified.{slope_bound}
use Rattle.grade.specs.Intervals.{grade_intervals}
use Rattle.grade.specs.Fast.{near}
use Rattle.gyroid.specs.declared.Surface.{Surface}
use Rattle.gyroid.specs.declared.Surface.TheVariants.{Network, Primitive}
use Rattle.gyroid.specs.declared.Description.{Description}
use Rattle.gyroid.specs.declared.Gyroid.{Gyroid}

-- "kind 2, the primitive surface"; kind 0 is the network, and no other is accepted
abbrev pub surface_of : ℤ → Surface
surface_of kind = cond (eq_z kind (pos 2)) Primitive Network

-- the level of a constant; a ramp has 0 here, which nothing reads
abbrev pub constant_level : GradeDef → ℤ
constant_level (GradeDef.Constant c) = c
constant_level (GradeDef.Linear l) = pos 0

-- an upper bound of the gradient's size: 22/a and the slope, over one denominator. A period of p ticks is p/1024 mm
abbrev pub lipschitz_top : ℤ → Slope → ℤ
lipschitz_top p s = pos 22528 *ℤ s.distance +ℤ s.rise *ℤ p

abbrev pub lipschitz_bottom : ℤ → Slope → ℤ
lipschitz_bottom p s = p *ℤ s.distance

-- 1/a
abbrev pub turns : Description → Interval
turns d = from_rational (pos 1024) (nat_abs d.period)

-- the multiple of 2π that a turn is: "`wave` is `two_pi` times `turns`."
abbrev pub wave : Description → Interval
wave d = product two_pi (turns d)

abbrev pub slope : Description → Slope
slope d = slope_bound (compiled d.level)

-- a linear level's rise is a difference
module _ (ar : Arithmetic) where
  unfoldable pub leaf : Description → Gyroid
  leaf d = record {
    turns = turns d;
    two_pi = two_pi;
    wave = wave d;
    wave_squared = square (wave d);
    sine = nine sine_term;
    cosine = nine cosine_term;
    tail_sine = tail_up 19;
    tail_cosine = tail_up 18;
    lipschitz = from_rational (lipschitz_top d.period (slope d)) (nat_abs (lipschitz_bottom d.period (slope d)));
    fast_turns = nearest (pos 1024) (nat_abs d.period);
    fast_level = near (constant_level (compiled d.level));
    fast_lipschitz = nearest (lipschitz_top d.period (slope d)) (nat_abs (lipschitz_bottom d.period (slope d)));
    grade = compiled d.level;
    intervals = grade_intervals ar (compiled d.level);
    surface = surface_of d.kind;
  }
