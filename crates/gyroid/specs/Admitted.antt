-- THE ADMITTED RESIDUAL: document 01's paragraph in "Jet and residual", sentence by sentence, its words in quotes, and document 02's L1: "The
-- admitted residual takes this g, gradient and bound." Lengths are in ticks, levels in level counts. "These .. are fractions of whole numbers,
-- as p is, and comparisons are multiplied out." Definitions only; assumes nothing.
--
-- The number, in document 01's symbols, of the network (kind 0)
--
--     g + k[(cx·cy−sz·sx)(px−mx) + (cy·cz−sx·sy)(py−my) + (cz·cx−sy·sz)(pz−mz)] + e − level(p)/1024        admitted
--
-- and of the primitive surface (kind 2), the gradient being document 02's "−k sin X, −k sin Y, −k sin Z",
--
--     g + k[(−sx)(px−mx) + (−sy)(py−my) + (−sz)(pz−mz)] + e − level(p)/1024                               admitted
--
-- Of either:
--
--     p        a rational point of the box                                                               p : Point
--     m, r     the box's centre and half-widths                                                          centre_at, half_width
--     a        the period                                                                                period
--     w        any fraction between the `two_pi` ends                                                    Chosen .w
--     k        w/a                                                                                       wave
--     q        the quarter number that `turn` gives at m                                                 quarter
--     u        (m/a − q/4)w                                                                              angle
--     s, c     the polynomials of u plus errors, turned by q mod 4                                       s, c (waves, turned_by)
--     errors   any within the tails (4/5)^19/19! and (4/5)^18/18!                                        Chosen .sine_error, .cosine_error
--     level    in level counts                                                                           level, of the grade layer
--
-- By the surface, the network's and then the primitive surface's:
--
--     g        sx·cy + sy·cz + sz·cx, and cx + cy + cz                                                   g (value_of)
--     (..)     what k(p−m) is multiplied by on each axis, as above                                       factor (factor_of)
--     e        any of size at most k²(Σ r² + rx·ry + ry·rz + rz·rx), and k²(Σ r²)/2                      Chosen .e (bracket_of)
use Rattle.std.specs.Prelude.{cond, List, [], ◌∷◌, ℕ, zero, suc, ◌<◌, eqb, ℤ, nat_abs, ◌+ℤ◌, ◌-ℤ◌}
use Rattle.exact.specs.Fraction.{Fraction, whole, one_f, ◌+F◌, ◌-F◌, ◌*F◌, ◌/F◌, neg_f, AbsF}
use Rattle.interval.specs.declared.Interval.{Interval}
use Rattle.interval.specs.Interval.{point, product, mid, two_pi}
use Rattle.interval.specs.Nearest.{nearest}
use Rattle.interval.specs.Floor.{mod_four}
use Rattle.interval.specs.Series.{sine_term, cosine_term, tail}
use Rattle.interval.specs.Encloses.{◌∈◌}
use Rattle.limits.specs.Ticks.{at}
use Rattle.grade.specs.Grade.{Point, level}
use Rattle.gyroid.specs.declared.Description.{Description}
use Rattle.gyroid.specs.declared.Surface.{Surface}
use Rattle.gyroid.specs.Leaf.{surface_of, turns}
use Rattle.gyroid.specs.Turn.{quarter_of}

-- ---- "a box with centre m and half-widths r", by its lows and highs
abbrev pub centre_at : List ℤ → List ℤ → Point
centre_at lo hi i = whole (at lo i +ℤ at hi i) /F 2

abbrev pub half_width : List ℤ → List ℤ → Point
half_width lo hi i = whole (at hi i -ℤ at lo i) /F 2

-- "its ends n/1024 exactly": the box that `residual` is asked about, in millimetres
abbrev pub ends : List ℤ → List ℤ → ℕ → Interval
ends lo hi i = record { lo = nearest (at lo i) 1024; hi = nearest (at hi i) 1024 }

abbrev pub tick_box : List ℤ → List ℤ → List Interval
tick_box lo hi = ends lo hi 0 ∷ ends lo hi 1 ∷ ends lo hi 2 ∷ []

-- ---- "the exact polynomials": f 0 + f 1 · x + .. + f n · xⁿ
abbrev pub power : Fraction → ℕ → Fraction
power x zero = one_f
power x (suc n) = power x n *F x

abbrev pub polynomial : (ℕ → Fraction) → ℕ → Fraction → Fraction
polynomial f zero x = f 0
polynomial f (suc n) x = polynomial f n x +F f (suc n) *F power x (suc n)

-- u − u³/3! + .. + u¹⁷/17!, and 1 − u²/2! + .. + u¹⁶/16!
unfoldable pub sine_polynomial : Fraction → Fraction
sine_polynomial u = polynomial sine_term 8 (u *F u) *F u

unfoldable pub cosine_polynomial : Fraction → Fraction
cosine_polynomial u = polynomial cosine_term 8 (u *F u)

-- "the exact tails": "(4/5)^19/19! and (4/5)^18/18!"
abbrev pub sine_tail : Fraction
sine_tail = tail 19

abbrev pub cosine_tail : Fraction
cosine_tail = tail 18

-- "turned by q mod 4": a sine and a cosine
unfoldable pub turned_by : ℕ → Fraction → Fraction → Fraction × Fraction
turned_by n s c =
    cond (eqb n 0) (s, c)
    (cond (eqb n 1) (c, neg_f s)
    (cond (eqb n 2) (neg_f s, neg_f c)
    (neg_f c, s)))

-- ---- what a surface gives, from the sines s and the cosines c at the centre
-- its value there: "g = sx·cy + sy·cz + sz·cx", and "cos X + cos Y + cos Z"
abbrev pub value_of : Surface → (ℕ → Fraction) → (ℕ → Fraction) → Fraction
value_of Surface.Network s c = s 0 *F c 1 +F s 1 *F c 2 +F s 2 *F c 0
value_of Surface.Primitive s c = c 0 +F c 1 +F c 2

-- what k(p−m) is multiplied by on each axis: cx·cy−sz·sx, cy·cz−sx·sy, cz·cx−sy·sz, and −sx, −sy, −sz
abbrev pub factor_of : Surface → (ℕ → Fraction) → (ℕ → Fraction) → ℕ → Fraction
factor_of Surface.Network s c zero = c 0 *F c 1 -F s 2 *F s 0
factor_of Surface.Network s c (suc zero) = c 1 *F c 2 -F s 0 *F s 1
factor_of Surface.Network s c (suc (suc i)) = c 2 *F c 0 -F s 1 *F s 2
factor_of Surface.Primitive s c i = neg_f (s i)

-- what k² is multiplied by in the bound of e: "Σ r² + rx·ry + ry·rz + rz·rx", and "(Σ r²)/2"
abbrev pub bracket_of : Surface → Fraction → Fraction → Fraction → Fraction
bracket_of Surface.Network x y z = x *F x +F y *F y +F z *F z +F x *F y +F y *F z +F z *F x
bracket_of Surface.Primitive x y z = (x *F x +F y *F y +F z *F z) /F 2

module _ (d : Description) (lo hi : List ℤ) where
  abbrev pub surface : Surface
  surface = surface_of d.kind

  -- a
  abbrev pub period : ℕ
  period = nat_abs d.period

  -- "the quarter number q that `turn` gives at m"
  abbrev pub quarter : ℕ → ℤ
  quarter i = quarter_of (product (point (mid (ends lo hi i))) (turns d))

  -- the wave number of the formula below, "With k = w/a"
  abbrev pub wave : Fraction → Fraction
  wave w = w /F period

  -- the angle that is left at the centre, "u = (m/a − q/4)w"
  abbrev pub angle : Fraction → ℕ → Fraction
  angle w i = (centre_at lo hi i /F period -F whole (quarter i) /F 4) *F w

  -- "choose any w between the `two_pi` ends and, for each axis, errors within the exact tails"; and "any e of size at most
  -- k²(Σ r² + rx·ry + ry·rz + rz·rx)", for which the primitive surface has "k²(Σ r²)/2"
  pub record Chosen : Type 0 where
    pub w : Fraction
    pub sine_error : ℕ → Fraction
    pub cosine_error : ℕ → Fraction
    pub e : Fraction
    pub w_between : w ∈ two_pi
    pub sine_within : (i : ℕ) → i < 3 → AbsF (sine_error i) sine_tail
    pub cosine_within : (i : ℕ) → i < 3 → AbsF (cosine_error i) cosine_tail
    pub e_within : AbsF e (wave w *F wave w *F bracket_of surface (half_width lo hi 0) (half_width lo hi 1) (half_width lo hi 2))

  -- "s and c are the exact polynomials plus errors, turned by q mod 4"
  unfoldable pub waves : Chosen → ℕ → Fraction × Fraction
  waves h i = turned_by (mod_four (quarter i)) (sine_polynomial (angle h.w i) +F h.sine_error i) (cosine_polynomial (angle h.w i) +F h.cosine_error i)

  abbrev pub s : Chosen → ℕ → Fraction
  s h i = (waves h i).0

  abbrev pub c : Chosen → ℕ → Fraction
  c h i = (waves h i).1

  abbrev pub g : Chosen → Fraction
  g h = value_of surface (s h) (c h)

  abbrev pub factor : Chosen → ℕ → Fraction
  factor h = factor_of surface (s h) (c h)

  -- "the number is g + k[(cx·cy−sz·sx)(px−mx) + (cy·cz−sx·sy)(py−my) + (cz·cx−sy·sz)(pz−mz)] + e − level(p)/1024, level(p) being in level counts"
  unfoldable pub admitted : Chosen → Point → Fraction
  admitted h p =
      g h
      +F wave h.w *F (factor h 0 *F (p 0 -F centre_at lo hi 0) +F factor h 1 *F (p 1 -F centre_at lo hi 1) +F factor h 2 *F (p 2 -F centre_at lo hi 2))
      +F h.e
      -F level d.level p /F 1024
