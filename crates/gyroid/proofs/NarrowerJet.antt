-- "EXACT SUMS STAY NARROW", of the turn and the jet: in either arithmetic a turn's sine and cosine, and a jet's value and gradient, lie in the wide
-- ones, and where the wide arithmetic finds them, so does the other. The quarter number adds nothing and is the same. Assumes nothing.
use mathlib.Core.Bool.{Bool, true, false, cond, not, ◌||◌}
use mathlib.Core.List.{List}
use Prim.Native.Nat.{ℕ, suc, ◌+◌, ◌<◌, max}
use lib.Dec.{T, leb, eqb, not_T, lit<}
use lib.IntN.{ℤ, pos}
use lib.Signed.{le_z_yes, ◌<ℤ◌}
use lib.Ieee.{Float, neg, lt, of_bits}
use lib.Ieee.Scale.{finite}
use Rattle.std.specs.Prelude.{Option, Some, None, option_map}
use Rattle.exact.specs.Fraction.{Fraction, zero_f, ◌≤F◌}
use Rattle.exact.proofs.Fraction.{≤F_refl, ≤F_trans, <F_irrefl, num_nonneg}
use Rattle.exact.proofs.FractionSize.{abs_of_nonneg}
use Rattle.interval.specs.declared.Interval.{Interval}
use Rattle.interval.specs.Step.{b64}
use Rattle.interval.specs.Interval.{Arithmetic, Wide, point, sum, difference, product, negation, mid, two_pi}
use Rattle.interval.specs.Floor.{quarter_number, mod_four}
use Rattle.interval.specs.Series.{sine_term, cosine_term, term, nine, tail, tail_up}
use Rattle.interval.specs.Encloses.{value}
use Rattle.interval.proofs.Small.{small_finite, finite_neg}
use Rattle.interval.proofs.Compare.{lt_value, nlt_value}
use Rattle.interval.proofs.SeriesLaws.{sine_encloses, cosine_encloses, tail_above}
use Rattle.interval.proofs.Membership.{In, wider}
use Rattle.interval.proofs.Encloses.{mul_encloses}
use Rattle.interval.proofs.Bounds.{symmetric_encloses}
use Rattle.interval.proofs.Narrower.{Sized, sized, low_end, Nested, itself, looser, sum_nested, difference_nested, negation_nested}
use Rattle.interval.proofs.NarrowerProducts.{product_nested, square_nested}
use Rattle.grade.specs.Intervals.{box_at}
use Rattle.grade.specs.Fits.{Within3}
use Rattle.grade.proofs.Axes.{three}
use Rattle.grade.proofs.EntryLaws.{not_either}
use Rattle.gyroid.specs.declared.Description.{Description}
use Rattle.gyroid.specs.declared.Surface.{Surface}
use Rattle.gyroid.specs.declared.Circle.{Circle}
use Rattle.gyroid.specs.declared.Waves.{Waves}
use Rattle.gyroid.specs.declared.Jet.{Jet}
use Rattle.gyroid.specs.Leaf.{turns, wave, leaf, surface_of}
use Rattle.gyroid.specs.Turn.{turn, turned, reducible, reduced, beyond, horner, symmetric, sine_at, cosine_at, circle_at}
use Rattle.gyroid.specs.Jet.{waves_of, waves, value_at, entry_at, gradient_at, jet_of, jet}
use Rattle.gyroid.specs.Residual.{centre}
use Rattle.gyroid.specs.Admitted.{ends, tick_box}
use Rattle.gyroid.proofs.CentreLaws.{centre_in}
use Rattle.gyroid.proofs.TurnLaws.{two_pi_in, quarter_in, q_in, near_in}
use Rattle.gyroid.proofs.JetLaws.{turns_in}

-- ---- the constants
pub two_pi_sized : Sized 3 two_pi
unfolding of_bits
two_pi_sized = sized (two_pi_in {w = value two_pi.lo} (record { above = ≤F_refl (value two_pi.lo); below = record { le = le_z_yes tt } }))

tail_sized : (n : ℕ) → zero_f ≤F tail n → Sized 1 (symmetric (tail_up n))
tail_sized n z = let (above, small) = tail_above n in
    sized (symmetric_encloses (tail_up n) small (abs_of_nonneg (≤F_trans z above) (≤F_refl (value (tail_up n)))))

-- ---- what is not beyond 0.8 wide is not beyond it narrow, and is at most 1 in size
module _ {U W : Interval} (h : Nested 35 U W) (near : T (not (beyond W))) where
  abbrev limit : Float
  limit = b64 0x3fe9_9999_9999_999a

  limit_finite : T (finite limit)
  unfolding of_bits
  limit_finite = tt

  tests : T (not (lt W.lo (neg limit))) × T (not (lt limit W.hi))
  tests = not_either (lt W.lo (neg limit)) (lt limit W.hi) near

  not_below : (x y : Float) → T (finite x) → T (finite y) → value y ≤F value x → T (not (lt x y))
  not_below x y f g l = not_T (lt x y) (λ t. <F_irrefl (lt_value x y f g t) l)

  still_near : T (not (beyond U))
  still_near = neither (lt U.lo (neg limit)) (lt limit U.hi)
      (not_below U.lo (neg limit) (small_finite 35 U.lo h.small.lo) (finite_neg limit limit_finite)
      (≤F_trans (nlt_value W.lo (neg limit) (small_finite 35 W.lo h.wide.lo) (finite_neg limit limit_finite) tests.0) h.lower))
      (not_below limit U.hi limit_finite (small_finite 35 U.hi h.small.hi)
      (≤F_trans h.upper (nlt_value limit W.hi limit_finite (small_finite 35 W.hi h.wide.hi) tests.1)))
    where
      neither : (a b : Bool) → T (not a) → T (not b) → T (not (a || b))
      neither true b s t = absurd s
      neither false b s t = t

  near_nested : Nested 0 U W
  near_nested = record {
    small = sized (near_in (low_end h.small) still_near);
    wide = sized (near_in (low_end h.wide) near);
    lower = h.lower;
    upper = h.upper;
  }

-- ---- a turn that lies in another: where that one is found, so is it
abbrev TurnNested : Option Circle → Option Circle → Type 0
TurnNested t None = Unit {0}
TurnNested None (Some r) = ⊥
TurnNested (Some r) (Some r') = Nested 36 r.sine r'.sine × Nested 36 r.cosine r'.cosine

turned_nested : (n : ℕ) {r r' : Circle} → Nested 36 r.sine r'.sine → Nested 36 r.cosine r'.cosine → TurnNested (Some (turned n r)) (Some (turned n r'))
unfolding turned
turned_nested n {r} {r'} h k = go (eqb n 0) (eqb n 1) (eqb n 2)
  where
    by : Bool → Bool → Bool → Circle → Circle
    by x y z c =
        cond x c
        (cond y (record { sine = c.cosine; cosine = negation c.sine })
        (cond z (record { sine = negation c.sine; cosine = negation c.cosine })
        (record { sine = negation c.cosine; cosine = c.sine })))

    go : (x y z : Bool) → TurnNested (Some (by x y z r)) (Some (by x y z r'))
    go true y z = (h, k)
    go false true z = (k, negation_nested h)
    go false false true = (negation_nested h, negation_nested k)
    go false false false = (negation_nested k, h)

module _ (ar : Arithmetic) where
  -- ---- the series: one step of Horner's rule, and eight of them
  module _ (f : ℕ → Fraction) (F : (i : ℕ) → In 1 (f i) (term f i)) {X X' : Interval} (x : Nested 1 X X') where
    step : (i : ℕ) {j : ℕ} {A B : Interval} → T (leb (j + 1) 1022) → T (leb (suc (max (suc (j + 1)) 1)) 1022) → Nested j A B
        → Nested (suc (suc (max (suc (j + 1)) 1))) (sum ar (product A X) (term f i)) (sum Wide (product B X') (term f i))
    step i s t h = sum_nested ar t (product_nested s h x) (itself (sized (F i)))

    horner_nested : Nested 33 (horner ar (nine f) X 8) (horner Wide (nine f) X' 8)
    unfolding horner
    horner_nested = step 0 tt tt (step 1 tt tt (step 2 tt tt (step 3 tt tt (step 4 tt tt (step 5 tt tt (step 6 tt tt (step 7 tt tt (itself (sized (F 8))))))))))

  -- ---- the turn
  module _ (d : Description) {I : Interval} (h : Sized 23 I) where
    abbrev q : ℤ
    q = quarter_number (mid I)

    abbrev U : Arithmetic → Interval
    U a = reduced a I q two_pi

    reduced_nested : Nested 35 (U ar) (U Wide)
    unfolding reduced
    reduced_nested = looser 35 tt (product_nested tt (difference_nested ar tt (itself h) (itself (sized (mul_encloses tt (q_in (low_end h)) quarter_in))))
        (itself two_pi_sized))

    module _ (near : T (not (beyond (U Wide)))) where
      u : Nested 0 (U ar) (U Wide)
      u = near_nested reduced_nested near

      sine_nested : Nested 36 (sine_at ar (leaf ar d) (U ar)) (sine_at Wide (leaf Wide d) (U Wide))
      unfolding sine_at leaf
      sine_nested = sum_nested ar tt (product_nested tt (horner_nested sine_term sine_encloses (square_nested tt u)) u)
          (itself (tail_sized 19 (num_nonneg (le_z_yes tt))))

      cosine_nested : Nested 36 (cosine_at ar (leaf ar d) (U ar)) (cosine_at Wide (leaf Wide d) (U Wide))
      unfolding cosine_at leaf
      cosine_nested = looser 36 tt (sum_nested ar tt (horner_nested cosine_term cosine_encloses (square_nested tt u))
          (itself (tail_sized 18 (num_nonneg (le_z_yes tt)))))

    turn_nested : TurnNested (turn ar (leaf ar d) I) (turn Wide (leaf Wide d) I)
    unfolding turn circle_at leaf
    turn_nested = go (not (reducible I)) (beyond (U ar)) (beyond (U Wide)) (still_near reduced_nested)
        (λ near. turned_nested (mod_four q) (sine_nested near) (cosine_nested near))
      where
        found : Arithmetic → Option Circle
        found a = Some (turned (mod_four q) (circle_at a (leaf a d) (U a)))

        go : (x y z : Bool) → (T (not z) → T (not y)) → (T (not z) → TurnNested (found ar) (found Wide))
            → TurnNested (cond x None (cond y None (found ar))) (cond x None (cond z None (found Wide)))
        go true y z n t = tt
        go false y true n t = tt
        go false true false n t = absurd (n tt)
        go false false false n t = t tt

-- ---- a jet that lies in another: where that one is found, so is it
pub record JetLies (j j' : Jet) : Type 0 where
  pub value : Nested 100 j.value j'.value
  pub gradient : (i : ℕ) → i < 3 → Nested 100 (box_at j.gradient i) (box_at j'.gradient i)

abbrev pub JetNested : Option Jet → Option Jet → Type 0
JetNested j None = Unit {0}
JetNested None (Some j) = ⊥
JetNested (Some j) (Some j') = JetLies j j'

pub wave_sized : (d : Description) → pos 0 <ℤ d.period → Sized 15 (wave d)
wave_sized d above = sized (mul_encloses tt (low_end two_pi_sized) (turns_in d above))

module _ (ar : Arithmetic) (d : Description) (above : pos 0 <ℤ d.period) where
  -- the value and the gradient of each surface, from the sines and cosines
  module _
      {x y z x' y' z' : Circle} (X : TurnNested (Some x) (Some x')) (Y : TurnNested (Some y) (Some y')) (Z : TurnNested (Some z) (Some z')) where
    abbrev narrow : Waves
    narrow = record { x = x; y = y; z = z }

    abbrev wide : Waves
    wide = record { x = x'; y = y'; z = z' }

    value_nested : (f : Surface) → Nested 100 (value_at ar f narrow) (value_at Wide f wide)
    unfolding value_at
    value_nested Surface.Network = looser 100 tt (sum_nested ar tt (sum_nested ar tt (product_nested tt X.0 Y.1) (product_nested tt Y.0 Z.1))
        (product_nested tt Z.0 X.1))
    value_nested Surface.Primitive = looser 100 tt (sum_nested ar tt (sum_nested ar tt X.1 Y.1) Z.1)

    -- a factor of size 80, times the wave
    by_wave : {v v' : Interval} → Nested 80 v v' → Nested 100 (product v (wave d)) (product v' (wave d))
    by_wave h = looser 100 tt (product_nested tt h (itself (wave_sized d above)))

    -- cosine × after − before × sine
    across : {a b c e a' b' c' e' : Interval} → Nested 36 a a' → Nested 36 b b' → Nested 36 c c' → Nested 36 e e'
        → Nested 80 (difference ar (product a b) (product c e)) (difference Wide (product a' b') (product c' e'))
    across a b c e = looser 80 tt (difference_nested ar tt (product_nested tt a b) (product_nested tt c e))

    abbrev Entry : Surface → ℕ → Type 0
    Entry f i = Nested 100 (box_at (gradient_at ar f narrow (wave d)) i) (box_at (gradient_at Wide f wide (wave d)) i)

    gradient_nested : (f : Surface) (i : ℕ) → i < 3 → Entry f i
    unfolding gradient_at entry_at
    gradient_nested Surface.Network = three (Entry Surface.Network)
        (by_wave (across X.1 Y.1 Z.0 X.0)) (by_wave (across Y.1 Z.1 X.0 Y.0)) (by_wave (across Z.1 X.1 Y.0 Z.0))
    gradient_nested Surface.Primitive = three (Entry Surface.Primitive)
        (by_wave (looser 80 tt (negation_nested X.0))) (by_wave (looser 80 tt (negation_nested Y.0))) (by_wave (looser 80 tt (negation_nested Z.0)))

  abbrev made : Arithmetic → Surface → Option Circle → Option Circle → Option Circle → Option Jet
  made a f x y z = option_map (jet_of a f (wave d)) (waves_of x y z)

  found_nested : (f : Surface) (x x' y y' z z' : Option Circle) → TurnNested x x' → TurnNested y y' → TurnNested z z'
      → JetNested (made ar f x y z) (made Wide f x' y' z')
  found_nested f x None y y' z z' X Y Z = tt
  found_nested f None (Some s) y y' z z' X Y Z = absurd X
  found_nested f (Some s) (Some s') y None z z' X Y Z = tt
  found_nested f (Some s) (Some s') None (Some u) z z' X Y Z = absurd Y
  found_nested f (Some s) (Some s') (Some u) (Some u') z None X Y Z = tt
  found_nested f (Some s) (Some s') (Some u) (Some u') None (Some v) X Y Z = absurd Z
  found_nested f (Some s) (Some s') (Some u) (Some u') (Some v) (Some v') X Y Z = record {
    value = value_nested X Y Z f;
    gradient = gradient_nested X Y Z f;
  }

  -- THE FACT, at the centre of a box of ticks
  pub jet_nested : (lo hi : List ℤ) → Within3 1048576 lo → Within3 1048576 hi
      → JetNested (jet ar (leaf ar d) (centre (tick_box lo hi))) (jet Wide (leaf Wide d) (centre (tick_box lo hi)))
  unfolding jet waves centre leaf
  jet_nested lo hi low-in high-in = found_nested (surface_of d.kind) (at ar 0) (at Wide 0) (at ar 1) (at Wide 1) (at ar 2) (at Wide 2)
      (inside 0 (lit< tt)) (inside 1 (lit< tt)) (inside 2 (lit< tt))
    where
      at : Arithmetic → ℕ → Option Circle
      at a i = turn a (leaf a d) (product (point (mid (ends lo hi i))) (turns d))

      inside : (i : ℕ) → i < 3 → TurnNested (at ar i) (at Wide i)
      inside i b = turn_nested ar d (sized (wider 23 tt (mul_encloses tt (centre_in lo hi low-in high-in i b) (turns_in d above))))
