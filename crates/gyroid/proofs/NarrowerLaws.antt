-- "EXACT SUMS STAY NARROW": of an accepted description and a box of whole ticks that holds a point, both arithmetics find the same piece, and the
-- residual in either lies in the wide one; so what the wide arithmetic settles is settled alike. Of other boxes of doubles this is not said: there
-- one may find a piece where the other finds none, and the level is then taken off in another order. Assumes nothing.
use mathlib.Core.Path.{◌≡◌, refl, sym, subst}
use mathlib.Core.Logic.{inl, inr}
use mathlib.Core.Bool.{Bool, true, false, cond, not}
use mathlib.Core.List.{List}
use Prim.Native.Nat.{ℕ, ◌<◌}
use lib.Dec.{T, lit<}
use lib.IntN.{ℤ}
use lib.Signed.{◌≤ℤ◌}
use lib.Ieee.{Float, lt}
use lib.Ieee.Scale.{finite}
use Rattle.std.specs.Prelude.{Option, Some, None, option_map}
use Rattle.exact.specs.Fraction.{whole, ◌≤F◌, ◌<F◌}
use Rattle.exact.proofs.IntegerOrder.{le_or_lt}
use Rattle.exact.proofs.Fraction.{≤F_trans, same_den_lt, <F_le, <F_irrefl, ≤F-<F_trans, <F-≤F_trans}
use Rattle.interval.specs.declared.Interval.{Interval}
use Rattle.interval.specs.Step.{b64}
use Rattle.interval.specs.Interval.{Arithmetic, Wide, point, sum, difference, square, mid}
use Rattle.interval.specs.Encloses.{value}
use Rattle.interval.proofs.Small.{small_finite}
use Rattle.interval.proofs.Compare.{lt_value, nlt_value}
use Rattle.interval.proofs.Membership.{wider, zero_finite, zero_encloses}
use Rattle.interval.proofs.Narrower.{Sized, sized, Nested, itself, lies, looser, sum_nested, difference_nested}
use Rattle.interval.proofs.NarrowerBounds.{Under, under_looser, sum_under, product_under, symmetric_nested}
use Rattle.grade.specs.declared.GradeDef.{GradeDef}
use Rattle.grade.specs.declared.Piece.{Piece}
use Rattle.limits.specs.Ticks.{ticks}
use Rattle.grade.specs.Grade.{Point}
use Rattle.grade.specs.Exact.{compiled}
use Rattle.grade.specs.Intervals.{grade_intervals, box_at, zero, zeros, piece_gradient, piece}
use Rattle.grade.specs.Fits.{Within3}
use Rattle.grade.specs.Holds.{InBox}
use Rattle.grade.specs.Extended.{WholeTicks}
use Rattle.grade.proofs.Axes.{three}
use Rattle.grade.proofs.EntryLaws.{ticks_within}
use Rattle.grade.proofs.SlopeLaws.{zeros_at, piece_gradient_encloses}
use Rattle.grade.proofs.NarrowerLaws.{interval_nested, affine_nested, piece_gradient_same}
use Rattle.grade.proofs.TickPieceLaws.{tick_piece_same}
use Rattle.gyroid.specs.declared.Description.{Description}
use Rattle.gyroid.specs.declared.Surface.{Surface}
use Rattle.gyroid.specs.declared.Jet.{Jet}
use Rattle.gyroid.specs.declared.State.TheVariants.{Inside, Outside, Unsettled}
use Rattle.gyroid.specs.Refusals.{all_finite}
use Rattle.gyroid.specs.Jet.{minus, jet}
use Rattle.gyroid.specs.Fits.{Accepted}
use Rattle.gyroid.specs.Settles.{LiesIn}
use Rattle.gyroid.specs.Leaf.{wave, surface_of, leaf}
use Rattle.gyroid.specs.Residual.{centre, radius, radii, reach, spread, second_order, bound, expanded, expansion}
use Rattle.gyroid.specs.Residual.{level_at, less_level, residual_on, residual, state_of, box_state}
use Rattle.gyroid.specs.Admitted.{ends, tick_box}
use Rattle.gyroid.proofs.AcceptedLaws.{Passed, accepted}
use Rattle.gyroid.proofs.AlikeLaws.{of_ticks}
use Rattle.gyroid.proofs.CentreLaws.{centre_in, point_in}
use Rattle.gyroid.proofs.NarrowerJet.{JetLies, JetNested, jet_nested}
use Rattle.gyroid.proofs.NarrowerBound.{wave_squared_nonneg, wave_squared_under, zero_under, bracket_under, reach_under, radius_under}

-- ---- a residual that lies in another, with the sizes of both
abbrev NestedIn : ℕ → Option Interval → Option Interval → Type 0
NestedIn k r None = Unit {0}
NestedIn k None (Some v) = ⊥
NestedIn k (Some u) (Some v) = Nested k u v

lies_in : (k : ℕ) (r r' : Option Interval) → NestedIn k r r' → LiesIn r r'
lies_in k r None h = tt
lies_in k None (Some v) h = absurd h
lies_in k (Some u) (Some v) h = lies h

more : (r r' : Option Interval) → NestedIn 125 r r' → NestedIn 127 r r'
more r None h = tt
more None (Some v) h = absurd h
more (Some u) (Some v) h = looser 127 tt h

-- less the level's range
less_nested : (ar : Arithmetic) (r r' : Option Interval) {L L' : Interval} → NestedIn 125 r r' → Nested 100 L L'
    → NestedIn 127 (less_level ar r L) (less_level Wide r' L')
less_nested ar r None h l = tt
less_nested ar None (Some v) h l = absurd h
less_nested ar (Some u) (Some v) h l = difference_nested ar tt h l

-- ---- the same state, where the wide one is settled
module _ {k : ℕ} {X Y : Interval} (h : Nested k X Y) where
  end_finite : T (finite X.lo) × T (finite X.hi) × T (finite Y.lo) × T (finite Y.hi)
  end_finite = (
    small_finite k X.lo h.small.lo,
    small_finite k X.hi h.small.hi,
    small_finite k Y.lo h.wide.lo,
    small_finite k Y.hi h.wide.hi,
  )

  -- x is below y, by their values
  is_below : (x y : Float) → T (finite x) → T (finite y) → value x <F value y → T (lt x y)
  is_below x y f g l = settled (lt x y) (λ t. <F_irrefl l (nlt_value x y f g t))
    where
      settled : (b : Bool) → (T (not b) → ⊥) → T b
      settled true n = tt
      settled false n = absurd (n tt)

  above : T (lt (b64 0) Y.lo) → T (lt (b64 0) X.lo)
  above t = let (xl, xh, yl, yh) = end_finite in
      is_below (b64 0) X.lo zero_finite xl (<F-≤F_trans (lt_value (b64 0) Y.lo zero_finite yl t) h.lower)

  below : T (lt Y.hi (b64 0)) → T (lt X.hi (b64 0))
  below t = let (xl, xh, yl, yh) = end_finite in
      is_below X.hi (b64 0) xh zero_finite (≤F-<F_trans h.upper (lt_value Y.hi (b64 0) yh zero_finite t))

  -- what is below zero at its high end is not above it at its low end
  not_both : T (lt X.hi (b64 0)) → T (lt (b64 0) X.lo) → ⊥
  not_both t u = let (xl, xh, yl, yh) = end_finite in
      <F_irrefl (<F-≤F_trans (lt_value (b64 0) X.lo zero_finite xl u) h.small.order) (<F_le (lt_value X.hi (b64 0) xh zero_finite t))

  enclosure_state : (state_of (Some Y) ≡ Unsettled → ⊥) → state_of (Some X) ≡ state_of (Some Y)
  enclosure_state = by_tests (lt (b64 0) X.lo) (lt X.hi (b64 0)) (lt (b64 0) Y.lo) (lt Y.hi (b64 0)) above below not_both
    where
      by_tests : (a b a' b' : Bool) → (T a' → T a) → (T b' → T b) → (T b → T a → ⊥)
          → (cond a' Outside (cond b' Inside Unsettled) ≡ Unsettled → ⊥)
          → cond a Outside (cond b Inside Unsettled) ≡ cond a' Outside (cond b' Inside Unsettled)
      by_tests true b true b' f g n s = refl
      by_tests false b true b' f g n s = absurd (f tt)
      by_tests true true false true f g n s = absurd (n tt tt)
      by_tests true false false true f g n s = absurd (g tt)
      by_tests false true false true f g n s = refl
      by_tests false false false true f g n s = absurd (g tt)
      by_tests a b false false f g n s = absurd (s refl)

state_kept : (k : ℕ) (r r' : Option Interval) → NestedIn k r r' → (state_of r' ≡ Unsettled → ⊥) → state_of r ≡ state_of r'
state_kept k r None h s = absurd (s refl)
state_kept k None (Some v) h s = absurd h
state_kept k (Some u) (Some v) h s = enclosure_state h s

-- ---- the expansion, the residual
module _
    (ar : Arithmetic) (d : Description) (passed : Passed d) (lo hi : List ℤ) (low-in : Within3 1048576 lo) (high-in : Within3 1048576 hi)
    (p : Point) (inside : InBox lo hi p) where
  abbrev w : List Interval
  w = tick_box lo hi

  abbrev f : Surface
  f = surface_of d.kind

  abbrev r : Arithmetic → ℕ → Float
  r a i = radius a (ends lo hi i)

  term_under : Under 100 (second_order ar f (square (wave d)) (radii ar w)) (second_order Wide f (square (wave d)) (radii Wide w))
  unfolding second_order radii
  term_under = under_looser 100 tt (product_under tt (wave_squared_under d passed) (bracket_under ar f (at 0 (lit< tt)) (at 1 (lit< tt)) (at 2 (lit< tt)))
      (wave_squared_nonneg d passed))
    where
      at : (i : ℕ) → i < 3 → Under 12 (point (r ar i)) (point (r Wide i))
      at = radius_under ar lo hi low-in high-in p inside

  abbrev j : Arithmetic → Option Jet
  j a = jet a (leaf a d) (centre w)

  abbrev term : Arithmetic → Interval
  term a = second_order a f (square (wave d)) (radii a w)

  -- a level and its slope
  module _
      {L L' : Interval} (S S' : List Interval) (level : Nested 100 L L')
      (slope : (i : ℕ) → i < 3 → Nested 100 (box_at S i) (box_at S' i)) where
    module _ {J J' : Jet} (at_centre : JetLies J J') where
      steep : (i : ℕ) → i < 3 → Nested 102 (difference ar (box_at J.gradient i) (box_at S i)) (difference Wide (box_at J'.gradient i) (box_at S' i))
      steep i b = difference_nested ar tt (at_centre.gradient i b) (slope i b)

      bound_under : Under 123 (sum ar (spread ar (minus ar J.gradient S) (radii ar w)) (term ar))
          (sum Wide (spread Wide (minus Wide J'.gradient S') (radii Wide w)) (term Wide))
      unfolding spread minus radii
      bound_under = sum_under ar tt (sum_under ar tt (sum_under ar tt (sum_under ar tt zero_under (share 0 (lit< tt))) (share 1 (lit< tt)))
          (share 2 (lit< tt))) term_under
        where
          share : (i : ℕ) (b : i < 3) → Under 115 (reach (difference ar (box_at J.gradient i) (box_at S i)) (point (r ar i)))
              (reach (difference Wide (box_at J'.gradient i) (box_at S' i)) (point (r Wide i)))
          share i b = reach_under ar (steep i b) (radius_under ar lo hi low-in high-in p inside i b)

      about_nested : Nested 125 (expanded ar (term ar) L S (radii ar w) J) (expanded Wide (term Wide) L' S' (radii Wide w) J')
      unfolding bound
      about_nested = sum_nested ar tt (difference_nested ar tt at_centre.value level) (symmetric_nested bound_under)

    expansion_nested : NestedIn 125 (expansion ar (leaf ar d) w L S) (expansion Wide (leaf Wide d) w L' S')
    unfolding expansion leaf
    expansion_nested = finite (not (all_finite w))
      where
        about : Arithmetic → Interval → List Interval → Option Jet → Option Interval
        about a l s o = option_map (expanded a (term a) l s (radii a w)) o

        found : (o o' : Option Jet) → JetNested o o' → NestedIn 125 (about ar L S o) (about Wide L' S' o')
        found o None h = tt
        found None (Some J) h = absurd h
        found (Some J) (Some J') h = about_nested h

        finite : (b : Bool) → NestedIn 125 (cond b None (about ar L S (j ar))) (cond b None (about Wide L' S' (j Wide)))
        finite true = tt
        finite false = found (j ar) (j Wide) (jet_nested ar d passed.above lo hi low-in high-in)

  -- ---- the level by piece, and its slope
  abbrev G : GradeDef
  G = compiled d.level

  box : (i : ℕ) → i < 3 → Sized 40 (box_at w i)
  box = three (λ i. Sized 40 (box_at w i)) (at 0 (lit< tt)) (at 1 (lit< tt)) (at 2 (lit< tt))
    where
      at : (i : ℕ) → i < 3 → Sized 40 (ends lo hi i)
      at i b = sized (wider 40 tt (point_in lo hi low-in high-in i b p inside))

  middle : (i : ℕ) → i < 3 → Sized 40 (box_at (centre w) i)
  unfolding centre
  middle = three (λ i. Sized 40 (box_at (centre w) i)) (at 0 (lit< tt)) (at 1 (lit< tt)) (at 2 (lit< tt))
    where
      at : (i : ℕ) → i < 3 → Sized 40 (point (mid (ends lo hi i)))
      at i b = sized (wider 40 tt (centre_in lo hi low-in high-in i b))

  level_nested : (a : Piece) → Nested 100 (level_at ar (grade_intervals ar G) a (centre w)) (level_at Wide (grade_intervals Wide G) a (centre w))
  level_nested Piece.Start = interval_nested ar d.level passed.level passed.apart (centre w) middle
  level_nested Piece.Ramp = affine_nested ar d.level passed.level passed.apart (centre w) middle
  level_nested Piece.End = interval_nested ar d.level passed.level passed.apart (centre w) middle

  slope_nested : (a : Piece) (i : ℕ) → i < 3 → Nested 100 (box_at (piece_gradient (grade_intervals ar G) a) i) (box_at (piece_gradient (grade_intervals Wide G) a) i)
  slope_nested a i b = subst (λ (s : List Interval). Nested 100 (box_at (piece_gradient (grade_intervals ar G) a) i) (box_at s i)) (piece_gradient_same ar G a)
      (itself (sized (piece_gradient_encloses ar d.level passed.level passed.apart a i b)))

  flat_nested : (i : ℕ) → i < 3 → Nested 100 (box_at zeros i) (box_at zeros i)
  flat_nested i b = itself (sized (wider 100 tt (zeros_at i b)))

  on_piece : (a : Option Piece) → NestedIn 127 (residual_on ar a (leaf ar d) w) (residual_on Wide a (leaf Wide d) w)
  unfolding leaf
  on_piece (Some a) = more (residual_on ar (Some a) (leaf ar d) w) (residual_on Wide (Some a) (leaf Wide d) w)
      (expansion_nested (piece_gradient (grade_intervals ar G) a) (piece_gradient (grade_intervals Wide G) a) (level_nested a) (slope_nested a))
  on_piece None = less_nested ar (expansion ar (leaf ar d) w zero zeros) (expansion Wide (leaf Wide d) w zero zeros)
      (expansion_nested zeros zeros (itself (sized (wider 100 tt zero_encloses))) flat_nested)
      (interval_nested ar d.level passed.level passed.apart w box)

  whole_ticks : WholeTicks lo hi w
  whole_ticks = record {
    low = low-in;
    high = high-in;
    order = λ i b. whole_order (≤F_trans (inside.above i b) (inside.below i b));
    ends = of_ticks lo hi low-in high-in;
  }
    where
      whole_order : {m n : ℤ} → whole m ≤F whole n → m ≤ℤ n
      whole_order {m} {n} h = elim (le_or_lt m n) [ inl l ↦ l | inr l ↦ absurd (<F_irrefl (same_den_lt l) h) ]

  same_piece : piece ar (grade_intervals ar G) w ≡ piece Wide (grade_intervals Wide G) w
  same_piece = tick_piece_same ar d.level passed.level passed.apart lo hi w whole_ticks

  residual_nested : NestedIn 127 (residual ar (leaf ar d) w) (residual Wide (leaf Wide d) w)
  unfolding residual leaf
  residual_nested = subst (λ (a : Option Piece). NestedIn 127 (residual_on ar a (leaf ar d) w) (residual Wide (leaf Wide d) w)) (sym same_piece)
      (on_piece (piece Wide (grade_intervals Wide G) w))

-- ---- THE THEOREM
module _
    (ar : Arithmetic) (d : Description) (none : Accepted d) (lo hi : List ℤ) (low-ticks : T (ticks lo)) (high-ticks : T (ticks hi))
    (p : Point) (inside : InBox lo hi p) where
  abbrev found : Arithmetic → Option Piece
  found a = piece a (leaf a d).intervals (tick_box lo hi)

  -- both find the same piece, or none
  pub piece_narrow : found ar ≡ found Wide
  unfolding leaf
  piece_narrow = same_piece ar d (accepted d none.none).0 lo hi (ticks_within lo low-ticks) (ticks_within hi high-ticks) p inside

  within : NestedIn 127 (residual ar (leaf ar d) (tick_box lo hi)) (residual Wide (leaf Wide d) (tick_box lo hi))
  within = residual_nested ar d (accepted d none.none).0 lo hi (ticks_within lo low-ticks) (ticks_within hi high-ticks) p inside

  -- the residual lies in the wide one
  pub residual_narrow : LiesIn (residual ar (leaf ar d) (tick_box lo hi)) (residual Wide (leaf Wide d) (tick_box lo hi))
  residual_narrow = lies_in 127 (residual ar (leaf ar d) (tick_box lo hi)) (residual Wide (leaf Wide d) (tick_box lo hi)) within

  -- so what the wide arithmetic settles is settled alike
  pub state_narrow : (box_state Wide (leaf Wide d) (tick_box lo hi) ≡ Unsettled → ⊥)
      → box_state ar (leaf ar d) (tick_box lo hi) ≡ box_state Wide (leaf Wide d) (tick_box lo hi)
  unfolding box_state
  state_narrow = state_kept 127 (residual ar (leaf ar d) (tick_box lo hi)) (residual Wide (leaf Wide d) (tick_box lo hi)) within
