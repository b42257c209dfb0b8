-- A BOX WITH A ZERO OF EITHER SIGN: a box whose ends have the values of whole ticks has the residual and the state of the box of those ticks, bit
-- for bit, in either arithmetic. All that is taken of an end goes into a product, which steps and so forgets the sign of a zero, or through a test:
-- a middle, a difference and a radius keep the value alone. Assumes nothing.
use mathlib.Core.Path.{◌≡◌, refl, sym, ap, ◌∙◌}
use mathlib.Core.Bool.{cond, not, ◌&&◌}
use mathlib.Core.List.{List}
use Prim.Native.Nat.{ℕ, suc, ◌+◌, ◌^◌, ◌≤◌, ◌<◌}
use native.Mathlib.Omega.{arith}
use lib.Dec.{T, leb, leb→le, lit<, lit≤}
use lib.IntN.{ℤ, nat_abs, ◌+ℤ◌}
use lib.Ieee.{Float, neg}
use lib.Ieee.Scale.{finite}
use Rattle.std.specs.Prelude.{Option, Some, None, option_map}
use Rattle.exact.specs.Fraction.{Fraction, ◌≤F◌, ◌≈F◌}
use Rattle.exact.specs.Within.{Within}
use Rattle.exact.proofs.Size.{within_add}
use Rattle.exact.proofs.Fraction.{≤F_trans, ≤F_antisym, ≈F_sym, ≈F_trans, ≈F_le}
use Rattle.interval.specs.declared.Interval.{Interval}
use Rattle.interval.specs.Interval.{Arithmetic, point, greatest, sum, difference, product, square, mid, magnitude}
use Rattle.interval.specs.Encloses.{value, Small}
use Rattle.interval.specs.Nearest.{nearest}
use Rattle.interval.proofs.Small.{small_finite, small_more}
use Rattle.interval.proofs.Compare.{greatest_one, greatest_left, greatest_right}
use Rattle.interval.proofs.Membership.{In, wider}
use Rattle.interval.proofs.Encloses.{sub_encloses, square_is}
use Rattle.interval.proofs.Bounds.{magnitude_small}
use Rattle.interval.proofs.Exact.{binary, exact_small, mid_exact}
use Rattle.interval.proofs.Alike.{Alike, le_alike, alike_le, Same, same_alike, SameEnds, same, same_ends, sub_same, mul_same}
use Rattle.grade.specs.declared.Piece.{Piece}
use Rattle.grade.specs.declared.Piece.TheVariants.{Start, Ramp, End}
use Rattle.limits.specs.Ticks.{at, ticks}
use Rattle.grade.specs.Exact.{compiled}
use Rattle.grade.specs.Fits.{Within3}
use Rattle.grade.specs.Intervals.{box_at, zero, zeros, interval, piece_gradient, piece}
use Rattle.grade.proofs.Axes.{three}
use Rattle.grade.proofs.AxisLaws.{within_at}
use Rattle.grade.proofs.EntryLaws.{ticks_within}
use Rattle.grade.proofs.SlopeLaws.{zeros_at, piece_gradient_encloses}
use Rattle.grade.proofs.AlikeLaws.{SameBox, interval_same, affine_same, piece_same}
use Rattle.gyroid.specs.declared.Surface.{Surface}
use Rattle.gyroid.specs.declared.Description.{Description}
use Rattle.gyroid.specs.declared.Jet.{Jet}
use Rattle.gyroid.specs.declared.Circle.{Circle}
use Rattle.gyroid.specs.Fits.{Accepted}
use Rattle.gyroid.specs.Refusals.{ends_within, greatest_double, all_finite}
use Rattle.gyroid.specs.Leaf.{turns, leaf}
use Rattle.gyroid.specs.Turn.{symmetric, turn}
use Rattle.gyroid.specs.Jet.{waves_of, waves, jet_of, jet, minus}
use Rattle.gyroid.specs.Residual.{centre, radius, radii, reach, spread, bracket_at, second_order, bound, expanded, expansion}
use Rattle.gyroid.specs.Residual.{level_at, less_level, residual_on, residual, state_of, box_state}
use Rattle.gyroid.specs.Admitted.{tick_box}
use Rattle.grade.specs.Holds.{AtTick, OfTicks}
use Rattle.gyroid.proofs.AcceptedLaws.{Passed, accepted}
use Rattle.gyroid.proofs.CentreLaws.{over_binary, tick_exact}
use Rattle.gyroid.proofs.JetLaws.{JetIn, JetHolds, turns_in, jet_holds}
use Rattle.gyroid.proofs.ChosenLaws.{chosen}

-- ---- ends
at_nearest : {z : ℤ} → Within 1048576 z → AtTick (nearest z 1024) z
at_nearest {z} h = record { finite = (tick_exact h).0; value = ≈F_trans (tick_exact h).1 (over_binary z) }

pub tick_small : {x : Float} {z : ℤ} → Within 1048576 z → AtTick x z → Small 10 x
tick_small {x} {z} h a = exact_small 10 10 z x a.finite (≈F_trans a.value (≈F_sym (over_binary z))) h.abs

one_tick : {x y : Float} {z : ℤ} → Within 1048576 z → AtTick x z → AtTick y z → Same 11 x y
one_tick {x} {y} h a b = record {
  left = small_more 10 11 x (lit≤ tt) (tick_small h a);
  right = small_more 10 11 y (lit≤ tt) (tick_small h b);
  value = ≈F_trans a.value (≈F_sym b.value);
}

pub point_same : {k : ℕ} {x y : Float} → Same k x y → SameEnds k (point x) (point y)
point_same s = record { lo = s; hi = s }

-- the greater of two
reversed : {k : ℕ} {x y : Float} → Same k x y → Same k y x
reversed s = record { left = s.right; right = s.left; value = ≈F_sym s.value }

greatest_most : {k : ℕ} {a b c d : Float} → Same k a c → Same k b d → value (greatest a b) ≤F value (greatest c d)
greatest_most {k} {a} {b} {c} {d} p q =
    let f = small_finite k c p.right in
    let g = small_finite k d q.right in
    greatest_one a b (λ z. value z ≤F value (greatest c d))
    (≤F_trans (≈F_le p.value) (greatest_left c d f g)) (≤F_trans (≈F_le q.value) (greatest_right c d f g))

pub greatest_same : {k : ℕ} {a b c d : Float} → Same k a c → Same k b d → Same k (greatest a b) (greatest c d)
greatest_same {k} {a} {b} {c} {d} p q = record {
  left = greatest_one a b (Small k) p.left q.left;
  right = greatest_one c d (Small k) p.right q.right;
  value = ≤F_antisym (greatest_most p q) (greatest_most (reversed p) (reversed q));
}

-- the box of ticks is one of those
pub of_ticks : (lo hi : List ℤ) → Within3 1048576 lo → Within3 1048576 hi → OfTicks lo hi (tick_box lo hi)
of_ticks lo hi low-in high-in = record {
  lows = three (λ i. AtTick (box_at (tick_box lo hi) i).lo (at lo i)) (at_nearest low-in.x) (at_nearest low-in.y) (at_nearest low-in.z);
  highs = three (λ i. AtTick (box_at (tick_box lo hi) i).hi (at hi i)) (at_nearest high-in.x) (at_nearest high-in.y) (at_nearest high-in.z);
}

-- the middle of two ticks is exact
mid_tick : (X : Interval) {m n : ℤ} → Within 1048576 m → Within 1048576 n → AtTick X.lo m → AtTick X.hi n
    → T (finite (mid X)) × (value (mid X) ≈F binary (m +ℤ n) 11)
mid_tick X {m} {n} h k a b =
    mid_exact 10 m n X tt (below (nat_abs m) (nat_abs n) h.abs k.abs) a.finite b.finite
    (≈F_trans a.value (≈F_sym (over_binary m))) (≈F_trans b.value (≈F_sym (over_binary n)))
  where
    below : (m n : ℕ) → m ≤ 1048576 → n ≤ 1048576 → m + n < 2 ^ 53
    below m n h k = omega arith

mid_tick_small : (X : Interval) {m n : ℤ} → Within 1048576 m → Within 1048576 n → AtTick X.lo m → AtTick X.hi n → Small 11 (mid X)
mid_tick_small X {m} {n} h k a b =
    let (f, e) = mid_tick X h k a b in
    small_more 10 11 (mid X) (lit≤ tt) (exact_small 10 11 (m +ℤ n) (mid X) f e (within_add h k).abs)

-- ---- the second-order term is made of products of two radii
module _ (ar : Arithmetic) (r s : List Interval) (same : (i : ℕ) → i < 3 → SameEnds 13 (box_at r i) (box_at s i)) where
  product_same : (i j : ℕ) → T (leb (suc i) 3) → T (leb (suc j) 3) → product (box_at r i) (box_at r j) ≡ product (box_at s i) (box_at s j)
  product_same i j t u = mul_same (same i (leb→le (suc i) 3 t)) (same j (leb→le (suc j) 3 u))

  square_same : (i : ℕ) → T (leb (suc i) 3) → square (box_at r i) ≡ square (box_at s i)
  square_same i t = square_is (box_at r i) ∙ product_same i i t t ∙ sym (square_is (box_at s i))

  bracket_same : (f : Surface) → bracket_at ar f (box_at r 0) (box_at r 1) (box_at r 2) ≡ bracket_at ar f (box_at s 0) (box_at s 1) (box_at s 2)
  unfolding bracket_at
  bracket_same Surface.Network =
      cc (square_same 0 tt, square_same 1 tt, square_same 2 tt, product_same 0 1 tt tt, product_same 1 2 tt tt, product_same 2 0 tt tt)
  bracket_same Surface.Primitive = cc (square_same 0 tt, square_same 1 tt, square_same 2 tt)

  pub second_alike : (f : Surface) (k2 : Interval) → second_order ar f k2 r ≡ second_order ar f k2 s
  unfolding second_order
  second_alike f k2 = ap (product k2) (bracket_same f)

-- ---- a box and that of its ticks
module _
    (d : Description) (passed : Passed d) (lo hi : List ℤ) (low-in : Within3 1048576 lo) (high-in : Within3 1048576 hi)
    (w : List Interval) (h : OfTicks lo hi w) where
  abbrev v : List Interval
  v = tick_box lo hi

  o : OfTicks lo hi v
  o = of_ticks lo hi low-in high-in

  box_same : SameBox w v
  box_same i b = record {
    lo = one_tick (within_at low-in i b) (h.lows i b) (o.lows i b);
    hi = one_tick (within_at high-in i b) (h.highs i b) (o.highs i b);
  }

  mid_same : (i : ℕ) → i < 3 → Same 11 (mid (box_at w i)) (mid (box_at v i))
  mid_same i b =
      let l = within_at low-in i b in
      let u = within_at high-in i b in
      record {
        left = mid_tick_small (box_at w i) l u (h.lows i b) (h.highs i b);
        right = mid_tick_small (box_at v i) l u (o.lows i b) (o.highs i b);
        value = ≈F_trans (mid_tick (box_at w i) l u (h.lows i b) (h.highs i b)).1 (≈F_sym (mid_tick (box_at v i) l u (o.lows i b) (o.highs i b)).1);
      }

  centre_same : SameBox (centre w) (centre v)
  unfolding centre
  centre_same = three (λ i. SameEnds 11 (box_at (centre w) i) (box_at (centre v) i))
      (point_same (mid_same 0 (lit< tt))) (point_same (mid_same 1 (lit< tt))) (point_same (mid_same 2 (lit< tt)))

  -- ---- the turns at the centre, the test for infinite ends
  turn_same : (i : ℕ) → i < 3 → product (box_at (centre w) i) (turns d) ≡ product (box_at (centre v) i) (turns d)
  turn_same i b =
      let e = turns_in d passed.above in
      mul_same {k = 11} (centre_same i b) (same_ends (turns d) e.small_lo e.small_hi)

  finite_same : all_finite w ≡ all_finite v
  unfolding all_finite
  finite_same = λ k. within 0 (lit< tt) k && within 1 (lit< tt) k && within 2 (lit< tt) k
    where
      low : (i : ℕ) → i < 3 → Alike (box_at w i).lo (box_at v i).lo
      low i b = same_alike (box_same i b).lo

      high : (i : ℕ) → i < 3 → Alike (box_at w i).hi (box_at v i).hi
      high i b = same_alike (box_same i b).hi

      within : (i : ℕ) → i < 3 → ends_within greatest_double (box_at w i) ≡ ends_within greatest_double (box_at v i)
      within i b = λ k. le_alike (low i b) (neg greatest_double) k && alike_le (low i b) greatest_double k
          && le_alike (high i b) (neg greatest_double) k && alike_le (high i b) greatest_double k

  module _ (ar : Arithmetic) where
    -- ---- the jet at the centre, the radii
    jet_same : jet ar (leaf ar d) (centre w) ≡ jet ar (leaf ar d) (centre v)
    unfolding jet waves leaf
    jet_same = λ k. option_map (jet_of ar (leaf ar d).surface (leaf ar d).wave)
        (waves_of (at_turn (turn_same 0 (lit< tt) k)) (at_turn (turn_same 1 (lit< tt) k)) (at_turn (turn_same 2 (lit< tt) k)))
      where
        at_turn : Interval → Option Circle
        at_turn t = turn ar (leaf ar d) t

    radius_same : (i : ℕ) → i < 3 → Same 13 (radius ar (box_at w i)) (radius ar (box_at v i))
    unfolding radius
    radius_same i b =
        let m = point_same (mid_same i b) in
        greatest_same (sub_same ar tt (point_same (box_same i b).hi) m).hi (sub_same ar tt m (point_same (box_same i b).lo)).hi

    radii_same : (i : ℕ) → i < 3 → SameEnds 13 (box_at (radii ar w) i) (box_at (radii ar v) i)
    unfolding radii
    radii_same = three (λ i. SameEnds 13 (box_at (radii ar w) i) (box_at (radii ar v) i))
        (point_same (radius_same 0 (lit< tt))) (point_same (radius_same 1 (lit< tt))) (point_same (radius_same 2 (lit< tt)))

    second_same : (f : Surface) (k2 : Interval) → second_order ar f k2 (radii ar w) ≡ second_order ar f k2 (radii ar v)
    second_same f k2 = second_alike ar (radii ar w) (radii ar v) radii_same f k2

    -- ---- the first-order term, of products of a size and a radius. The gradient that is found is at most 2 ^ 100 in size, and so is the slope
    module _ (level : Interval) (slope : List Interval) {s : ℕ → Fraction} (slope_in : (i : ℕ) → i < 3 → In 100 (s i) (box_at slope i)) where
      module _ {x : Fraction} {g : ℕ → Fraction} (j : Jet) (found : JetIn j x g) where
        steep_small : (i : ℕ) → i < 3 → Small 102 (magnitude (box_at (minus ar j.gradient slope) i))
        unfolding minus
        steep_small = three (λ i. Small 102 (magnitude (box_at (minus ar j.gradient slope) i))) (entry 0 (lit< tt)) (entry 1 (lit< tt)) (entry 2 (lit< tt))
          where
            entry : (i : ℕ) → i < 3 → Small 102 (magnitude (difference ar (box_at j.gradient i) (box_at slope i)))
            entry i b = magnitude_small (sub_encloses ar tt (found.gradient i b) (slope_in i b))

        spread_same : spread ar (minus ar j.gradient slope) (radii ar w) ≡ spread ar (minus ar j.gradient slope) (radii ar v)
        unfolding spread reach
        spread_same = cc (reached 0 (lit< tt), reached 1 (lit< tt), reached 2 (lit< tt))
          where
            reached : (i : ℕ) → i < 3 → reach (box_at (minus ar j.gradient slope) i) (box_at (radii ar w) i)
                ≡ reach (box_at (minus ar j.gradient slope) i) (box_at (radii ar v) i)
            reached i b = mul_same {j = 102} (point_same (same (magnitude (box_at (minus ar j.gradient slope) i)) (steep_small i b))) (radii_same i b)

      expanded_same : (q : Interval) (x : Fraction) (g : ℕ → Fraction) (j : Option Jet) → JetHolds j x g
          → option_map (expanded ar q level slope (radii ar w)) j ≡ option_map (expanded ar q level slope (radii ar v)) j
      unfolding bound
      expanded_same q x g None found = refl
      expanded_same q x g (Some j) found = ap about (spread_same j found)
        where
          about : Interval → Option Interval
          about y = Some (sum ar (difference ar j.value level) (symmetric (sum ar y q).hi))

      expansion_same : expansion ar (leaf ar d) w level slope ≡ expansion ar (leaf ar d) v level slope
      unfolding expansion
      expansion_same =
          (λ k. cond (not (finite_same k)) None
          (option_map (expanded ar (second_same (leaf ar d).surface (leaf ar d).wave_squared k) level slope (radii ar w)) (jet_same k)))
          ∙ ap (λ (r : Option Interval). cond (not (all_finite v)) None r)
          (expanded_same (second_order ar (leaf ar d).surface (leaf ar d).wave_squared (radii ar v)) _ _ (jet ar (leaf ar d) (centre v))
          (jet_holds ar d passed.above lo hi low-in high-in (chosen d lo hi)))

    -- ---- the residual
    flat_same : (level : Interval) → expansion ar (leaf ar d) w level zeros ≡ expansion ar (leaf ar d) v level zeros
    flat_same level = expansion_same level zeros (λ i b. wider 100 tt (zeros_at i b))

    sloped_same : (p : Piece) (level : Interval) → expansion ar (leaf ar d) w level (piece_gradient (leaf ar d).intervals p)
        ≡ expansion ar (leaf ar d) v level (piece_gradient (leaf ar d).intervals p)
    unfolding leaf
    sloped_same p level =
        expansion_same level (piece_gradient (leaf ar d).intervals p) (piece_gradient_encloses ar d.level passed.level passed.apart p)

    level_same : (p : Piece) → level_at ar (leaf ar d).intervals p (centre w) ≡ level_at ar (leaf ar d).intervals p (centre v)
    unfolding leaf
    level_same Start = interval_same ar (compiled d.level) passed.fits (centre w) (centre v) centre_same
    level_same Ramp = affine_same ar (compiled d.level) passed.fits (centre w) (centre v) centre_same
    level_same End = interval_same ar (compiled d.level) passed.fits (centre w) (centre v) centre_same

    range_same : interval ar (leaf ar d).intervals w ≡ interval ar (leaf ar d).intervals v
    unfolding leaf
    range_same = interval_same ar (compiled d.level) passed.fits w v box_same

    which_same : piece ar (leaf ar d).intervals w ≡ piece ar (leaf ar d).intervals v
    unfolding leaf
    which_same = piece_same ar (compiled d.level) passed.fits w v box_same

    on_same : (a : Option Piece) → residual_on ar a (leaf ar d) w ≡ residual_on ar a (leaf ar d) v
    on_same (Some p) =
        ap (λ (l : Interval). expansion ar (leaf ar d) w l (piece_gradient (leaf ar d).intervals p)) (level_same p)
        ∙ sloped_same p (level_at ar (leaf ar d).intervals p (centre v))
    on_same None = λ k. less_level ar (flat_same zero k) (range_same k)

    same_residual : residual ar (leaf ar d) w ≡ residual ar (leaf ar d) v
    unfolding residual
    same_residual = on_same (piece ar (leaf ar d).intervals w) ∙ ap (λ (a : Option Piece). residual_on ar a (leaf ar d) v) which_same

-- ---- THE LAW
module _
    (ar : Arithmetic) (d : Description) (none : Accepted d) (lo hi : List ℤ) (low-ticks : T (ticks lo)) (high-ticks : T (ticks hi))
    (w : List Interval) (h : OfTicks lo hi w) where
  pub residual_same : residual ar (leaf ar d) w ≡ residual ar (leaf ar d) (tick_box lo hi)
  residual_same = same_residual d (accepted d none.none).0 lo hi (ticks_within lo low-ticks) (ticks_within hi high-ticks) w h ar

  pub state_same : box_state ar (leaf ar d) w ≡ box_state ar (leaf ar d) (tick_box lo hi)
  unfolding box_state
  state_same = ap state_of residual_same
