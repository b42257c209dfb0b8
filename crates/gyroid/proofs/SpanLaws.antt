-- A SIDE'S RADIUS DEPENDS ON ITS SPAN: two sides of whole ticks that are equally long have radii of one value, and so three such pairs have the same
-- second-order term, bit for bit, in either arithmetic. Assumes nothing.
use mathlib.Core.Path.{◌≡◌, subst}
use mathlib.Core.List.{List, [], ◌∷◌}
use Prim.Native.Nat.{ℕ, ◌+◌, ◌^◌, ◌≤◌, ◌<◌}
use native.Mathlib.Omega.{arith}
use lib.Dec.{T, lit<, lit≤}
use lib.IntN.{ℤ, pos, nat_abs, ◌+ℤ◌, ◌-ℤ◌}
use lib.Ieee.{Float}
use lib.Ieee.Scale.{finite}
use Rattle.exact.specs.Fraction.{Fraction, ◌-F◌, ◌≈F◌}
use Rattle.exact.specs.Within.{Within}
use Rattle.exact.proofs.Size.{within_add}
use Rattle.exact.proofs.Ring.{◌⊕◌, ◌⊖◌, ◌⊗◌, lit, ring}
use Rattle.exact.proofs.Fraction.{≈F_sym, ≈F_trans, sub_ratio, sub_cong_f}
use Rattle.interval.specs.declared.Interval.{Interval}
use Rattle.interval.specs.Interval.{Arithmetic, point, mid}
use Rattle.interval.specs.Nearest.{nearest}
use Rattle.interval.specs.Encloses.{value, Small}
use Rattle.interval.proofs.Small.{small_more}
use Rattle.interval.proofs.Exact.{binary, exact_small, mid_exact}
use Rattle.interval.proofs.Alike.{Same, SameEnds, apart_same}
use Rattle.grade.specs.Intervals.{box_at}
use Rattle.grade.proofs.Axes.{three}
use Rattle.grade.specs.InUse.{in_use}
use Rattle.gyroid.specs.declared.Gyroid.{Gyroid}
use Rattle.gyroid.specs.Residual.{radius}
use Rattle.gyroid.specs.Parts
use Rattle.gyroid.specs.FunctionsInUse.{second_of}
use Rattle.gyroid.proofs.CentreLaws.{tick_exact}
use Rattle.gyroid.proofs.AlikeLaws.{point_same, greatest_same, second_alike}

-- the side between two ticks
abbrev pub side_of : ℤ → ℤ → Interval
side_of a b = record { lo = nearest a 1024; hi = nearest b 1024 }

-- ---- one side: its ends and its middle are exact, and either end is half the span from the middle
module _ (a b : ℤ) (A : Within 1048576 a) (B : Within 1048576 b) where
  middle : T (finite (mid (side_of a b))) × (value (mid (side_of a b)) ≈F binary (a +ℤ b) 11)
  middle =
      mid_exact 10 a b (side_of a b) tt (below (nat_abs a) (nat_abs b) A.abs B.abs) (tick_exact A).0 (tick_exact B).0
      (tick_exact A).1 (tick_exact B).1
    where
      below : (m n : ℕ) → m ≤ 1048576 → n ≤ 1048576 → m + n < 2 ^ 53
      below m n h k = omega arith

  middle_small : Small 11 (mid (side_of a b))
  middle_small = small_more 10 11 (mid (side_of a b)) (lit≤ tt) (exact_small 10 11 (a +ℤ b) (mid (side_of a b)) middle.0 middle.1 (within_add A B).abs)

  above : value (nearest b 1024) -F value (mid (side_of a b)) ≈F binary (b -ℤ a) 11
  above =
      ≈F_trans (sub_cong_f (tick_exact B).1 middle.1) (≈F_trans (sub_ratio (binary b 10) (binary (a +ℤ b) 11) (lit< tt))
      (record { eq = ring 2 (λ a b. (b ⊗ lit (pos 2048) ⊖ (a ⊕ b) ⊗ lit (pos 1024)) ⊗ lit (pos 2048)) (λ a b. (b ⊖ a) ⊗ lit (pos 2097152)) tt (a ∷ b ∷ []) }))

  below : value (mid (side_of a b)) -F value (nearest a 1024) ≈F binary (b -ℤ a) 11
  below =
      ≈F_trans (sub_cong_f middle.1 (tick_exact A).1) (≈F_trans (sub_ratio (binary (a +ℤ b) 11) (binary a 10) (lit< tt))
      (record { eq = ring 2 (λ a b. ((a ⊕ b) ⊗ lit (pos 1024) ⊖ a ⊗ lit (pos 2048)) ⊗ lit (pos 2048)) (λ a b. (b ⊖ a) ⊗ lit (pos 2097152)) tt (a ∷ b ∷ []) }))

tick_small : {z : ℤ} → Within 1048576 z → Small 11 (nearest z 1024)
tick_small {z} h =
    small_more 10 11 (nearest z 1024) (lit≤ tt) (exact_small 10 10 z (nearest z 1024) (tick_exact h).0 (tick_exact h).1 h.abs)

module _ (ar : Arithmetic) where
  -- ---- two sides of one span
  pub radius_span : (a b c d : ℤ) → Within 1048576 a → Within 1048576 b → Within 1048576 c → Within 1048576 d → b -ℤ a ≡ d -ℤ c
      → Same 13 (radius ar (side_of a b)) (radius ar (side_of c d))
  unfolding radius
  radius_span a b c d A B C D e =
      greatest_same
      (apart_same ar (nearest b 1024) (mid (side_of a b)) (nearest d 1024) (mid (side_of c d)) tt (tick_small B) (middle_small a b A B) (tick_small D)
      (middle_small c d C D) (equal (above a b A B) (above c d C D)))
      (apart_same ar (mid (side_of a b)) (nearest a 1024) (mid (side_of c d)) (nearest c 1024) tt (middle_small a b A B) (tick_small A)
      (middle_small c d C D) (tick_small C) (equal (below a b A B) (below c d C D)))
    where
      equal : {p q : Fraction} → p ≈F binary (b -ℤ a) 11 → q ≈F binary (d -ℤ c) 11 → p ≈F q
      equal {p} h k = ≈F_trans (subst (λ (z : ℤ). p ≈F binary z 11) e h) (≈F_sym k)

-- three pairs of radii of one value
pub second_spans : (g : Gyroid) {x y z u v w : Float} → Same 13 x u → Same 13 y v → Same 13 z w → second_of g x y z ≡ second_of g u v w
unfolding Parts.second_of
second_spans g {x} {y} {z} {u} {v} {w} p q r =
    let a : List Interval = point x ∷ point y ∷ point z ∷ [] in
    let b : List Interval = point u ∷ point v ∷ point w ∷ [] in
    second_alike in_use a b (three (λ i. SameEnds 13 (box_at a i) (box_at b i)) (point_same p) (point_same q) (point_same r)) g.surface g.wave_squared
