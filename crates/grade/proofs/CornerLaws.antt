-- (p − from)·d over a box: least and greatest at the two corners that the signs of d pick. Assumes nothing.
use mathlib.Core.Path.{◌≡◌, refl}
use mathlib.Core.Logic.{◌⊎◌, inl, inr}
use mathlib.Core.Bool.{Bool, true, false, cond, not}
use mathlib.Core.List.{List}
use Prim.Native.Nat.{ℕ, ◌<◌}
use lib.Dec.{T, lit<}
use lib.IntN.{ℤ, pos, ◌+ℤ◌, ◌-ℤ◌, ◌*ℤ◌}
use lib.Signed.{lt_z, lt_z_yes, lt_z_no, ◌≤ℤ◌, ◌<ℤ◌}
use Rattle.exact.specs.Fraction.{Fraction, whole, ◌-F◌, ◌*F◌, ◌≤F◌, ◌≈F◌}
use Rattle.exact.proofs.IntegerOrder.{<ℤ_le}
use Rattle.exact.proofs.Fraction.{≤F_refl, ≤F_trans, ≈F_refl, ≈F_trans, ≈F_le, ≈F_ge, add_mono_f, sub_mono_f, mul_mono_f, mul_anti_f}
use Rattle.exact.proofs.Fraction.{comm_f, add_cong_f, mul_cong_f, whole_add, whole_sub, whole_mul}
use Rattle.grade.specs.declared.Linear.{Linear}
use Rattle.limits.specs.Ticks.{at}
use Rattle.grade.specs.Grade.{minus, dot, Point, along}
use Rattle.grade.specs.Exact.{least_end, greatest_end, least_corner, greatest_corner, least_along, greatest_along}
use Rattle.grade.specs.Holds.{InBox}
use Rattle.grade.proofs.Axes.{three}

-- ---- one axis: its share of (p − from)·d
abbrev share : ℤ → ℤ → Fraction → Fraction
share f d q = (q -F whole f) *F whole d

rising : (f d : ℤ) → pos 0 <ℤ d → {a b : Fraction} → a ≤F b → share f d a ≤F share f d b
rising f d s {a} {b} h =
    ≤F_trans (≈F_le (comm_f (a -F whole f) (whole d)))
    (≤F_trans (mul_mono_f (whole d) (<ℤ_le s) (sub_mono_f h (≤F_refl (whole f)))) (≈F_le (comm_f (whole d) (b -F whole f))))

falling : (f d : ℤ) → d ≤ℤ pos 0 → {a b : Fraction} → a ≤F b → share f d b ≤F share f d a
falling f d s {a} {b} h =
    ≤F_trans (≈F_le (comm_f (b -F whole f) (whole d)))
    (≤F_trans (mul_anti_f (whole d) s (sub_mono_f h (≤F_refl (whole f)))) (≈F_le (comm_f (whole d) (a -F whole f))))

-- between two ends
abbrev Between : ℤ → ℤ → Fraction → ℤ → ℤ → Type 0
Between f d p least greatest = (share f d (whole least) ≤F share f d p) × (share f d p ≤F share f d (whole greatest))

axis_between : (p : Fraction) (f d lo hi : ℤ) → whole lo ≤F p → p ≤F whole hi → Between f d p (least_end d lo hi) (greatest_end d lo hi)
axis_between p f d lo hi above below = go (lt_z (pos 0) d) lt_z_yes lt_z_no
  where
    go : (b : Bool) → (T b → pos 0 <ℤ d) → (T (not b) → d ≤ℤ pos 0) → Between f d p (cond b lo hi) (cond b hi lo)
    go true y n = (rising f d (y tt) above, rising f d (y tt) below)
    go false y n = (falling f d (n tt) below, falling f d (n tt) above)

-- ---- three axes
-- at a whole point
pub along_whole : (from d c : List ℤ) → along from d (λ i. whole (at c i)) ≈F whole (dot (minus c from) d)
unfolding along dot minus
along_whole from d c =
    ≈F_trans (add_cong_f (≈F_trans (add_cong_f (axis 0) (axis 1)) (whole_add (term 0) (term 1))) (axis 2)) (whole_add (term 0 +ℤ term 1) (term 2))
  where
    term : ℕ → ℤ
    term i = (at c i -ℤ at from i) *ℤ at d i

    axis : (i : ℕ) → (whole (at c i) -F whole (at from i)) *F whole (at d i) ≈F whole ((at c i -ℤ at from i) *ℤ at d i)
    axis i = ≈F_trans (mul_cong_f (whole_sub (at c i) (at from i)) (≈F_refl (whole (at d i)))) (whole_mul (at c i -ℤ at from i) (at d i))

module _ (g : Linear) (lo hi : List ℤ) (p : Point) (inside : InBox lo hi p) where
  abbrev d : ℕ → ℤ
  d i = at g.direction i

  axes : (i : ℕ) → i < 3 → Between (at g.from i) (d i) (p i) (least_end (d i) (at lo i) (at hi i)) (greatest_end (d i) (at lo i) (at hi i))
  axes i l = axis_between (p i) (at g.from i) (d i) (at lo i) (at hi i) (inside.above i l) (inside.below i l)

  pub along_least : whole (least_along g lo hi) ≤F along g.from g.direction p
  unfolding least_along along least_corner
  along_least =
      ≤F_trans (≈F_ge (along_whole g.from g.direction (least_corner g.direction lo hi)))
      (add_mono_f (add_mono_f (axes 0 (lit< tt)).0 (axes 1 (lit< tt)).0) (axes 2 (lit< tt)).0)

  pub along_greatest : along g.from g.direction p ≤F whole (greatest_along g lo hi)
  unfolding greatest_along along greatest_corner
  along_greatest =
      ≤F_trans (add_mono_f (add_mono_f (axes 0 (lit< tt)).1 (axes 1 (lit< tt)).1) (axes 2 (lit< tt)).1)
      (≈F_le (along_whole g.from g.direction (greatest_corner g.direction lo hi)))

-- each entry of either corner is an end of the box
chosen_end : (c : Bool) (a b : ℤ) → (cond c a b ≡ a) ⊎ (cond c a b ≡ b)
chosen_end true a b = inl refl
chosen_end false a b = inr refl

least_one : (d lo hi : ℤ) → (least_end d lo hi ≡ lo) ⊎ (least_end d lo hi ≡ hi)
least_one d lo hi = chosen_end (lt_z (pos 0) d) lo hi

greatest_one : (d lo hi : ℤ) → (greatest_end d lo hi ≡ lo) ⊎ (greatest_end d lo hi ≡ hi)
greatest_one d lo hi = elim (chosen_end (lt_z (pos 0) d) hi lo) [ inl e ↦ inr e | inr e ↦ inl e ]

module _ (d lo hi : List ℤ) where
  pub least_ends : (i : ℕ) → i < 3 → (at (least_corner d lo hi) i ≡ at lo i) ⊎ (at (least_corner d lo hi) i ≡ at hi i)
  unfolding least_corner
  least_ends = three (λ i. (at (least_corner d lo hi) i ≡ at lo i) ⊎ (at (least_corner d lo hi) i ≡ at hi i))
      (least_one (at d 0) (at lo 0) (at hi 0)) (least_one (at d 1) (at lo 1) (at hi 1)) (least_one (at d 2) (at lo 2) (at hi 2))

  pub greatest_ends : (i : ℕ) → i < 3 → (at (greatest_corner d lo hi) i ≡ at lo i) ⊎ (at (greatest_corner d lo hi) i ≡ at hi i)
  unfolding greatest_corner
  greatest_ends = three (λ i. (at (greatest_corner d lo hi) i ≡ at lo i) ⊎ (at (greatest_corner d lo hi) i ≡ at hi i))
      (greatest_one (at d 0) (at lo 0) (at hi 0)) (greatest_one (at d 1) (at lo 1) (at hi 1)) (greatest_one (at d 2) (at lo 2) (at hi 2))
