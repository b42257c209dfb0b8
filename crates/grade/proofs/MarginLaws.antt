-- THE WHOLE NUMBERS BEHIND t's ENDS, in units of two grids: how far out a product is whose factors are out by 2 and by 1 of the finer units, and
-- that a square tick is more than the ends of (p − from)·d and of L can be out. Assumes nothing.
use mathlib.Core.Path.{◌≡◌, sym, subst₂}
use mathlib.Core.Bool.{Bool, true, false, cond, not}
use mathlib.Core.List.{[], ◌∷◌}
use Prim.Native.Nat.{◌^◌}
use lib.Dec.{T}
use lib.IntN.{ℤ, pos, negsuc, ◌+ℤ◌, ◌-ℤ◌, ◌*ℤ◌}
use lib.Signed.{lt_z, lt_z_yes, lt_z_no, le_z_yes, ◌≤ℤ◌, ◌<ℤ◌, ≤ℤ_refl}
use Rattle.exact.specs.Within.{Within}
use Rattle.exact.proofs.IntegerOrder.{zarith, sum_parts, difference_parts, product_parts, <ℤ_le, mul_mono, mul_anti}
use Rattle.exact.proofs.Size.{within_add, within_mul, within_self, within_high, within_low}
use Rattle.exact.proofs.Ring.{lit, ◌⊕◌, ◌⊖◌, ◌⊗◌, ring}
use Rattle.grade.specs.Exact.{least_end, greatest_end}

-- a tick in units of 2 ^ -40 mm, and a square tick in units of 2 ^ -28 mm²
abbrev pub fine : ℤ
fine = pos 1073741824

abbrev pub coarse : ℤ
coarse = pos 256

-- ---- one axis: (x − from)·d where x is an end, out by 2 units of the finer grid, and d by 1
module _ (x d e f : ℤ) (X : Within 2097152 x) (D : Within 2097152 d) (E : Within 2 e) (F : Within 1 f) (m : ℤ) where
  -- 2 ^ 60 is a square tick in square units of the finer grid, and 2 ^ 52 a unit of the coarser
  expanded : (x *ℤ fine +ℤ e) *ℤ (d *ℤ fine +ℤ f) ≡ x *ℤ d *ℤ pos 1152921504606846976 +ℤ (x *ℤ f +ℤ e *ℤ d) *ℤ fine +ℤ e *ℤ f
  expanded = ring 4 (λ x d e f. (x ⊗ lit fine ⊕ e) ⊗ (d ⊗ lit fine ⊕ f))
      (λ x d e f. x ⊗ d ⊗ lit (pos 1152921504606846976) ⊕ (x ⊗ f ⊕ e ⊗ d) ⊗ lit fine ⊕ e ⊗ f) tt (x ∷ d ∷ e ∷ f ∷ [])

  middle : Within 6755399441055744 ((x *ℤ f +ℤ e *ℤ d) *ℤ fine)
  middle = within_mul (within_add (within_mul X F) (within_mul E D)) (within_self fine)

  last : Within 2 (e *ℤ f)
  last = within_mul E F

  pub corner_below : (x *ℤ d) ≤ℤ m → ((x *ℤ fine +ℤ e) *ℤ (d *ℤ fine +ℤ f)) ≤ℤ ((m *ℤ coarse +ℤ pos 2) *ℤ pos (2 ^ 52))
  corner_below h = subst₂ (λ (a b : ℤ). a ≤ℤ b) (sym expanded)
      (ring 1 (λ m. m ⊗ lit (pos 1152921504606846976) ⊕ lit (pos 9007199254740992))
      (λ m. (m ⊗ lit coarse ⊕ lit (pos 2)) ⊗ lit (pos 4503599627370496)) tt (m ∷ []))
      (gather (mul_mono (le_z_yes tt) h) (within_high middle) (within_high last))
    where
      gather : {p q a b : ℤ} → p ≤ℤ q → a ≤ℤ pos 6755399441055744 → b ≤ℤ pos 2 → (p +ℤ a +ℤ b) ≤ℤ (q +ℤ pos 9007199254740992)
      gather {p} {q} {a} {b} h k l = omega (zarith, sum_parts p a, sum_parts (p +ℤ a) b, sum_parts q (pos 9007199254740992))

  pub corner_above : m ≤ℤ (x *ℤ d) → ((m *ℤ coarse -ℤ pos 2) *ℤ pos (2 ^ 52)) ≤ℤ ((x *ℤ fine +ℤ e) *ℤ (d *ℤ fine +ℤ f))
  corner_above h = subst₂ (λ (a b : ℤ). a ≤ℤ b)
      (ring 1 (λ m. m ⊗ lit (pos 1152921504606846976) ⊖ lit (pos 9007199254740992))
      (λ m. (m ⊗ lit coarse ⊖ lit (pos 2)) ⊗ lit (pos 4503599627370496)) tt (m ∷ []))
      (sym expanded) (gather (mul_mono (le_z_yes tt) h) (within_low middle) (within_low last))
    where
      gather : {p q a b : ℤ} → p ≤ℤ q → negsuc 6755399441055743 ≤ℤ a → negsuc 1 ≤ℤ b → (p -ℤ pos 9007199254740992) ≤ℤ (q +ℤ a +ℤ b)
      gather {p} {q} {a} {b} h k l = omega (zarith, sum_parts q a, sum_parts (q +ℤ a) b, difference_parts p (pos 9007199254740992))

-- (x − from)·d at the ends of lo..hi, between those at the ends that the sign of d picks
pub record EndsBetween (f d lo hi least greatest : ℤ) : Type 0 where
  pub least_lo : ((least -ℤ f) *ℤ d) ≤ℤ ((lo -ℤ f) *ℤ d)
  pub least_hi : ((least -ℤ f) *ℤ d) ≤ℤ ((hi -ℤ f) *ℤ d)
  pub greatest_lo : ((lo -ℤ f) *ℤ d) ≤ℤ ((greatest -ℤ f) *ℤ d)
  pub greatest_hi : ((hi -ℤ f) *ℤ d) ≤ℤ ((greatest -ℤ f) *ℤ d)

pub ordered_ends : (f d : ℤ) {lo hi : ℤ} → lo ≤ℤ hi → EndsBetween f d lo hi (least_end d lo hi) (greatest_end d lo hi)
ordered_ends f d {lo} {hi} o = go (lt_z (pos 0) d) lt_z_yes lt_z_no
  where
    moved : (lo -ℤ f) ≤ℤ (hi -ℤ f)
    moved = omega (zarith, difference_parts lo f, difference_parts hi f)

    at_lo : ((lo -ℤ f) *ℤ d) ≤ℤ ((lo -ℤ f) *ℤ d)
    at_lo = ≤ℤ_refl ((lo -ℤ f) *ℤ d)

    at_hi : ((hi -ℤ f) *ℤ d) ≤ℤ ((hi -ℤ f) *ℤ d)
    at_hi = ≤ℤ_refl ((hi -ℤ f) *ℤ d)

    go : (b : Bool) → (T b → pos 0 <ℤ d) → (T (not b) → d ≤ℤ pos 0) → EndsBetween f d lo hi (cond b lo hi) (cond b hi lo)
    go true y n = let r = mul_mono (<ℤ_le (y tt)) moved in record { least_lo = at_lo; least_hi = r; greatest_lo = r; greatest_hi = at_hi }
    go false y n = let r = mul_anti (n tt) moved in record { least_lo = r; least_hi = at_hi; greatest_lo = at_lo; greatest_hi = r }

-- ---- the margin: S is a square tick off 0 or L, 256 units, its interval out by 12 and that of L by u. The quotient, in units of 2 ^ -45, is then
-- a unit off 0 or 1: in order, at most −1, at most 2 ^ 45 − 1, at least 1, at least 2 ^ 45 + 1
abbrev pub over : ℤ → ℤ
over S = (S *ℤ coarse +ℤ pos 12) *ℤ pos (2 ^ 45)

abbrev pub under : ℤ → ℤ
under S = (S *ℤ coarse -ℤ pos 12) *ℤ pos (2 ^ 45)

module _ (S L u : ℤ) (U : Within 1 u) (size : Within 13194139533312 L) where
  pub below_zero : S <ℤ pos 0 → over S ≤ℤ (negsuc 0 *ℤ (L *ℤ coarse +ℤ u))
  below_zero h = omega (
    zarith,
    product_parts S coarse,
    sum_parts (S *ℤ coarse) (pos 12),
    product_parts (S *ℤ coarse +ℤ pos 12) (pos (2 ^ 45)),
    product_parts L coarse,
    sum_parts (L *ℤ coarse) u,
    product_parts (negsuc 0) (L *ℤ coarse +ℤ u),
    within_high size,
    within_low size,
    within_high U,
    within_low U,
  )

  pub below_length : S <ℤ L → over S ≤ℤ (pos 35184372088831 *ℤ (L *ℤ coarse +ℤ u))
  below_length h = omega (
    zarith,
    product_parts S coarse,
    sum_parts (S *ℤ coarse) (pos 12),
    product_parts (S *ℤ coarse +ℤ pos 12) (pos (2 ^ 45)),
    product_parts L coarse,
    sum_parts (L *ℤ coarse) u,
    product_parts (pos 35184372088831) (L *ℤ coarse +ℤ u),
    within_high size,
    within_low size,
    within_high U,
    within_low U,
  )

  pub above_zero : pos 0 <ℤ S → (pos 1 *ℤ (L *ℤ coarse +ℤ u)) ≤ℤ under S
  above_zero h = omega (
    zarith,
    product_parts S coarse,
    difference_parts (S *ℤ coarse) (pos 12),
    product_parts (S *ℤ coarse -ℤ pos 12) (pos (2 ^ 45)),
    product_parts L coarse,
    sum_parts (L *ℤ coarse) u,
    product_parts (pos 1) (L *ℤ coarse +ℤ u),
    within_high size,
    within_low size,
    within_high U,
    within_low U,
  )

  pub above_length : L <ℤ S → (pos 35184372088833 *ℤ (L *ℤ coarse +ℤ u)) ≤ℤ under S
  above_length h = omega (
    zarith,
    product_parts S coarse,
    difference_parts (S *ℤ coarse) (pos 12),
    product_parts (S *ℤ coarse -ℤ pos 12) (pos (2 ^ 45)),
    product_parts L coarse,
    sum_parts (L *ℤ coarse) u,
    product_parts (pos 35184372088833) (L *ℤ coarse +ℤ u),
    within_high size,
    within_low size,
    within_high U,
    within_low U,
  )
