-- The level as a fraction: constant where its ends are equal, monotone in the parameter, and at a whole numerator the level's numerator over L.
-- Assumes nothing.
use mathlib.Core.Path.{◌≡◌, refl, sym, subst}
use mathlib.Core.Logic.{◌⊎◌, inl, inr}
use mathlib.Core.Bool.{Bool, true, false, cond, not, ◌&&◌}
use mathlib.Core.List.{[], ◌∷◌}
use Prim.Native.Nat.{ℕ, ◌<◌}
use lib.Dec.{T}
use lib.IntN.{ℤ, pos, nat_abs, ◌-ℤ◌, ◌*ℤ◌}
use lib.Signed.{lt_z, le_z, lt_z_yes, lt_z_no, le_z_yes, ◌≤ℤ◌, ◌<ℤ◌, yes_non_neg, pos-nat_abs}
use Rattle.exact.specs.Fraction.{Fraction, whole, zero_f, one_f, ◌+F◌, ◌*F◌, ◌/F◌, ◌≤F◌, ◌≈F◌, held_f}
use Rattle.exact.proofs.Choice.{choose}
use Rattle.exact.proofs.IntegerOrder.{le_or_lt, <ℤ_le, ≤ℤ_antisym}
use Rattle.exact.proofs.Ring.{lit, ◌⊕◌, ◌⊖◌, ◌⊗◌, ring}
use Rattle.exact.proofs.FractionRing.{ring_f}
use Rattle.exact.proofs.Fraction.{≤F_refl, ≤F_trans, ≈F_refl, ≈F_sym, ≈F_trans, ≈F_le, ≈F_ge, add_mono_f, mul_mono_f, mul_anti_f, comm_f, add_cong_f, mul_cong_f, over_mono, over_cong, over_self, over_zero, over_add, over_mul, whole_le, whole_add, whole_sub, whole_mul}
use Rattle.exact.proofs.FractionSize.{held_low, held_high, held_between}
use Rattle.grade.specs.declared.Grade.{Grade}
use Rattle.grade.specs.Grade.{eq_z, is_linear, length_sq, Point, t, ramp_level, level}
use Rattle.grade.specs.Exact.{held, linear_of, numbers, level_over}
use Rattle.grade.specs.Extended.{affine_level}
use Rattle.limits.proofs.TickLaws.{both}
use Rattle.exact.proofs.Size.{size_above}

-- ---- start + x (end − start)
pub ramp_cong : (g : Grade) {x y : Fraction} → x ≈F y → ramp_level g x ≈F ramp_level g y
ramp_cong g e = add_cong_f (≈F_refl (whole g.start)) (mul_cong_f e (≈F_refl (whole (g.end -ℤ g.start))))

-- either way round
pub ramp_mono : (g : Grade) {x y z : Fraction} → x ≤F y → y ≤F z
    → ((ramp_level g x ≤F ramp_level g y) × (ramp_level g y ≤F ramp_level g z)) ⊎ ((ramp_level g z ≤F ramp_level g y) × (ramp_level g y ≤F ramp_level g x))
ramp_mono g {x} {y} {z} h k = elim (le_or_lt (pos 0) (g.end -ℤ g.start)) [
  | inl s ↦ inl (rising s h, rising s k)
  | inr s ↦ inr (falling (<ℤ_le s) k, falling (<ℤ_le s) h)
]
  where
    r : Fraction
    r = whole (g.end -ℤ g.start)

    rising : pos 0 ≤ℤ (g.end -ℤ g.start) → {a b : Fraction} → a ≤F b → ramp_level g a ≤F ramp_level g b
    rising s {a} {b} h = add_mono_f (≤F_refl (whole g.start)) (≤F_trans (≈F_le (comm_f a r)) (≤F_trans (mul_mono_f r s h) (≈F_le (comm_f r b))))

    falling : (g.end -ℤ g.start) ≤ℤ pos 0 → {a b : Fraction} → a ≤F b → ramp_level g b ≤F ramp_level g a
    falling s {a} {b} h = add_mono_f (≤F_refl (whole g.start)) (≤F_trans (≈F_le (comm_f b r)) (≤F_trans (mul_anti_f r s h) (≈F_le (comm_f r a))))

-- the ends
pub ramp_zero : (g : Grade) → ramp_level g zero_f ≈F whole g.start
ramp_zero g = ring_f 2 (λ s r. s ⊕ lit (pos 0) ⊗ r) (λ s r. s) tt (whole g.start ∷ whole (g.end -ℤ g.start) ∷ [])

pub ramp_one : (g : Grade) → ramp_level g one_f ≈F whole g.end
ramp_one g = ≈F_trans (add_cong_f (≈F_refl (whole g.start)) (mul_cong_f (≈F_refl one_f) (≈F_sym (whole_sub g.end g.start))))
    (ring_f 2 (λ s e. s ⊕ lit (pos 1) ⊗ (e ⊖ s)) (λ s e. e) tt (whole g.start ∷ whole g.end ∷ []))

-- ---- the level by its kind
pub level_linear : (g : Grade) (p : Point) → T (is_linear g) → level g p ≡ ramp_level g (held_f (t g p) one_f)
unfolding level
level_linear g p l = go (is_linear g) l
  where
    go : (b : Bool) → T b → cond b (ramp_level g (held_f (t g p) one_f)) (whole g.start) ≡ ramp_level g (held_f (t g p) one_f)
    go true u = refl
    go false u = absurd u

pub affine_linear : (g : Grade) (p : Point) → T (is_linear g) → affine_level g p ≡ ramp_level g (t g p)
unfolding affine_level
affine_linear g p l = go (is_linear g) l
  where
    go : (b : Bool) → T b → cond b (ramp_level g (t g p)) (whole g.start) ≡ ramp_level g (t g p)
    go true u = refl
    go false u = absurd u

-- constant, or with equal ends
pub rise_zero : (g : Grade) → T (eq_z g.start g.end) → g.end -ℤ g.start ≡ pos 0
rise_zero g v =
    let (h, k) = both (le_z g.start g.end) (le_z g.end g.start) v in
    subst (λ (z : ℤ). z -ℤ g.start ≡ pos 0) (≤ℤ_antisym {a = g.start} {b = g.end} (le_z_yes h) (le_z_yes k)) (ring 1 (λ s. s ⊖ s) (λ s. lit (pos 0)) tt (g.start ∷ []))

flat : (g : Grade) (x : Fraction) → T (not (is_linear g && not (eq_z g.start g.end)))
    → cond (is_linear g) (ramp_level g x) (whole g.start) ≈F whole g.start
flat g x u = go (is_linear g) (eq_z g.start g.end) u refl
  where
    go : (b c : Bool) → T (not (b && not c)) → eq_z g.start g.end ≡ c → cond b (ramp_level g x) (whole g.start) ≈F whole g.start
    go false c u e = ≈F_refl (whole g.start)
    go true false u e = absurd u
    go true true u e = ≈F_trans
        (subst (λ (z : ℤ). ramp_level g x ≈F whole g.start +F x *F whole z) (rise_zero g (subst T (sym e) tt)) (≈F_refl (ramp_level g x)))
        (ring_f 2 (λ s x. s ⊕ x ⊗ lit (pos 0)) (λ s x. s) tt (whole g.start ∷ x ∷ []))

pub level_flat : (g : Grade) (p : Point) → T (not (is_linear g && not (eq_z g.start g.end))) → level g p ≈F whole g.start
unfolding level
level_flat g p u = flat g (held_f (t g p) one_f) u

pub affine_flat : (g : Grade) (p : Point) → T (not (is_linear g && not (eq_z g.start g.end))) → affine_level g p ≈F whole g.start
unfolding affine_level
affine_flat g p u = flat g (t g p) u

-- ---- over L
module _ (g : Grade) (apart : pos 0 <ℤ length_sq g) where
  pub length_pos : 0 < nat_abs (length_sq g)
  length_pos = size_above apart

  -- L as a whole number is its size
  pub length_is : pos (nat_abs (length_sq g)) ≡ length_sq g
  length_is = pos-nat_abs (length_sq g) (yes_non_neg (<ℤ_le apart))

  pub over_length : whole (length_sq g) /F nat_abs (length_sq g) ≈F one_f
  over_length = subst (λ (z : ℤ). whole z /F nat_abs (length_sq g) ≈F one_f) length_is (over_self length_pos)

  -- t's numerator held to 0..L is t held to 0..1
  held_over : (z : ℤ) → held_f (whole z /F nat_abs (length_sq g)) one_f ≈F whole (held z (length_sq g)) /F nat_abs (length_sq g)
  held_over z = choose (lt_z z (pos 0)) (pos 0) (cond (lt_z (length_sq g) z) (length_sq g) z) Held
      (λ u. ≈F_trans (held_low (whole z /F n) one_f zero_one (≤F_trans (over_mono length_pos (whole_le (<ℤ_le (lt_z_yes u)))) (≈F_le (over_zero length_pos)))) (≈F_sym (over_zero length_pos)))
      (λ u. choose (lt_z (length_sq g) z) (length_sq g) z Held
      (λ v. ≈F_trans (held_high (whole z /F n) one_f (≤F_trans (≈F_ge over_length) (over_mono length_pos (whole_le (<ℤ_le (lt_z_yes v)))))) (≈F_sym over_length))
      (λ v. held_between (whole z /F n) one_f (≤F_trans (≈F_ge (over_zero length_pos)) (over_mono length_pos (whole_le (lt_z_no u)))) (≤F_trans (over_mono length_pos (whole_le (lt_z_no v))) (≈F_le over_length))))
    where
      n : ℕ
      n = nat_abs (length_sq g)

      Held : ℤ → Type 0
      Held h = held_f (whole z /F nat_abs (length_sq g)) one_f ≈F whole h /F nat_abs (length_sq g)

      zero_one : zero_f ≤F one_f
      zero_one = whole_le (le_z_yes tt)

  -- so the level there is the level's numerator over L
  pub level_over_lem : (z : ℤ) → ramp_level g (held_f (whole z /F nat_abs (length_sq g)) one_f) ≈F whole (level_over (numbers g) z) /F nat_abs (length_sq g)
  unfolding level_over linear_of
  level_over_lem z = ≈F_trans (ramp_cong g (held_over z)) (≈F_sym
      (≈F_trans (over_cong length_pos (≈F_sym (≈F_trans (add_cong_f (≈F_trans (comm_f (whole l) (whole g.start)) (whole_mul g.start l)) (whole_mul h r)) (whole_add (g.start *ℤ l) (h *ℤ r)))))
      (≈F_trans (over_add (whole l *F whole g.start) (whole h *F whole r) length_pos)
      (add_cong_f
      (≈F_trans (over_mul (whole l) (whole g.start) length_pos) (≈F_trans (mul_cong_f over_length (≈F_refl (whole g.start))) (ring_f 1 (λ s. lit (pos 1) ⊗ s) (λ s. s) tt (whole g.start ∷ []))))
      (over_mul (whole h) (whole r) length_pos)))))
    where
      l : ℤ
      l = length_sq g

      h : ℤ
      h = held z (length_sq g)

      r : ℤ
      r = g.end -ℤ g.start
