-- What the piece of a box says of t, and so of the level, at every rational point of it. Assumes nothing.
use mathlib.Core.Path.{sym, subst, subst⁻¹}
use mathlib.Core.Bool.{Bool, true, false, not, ◌&&◌}
use mathlib.Core.List.{List}
use Rattle.std.specs.Prelude.{Option, Some, None}
use lib.Dec.{T}
use lib.IntN.{ℤ, pos, nat_abs}
use lib.Signed.{le_z, le_z_yes, ◌<ℤ◌}
use Rattle.exact.specs.Fraction.{Fraction, whole, zero_f, one_f, ◌/F◌, ◌≤F◌, ◌≈F◌, held_f}
use Rattle.exact.proofs.Fraction.{≤F_trans, ≈F_sym, ≈F_trans, ≈F_le, ≈F_ge, over_mono, over_zero, whole_le}
use Rattle.exact.proofs.FractionSize.{held_low, held_high, held_between}
use Rattle.grade.specs.declared.Grade.{Grade}
use Rattle.grade.specs.declared.Piece.TheVariants.{Start, Ramp, End}
use Rattle.grade.specs.declared.Piece.{Piece}
use Rattle.grade.specs.Grade.{is_linear, length_sq, Point, t, ramp_level, level}
use Rattle.grade.specs.Exact.{linear_of, numbers, compiled, least_along, greatest_along, chosen, linear_piece, exact_piece}
use Rattle.grade.specs.Refusals.{coincident}
use Rattle.grade.specs.Holds.{InBox, SaysLevel}
use Rattle.grade.specs.Extended.{Says, affine_level}
use Rattle.limits.proofs.TickLaws.{both}
use Rattle.grade.proofs.Accepted.{linear_apart, by_kind}
use Rattle.grade.proofs.LevelLaws.{ramp_cong, ramp_zero, ramp_one, level_linear, level_flat, affine_linear, affine_flat, length_pos, over_length}
use Rattle.grade.proofs.CornerLaws.{along_least, along_greatest}

-- ---- from the tests, in their order, to what the piece says
pub chosen_says : (start end ramp : Bool) (x : Fraction) → (T start → x ≤F zero_f) → (T end → one_f ≤F x) → (T ramp → (zero_f ≤F x) × (x ≤F one_f)) → Says (chosen start end ramp) x
chosen_says true end ramp x s e r = s tt
chosen_says false true ramp x s e r = e tt
chosen_says false false true x s e r = r tt
chosen_says false false false x s e r = tt

-- and on to the level of a linear level
pub says_level : (g : Grade) (p : Point) → T (is_linear g) → (a : Option Piece) → Says a (t g p) → SaysLevel g p a
says_level g p l a h = go a h
  where
    held_level : {x : Fraction} → held_f (t g p) one_f ≈F x → level g p ≈F ramp_level g x
    held_level {x} e = subst (λ (q : Fraction). q ≈F ramp_level g x) (sym (level_linear g p l)) (ramp_cong g e)

    go : (a : Option Piece) → Says a (t g p) → SaysLevel g p a
    go (Some Start) h = ≈F_trans (held_level (held_low (t g p) one_f (whole_le (le_z_yes tt)) h)) (ramp_zero g)
    go (Some Ramp) h = held_level (held_between (t g p) one_f h.0 h.1)
    go (Some End) h = ≈F_trans (held_level (held_high (t g p) one_f h)) (ramp_one g)
    go None h = tt

-- on a ramp the level is its affine extension
pub ramp_affine : (g : Grade) (p : Point) → SaysLevel g p (Some Ramp) → level g p ≈F affine_level g p
ramp_affine g p h = by_kind g (λ _. level g p ≈F affine_level g p) (λ l. subst⁻¹ (λ (q : Fraction). level g p ≈F q) (affine_linear g p l) h) (λ u. ≈F_trans (level_flat g p u) (≈F_sym (affine_flat g p u)))

-- ---- the exact piece
module _ (g : Grade) (apart : pos 0 <ℤ length_sq g) (lo hi : List ℤ) (p : Point) (inside : InBox lo hi p) where
  below : (z : ℤ) → T (le_z (greatest_along (numbers g) lo hi) z) → t g p ≤F whole z /F nat_abs (length_sq g)
  unfolding t linear_of
  below z u = over_mono (length_pos g apart) (≤F_trans (along_greatest (numbers g) lo hi p inside) (whole_le (le_z_yes u)))

  above : (z : ℤ) → T (le_z z (least_along (numbers g) lo hi)) → whole z /F nat_abs (length_sq g) ≤F t g p
  unfolding t linear_of
  above z u = over_mono (length_pos g apart) (≤F_trans (whole_le (le_z_yes u)) (along_least (numbers g) lo hi p inside))

  pub linear_piece_says : Says (linear_piece (numbers g) lo hi) (t g p)
  unfolding linear_piece linear_of
  linear_piece_says = chosen_says (le_z greatest (pos 0)) (le_z (length_sq g) least) (le_z (pos 0) least && le_z greatest (length_sq g)) (t g p)
      (λ u. ≤F_trans (below (pos 0) u) (≈F_le (over_zero (length_pos g apart))))
      (λ u. ≤F_trans (≈F_ge (over_length g apart)) (above (length_sq g) u))
      (λ u. let (v, w) = both (le_z (pos 0) least) (le_z greatest (length_sq g)) u in (≤F_trans (≈F_ge (over_zero (length_pos g apart))) (above (pos 0) v), ≤F_trans (below (length_sq g) w) (≈F_le (over_length g apart))))
    where
      least : ℤ
      least = least_along (numbers g) lo hi

      greatest : ℤ
      greatest = greatest_along (numbers g) lo hi

-- THE FACT
pub exact_piece_says : (g : Grade) (lo hi : List ℤ) → T (not (coincident g)) → (p : Point) → InBox lo hi p → SaysLevel g p (exact_piece (compiled g) lo hi)
unfolding exact_piece
exact_piece_says g lo hi apart p inside = by_kind g (λ G. SaysLevel g p (exact_piece G lo hi))
    (λ l. says_level g p l (linear_piece (numbers g) lo hi) (linear_piece_says g (linear_apart g l apart) lo hi p inside))
    (level_flat g p)
