-- Sizes of the exact grade's numbers: no step of it passes 64 bits. Assumes nothing.
use mathlib.Core.Path.{◌≡◌, refl, sym, subst}
use mathlib.Core.Bool.{Bool, true, false, cond, not}
use mathlib.Core.List.{List}
use Prim.Native.Nat.{ℕ, suc, ◌+◌, ◌*◌}
use lib.Dec.{T}
use lib.IntN.{ℤ, pos, negsuc, nat_abs, neg_ℤ, ◌+ℤ◌, ◌-ℤ◌, ◌*ℤ◌, +ℤ_idl}
use lib.Signed.{lt_z, lt_z_yes, ◌≤ℤ◌, ◌<ℤ◌}
use native.Mathlib.Omega.{arith}
use mir.Syntax.{w64}
use mir.Val.{to_z, of_z, SFits}
use Rattle.std.specs.Int.{int_min, int_max}
use Rattle.std.proofs.lemmas.Int.{ints}
use Rattle.exact.proofs.IntegerOrder.{zarith, <ℤ_le, ≤ℤ_trans}
use Rattle.limits.proofs.TestLaws.{holds}
use Rattle.exact.specs.Within.{Within}
use Rattle.exact.proofs.Choice.{choose}
use Rattle.exact.proofs.Signed.{Is, is, fits, bit, add, mul}
use Rattle.exact.proofs.Size.{within_add, within_sub, within_mul, within_neg, within_zero}
use Rattle.grade.specs.declared.Linear.{Linear}
use Rattle.limits.specs.Ticks.{at}
use Rattle.grade.specs.Grade.{minus, dot}
use Rattle.grade.specs.Exact.{least_end, least_corner, least_along, greatest_corner, greatest_along, held, level_over}
use Rattle.grade.specs.Certified.{size, distance, rise}
use Rattle.grade.specs.Fits.{Within3, LinearFits}

-- ---- as the machine has them, each number read back from its bits: a difference of ticks; products of two vectors' entries, and their sums
abbrev read : ℤ → ℤ
read z = to_z w64 (of_z w64 z)

abbrev times : ℤ → ℤ → ℤ
times a b = read a *ℤ read b

abbrev two : List ℤ → List ℤ → ℤ
two a b = read (times (at a 0) (at b 0)) +ℤ read (times (at a 1) (at b 1))

abbrev three : List ℤ → List ℤ → ℤ
three a b = read (two a b) +ℤ read (times (at a 2) (at b 2))

pub difference_is : {a b : ℤ} → Within 1048576 a → Within 1048576 b → read (read a -ℤ read b) ≡ a -ℤ b
difference_is h k = omega (arith, ints, h.abs, k.abs)

times_is : {a b : ℤ} → Within 2097152 a → Within 2097152 b → Is 4398046511104 (times a b) (a *ℤ b)
times_is h k = mul (bit tt (is h)) (bit tt (is k))

pub times_fit : {a b : ℤ} → Within 2097152 a → Within 2097152 b → SFits w64 (times a b)
times_fit h k = fits tt (times_is h k)

module _ (a b : List ℤ) (h : Within3 2097152 a) (k : Within3 2097152 b) where
  two_is : Is 8796093022208 (two a b) (at a 0 *ℤ at b 0 +ℤ at a 1 *ℤ at b 1)
  two_is = add (bit tt (times_is h.x k.x)) (bit tt (times_is h.y k.y))

  three_is : Is 13194139533312 (three a b) (dot a b)
  unfolding dot
  three_is = add (bit tt two_is) (bit tt (times_is h.z k.z))

  pub two_fit : SFits w64 (two a b)
  two_fit = fits tt two_is

  pub three_fit : SFits w64 (three a b)
  three_fit = fits tt three_is

  pub dot_is : read (three a b) ≡ dot a b
  dot_is = (bit tt three_is).same

pub minus_within : {n : ℕ} {a b : List ℤ} → Within3 n a → Within3 n b → Within3 (n + n) (minus a b)
unfolding minus
minus_within h k = record { x = within_sub h.x k.x; y = within_sub h.y k.y; z = within_sub h.z k.z }

pub dot_within : {n : ℕ} {a b : List ℤ} → Within3 n a → Within3 n b → Within (n * n + n * n + n * n) (dot a b)
unfolding dot
dot_within h k = within_add (within_add (within_mul h.x k.x) (within_mul h.y k.y)) (within_mul h.z k.z)

pub end_within : {n : ℕ} (d : ℤ) {a b : ℤ} → Within n a → Within n b → Within n (least_end d a b)
end_within {n} d {a} {b} h k = choose (lt_z (pos 0) d) a b (Within n) (λ _. h) (λ _. k)

pub least_corner_within : {n : ℕ} (d : List ℤ) {a b : List ℤ} → Within3 n a → Within3 n b → Within3 n (least_corner d a b)
unfolding least_corner
least_corner_within d h k = record { x = end_within (at d 0) h.x k.x; y = end_within (at d 1) h.y k.y; z = end_within (at d 2) h.z k.z }

pub held_within : {n : ℕ} {t l : ℤ} → Within n t → Within n l → Within n (held t l)
held_within {n} {t} {l} h k = choose (lt_z t (pos 0)) (pos 0) (cond (lt_z l t) l t) (Within n) (λ _. within_zero n) (λ _. choose (lt_z l t) l t (Within n) (λ _. k) (λ _. h))

pub size_within : {n : ℕ} {z : ℤ} → Within n z → Within n (size z)
size_within {n} {z} h = choose (lt_z z (pos 0)) (pos 0 -ℤ z) z (Within n) (λ _. subst (λ (w : ℤ). Within n w) (sym (+ℤ_idl (neg_ℤ z))) (within_neg h)) (λ _. h)

-- ---- what std calls the size, and a number held between 0 and l
pub size_is : (z : ℤ) → pos (nat_abs z) ≡ size z
size_is z = choose (lt_z z (pos 0)) (pos 0 -ℤ z) z (λ s. pos (nat_abs z) ≡ s) (below z) (above z)
  where
    below : (z : ℤ) → T (lt_z z (pos 0)) → pos (nat_abs z) ≡ pos 0 -ℤ z
    below (pos n) t = absurd (omega (zarith, lt_z_yes {a = pos n} {b = pos 0} t))
    below (negsuc n) t = sym (+ℤ_idl (pos (suc n)))

    above : (z : ℤ) → T (not (lt_z z (pos 0))) → pos (nat_abs z) ≡ z
    above (pos n) t = refl
    above (negsuc n) t = absurd t

pub held_is : (t l : ℤ) → pos 0 ≤ℤ l → int_max (pos 0) (int_min t l) ≡ held t l
held_is t l h = go (lt_z l t) refl
  where
    crossed : {z : ℤ} → z <ℤ pos 0 → pos 0 ≤ℤ z → ⊥
    crossed k h = omega zarith

    never : (b : Bool) → (T b → ⊥) → b ≡ false
    never true f = absurd (f tt)
    never false f = refl

    upper : (z : ℤ) → pos 0 ≤ℤ z → lt_z z (pos 0) ≡ false
    upper z h = never (lt_z z (pos 0)) (λ u. crossed (lt_z_yes u) h)

    go : (b : Bool) → lt_z l t ≡ b → cond (lt_z (cond b l t) (pos 0)) (pos 0) (cond b l t) ≡ cond (lt_z t (pos 0)) (pos 0) (cond b l t)
    go false e = refl
    go true e = rw (upper l h, upper t (≤ℤ_trans h (<ℤ_le (lt_z_yes (holds e))))) refl

pub least_along_within : (g : Linear) → LinearFits g → {a b : List ℤ} → Within3 1048576 a → Within3 1048576 b → Within 13194139533312 (least_along g a b)
unfolding least_along
least_along_within g f h k = dot_within (minus_within (least_corner_within g.direction h k) f.from) f.direction

-- the greatest is the least of the box with its ends exchanged
pub exchanged : (g : Linear) (lo hi : List ℤ) → least_along g hi lo ≡ greatest_along g lo hi
unfolding least_corner greatest_corner least_along greatest_along
exchanged g lo hi = refl

pub greatest_along_within : (g : Linear) → LinearFits g → {lo hi : List ℤ} → Within3 1048576 lo → Within3 1048576 hi
    → Within 13194139533312 (greatest_along g lo hi)
greatest_along_within g f {lo} {hi} h k = subst (Within 13194139533312) (exchanged g lo hi) (least_along_within g f k h)

pub distance_within : (g : Linear) → LinearFits g → Within 6291456 (distance g)
unfolding distance
distance_within g f = within_add (within_add (size_within f.direction.x) (size_within f.direction.y)) (size_within f.direction.z)

pub level_within : (g : Linear) → LinearFits g → {t : ℤ} → Within 13194139533312 t → Within 162129586585337856 (level_over g t)
unfolding level_over
level_within g f h = within_add (within_mul f.start f.length) (within_mul (held_within h f.length) (within_sub f.end f.start))

pub rise_within : (g : Linear) → LinearFits g → Within 8192 (rise g)
unfolding rise
rise_within g f = size_within (within_sub f.end f.start)
