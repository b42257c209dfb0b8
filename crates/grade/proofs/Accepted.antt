-- What an accepted level is: its entries are within the limits, its anchors apart, and so the compiled grade keeps the sizes that the
-- layer's functions ask. Assumes nothing.
use mathlib.Core.Path.{◌≡◌, subst}
use mathlib.Core.Bool.{Bool, true, false, not, ◌&&◌}
use mathlib.Core.List.{List}
use Prim.Native.Nat.{ℕ}
use lib.Dec.{T, T_not}
use lib.IntN.{ℤ, pos, ◌+ℤ◌, ◌-ℤ◌, ◌*ℤ◌}
use lib.Signed.{le_z, ◌≤ℤ◌, ◌<ℤ◌, ≤ℤ_refl}
use Rattle.exact.proofs.Choice.{choose}
use Rattle.exact.proofs.IntegerOrder.{zarith, sum_parts, square_nonnegℤ, square_pos, sub_zero}
use Rattle.grade.specs.declared.Grade.{Grade}
use Rattle.grade.specs.declared.GradeDef.{GradeDef}
use Rattle.limits.specs.Ticks.{at, ticks, above}
use Rattle.grade.specs.Grade.{in_limits, eq_z, is_linear, minus, dot, length_sq}
use Rattle.grade.specs.Exact.{linear_of, numbers, compiled}
use Rattle.limits.specs.Refusals.{refused, ◌or_else◌}
use Rattle.grade.specs.Refusals.{same, is_distance, coincident, range_refusal}
use Rattle.grade.specs.Fits.{Within3, InLimits, DefFits}
use Rattle.limits.proofs.TickLaws.{both}
use Rattle.grade.proofs.EntryLaws.{ticks_within, Sizes, sizes}
use Rattle.limits.proofs.RefusalLaws.{none_first, none_last, kept}
use Rattle.grade.proofs.Sizes.{minus_within, dot_within}

-- what `grade_range` has tested
pub record Accepted (g : Grade) (lo hi : List ℤ) : Type 0 where
  pub limits : InLimits g
  pub low : Within3 1048576 lo
  pub high : Within3 1048576 hi
  pub order : T (not (above lo hi))
  pub no_distance : T (not (is_distance g))
  pub apart : T (not (coincident g))

pub accepted : (g : Grade) (lo hi : List ℤ) → range_refusal g lo hi ≡ 0 → Accepted g lo hi
unfolding range_refusal
accepted g lo hi e =
    let (a, e1) = none_first (not (in_limits g && ticks lo && ticks hi)) 0 (refused (above lo hi) 6 or_else refused (is_distance g) 7 or_else refused (coincident g) 8) e in
    let (b, e2) = none_first (above lo hi) 5 (refused (is_distance g) 7 or_else refused (coincident g) 8) e1 in
    let (c, e3) = none_first (is_distance g) 6 (refused (coincident g) 8) e2 in
    let (d, h) = both (in_limits g && ticks lo) (ticks hi) (kept (in_limits g && ticks lo && ticks hi) a) in
    let (i, l) = both (in_limits g) (ticks lo) d in
    record { limits = record { passed = i }; low = ticks_within lo l; high = ticks_within hi h; order = b; no_distance = c; apart = none_last (coincident g) 7 e3 }

-- ---- anchors apart: L is above 0
pub same_yes : (a b : ℤ) → a ≡ b → T (eq_z a b)
same_yes a b e = subst (λ (x : ℤ). T (eq_z a x)) e (conj (le_z a a) (≤ℤ_refl a).le)
  where
    conj : (x : Bool) → T x → T (x && x)
    conj true t = t
    conj false t = absurd t

square_apart : (a b : ℤ) → T (not (eq_z a b)) → pos 0 <ℤ ((b -ℤ a) *ℤ (b -ℤ a))
square_apart a b t = square_pos (b -ℤ a) (λ e. T_not (eq_z a b) t (same_yes a b (sub_zero e)))

some : (x y z : Bool) → T (not (x && y && z)) → (P : Type 0) → (T (not x) → P) → (T (not y) → P) → (T (not z) → P) → P
some false y z t P f g h = f tt
some true false z t P f g h = g tt
some true true false t P f g h = h tt
some true true true t P f g h = absurd t

-- a sum of three that are not negative, one of them above 0
module _ {x y z : ℤ} (p : pos 0 ≤ℤ x) (q : pos 0 ≤ℤ y) (r : pos 0 ≤ℤ z) where
  pub first : pos 0 <ℤ x → pos 0 <ℤ (x +ℤ y +ℤ z)
  first h = omega (zarith, sum_parts x y, sum_parts (x +ℤ y) z)

  pub second : pos 0 <ℤ y → pos 0 <ℤ (x +ℤ y +ℤ z)
  second h = omega (zarith, sum_parts x y, sum_parts (x +ℤ y) z)

  pub third : pos 0 <ℤ z → pos 0 <ℤ (x +ℤ y +ℤ z)
  third h = omega (zarith, sum_parts x y, sum_parts (x +ℤ y) z)

pub anchors_apart : (a b : List ℤ) → T (not (same a b)) → pos 0 <ℤ dot (minus b a) (minus b a)
unfolding dot minus
anchors_apart a b t = some (eq_z (at a 0) (at b 0)) (eq_z (at a 1) (at b 1)) (eq_z (at a 2) (at b 2)) t (pos 0 <ℤ dot (minus b a) (minus b a))
    (λ h. first (nonneg 0) (nonneg 1) (nonneg 2) (square_apart (at a 0) (at b 0) h))
    (λ h. second (nonneg 0) (nonneg 1) (nonneg 2) (square_apart (at a 1) (at b 1) h))
    (λ h. third (nonneg 0) (nonneg 1) (nonneg 2) (square_apart (at a 2) (at b 2) h))
  where
    nonneg : (i : ℕ) → pos 0 ≤ℤ ((at b i -ℤ at a i) *ℤ (at b i -ℤ at a i))
    nonneg i = square_nonnegℤ (at b i -ℤ at a i)

-- of a linear level
pub linear_apart : (g : Grade) → T (is_linear g) → T (not (coincident g)) → pos 0 <ℤ length_sq g
linear_apart g l t = anchors_apart g.from g.to (go (is_linear g) (same g.from g.to) l t)
  where
    go : (b c : Bool) → T b → T (not (b && c)) → T (not c)
    go true c s t = t
    go false c s t = absurd s

-- a fact of the compiled grade, from the two that it may be
pub by_ends : (g : Grade) (P : GradeDef → Type 0)
    → (T (is_linear g && not (eq_z g.start g.end)) → P (GradeDef.Linear (numbers g)))
    → (T (not (is_linear g && not (eq_z g.start g.end))) → P (GradeDef.Constant g.start))
    → P (compiled g)
unfolding compiled
by_ends g = choose (is_linear g && not (eq_z g.start g.end)) (GradeDef.Linear (numbers g)) (GradeDef.Constant g.start)

-- the same where the ends are not asked
pub by_kind : (g : Grade) (P : GradeDef → Type 0)
    → (T (is_linear g) → P (GradeDef.Linear (numbers g)))
    → (T (not (is_linear g && not (eq_z g.start g.end))) → P (GradeDef.Constant g.start))
    → P (compiled g)
by_kind g P linear = by_ends g P (λ u. linear (both (is_linear g) (not (eq_z g.start g.end)) u).0)

-- ---- so the compiled grade fits
pub compiled_fits : (g : Grade) → InLimits g → T (not (coincident g)) → DefFits (compiled g)
unfolding linear_of
compiled_fits g i t = by_kind g DefFits
    (λ l. record {
      from = s.from;
      direction = minus_within s.to s.from;
      length = dot_within (minus_within s.to s.from) (minus_within s.to s.from);
      apart = linear_apart g l t;
      start = s.start;
      end = s.end;
    })
    (λ _. s.start)
  where
    s : Sizes g
    s = sizes g i
