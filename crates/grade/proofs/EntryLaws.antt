-- What passing document 01's limits says of each entry: its size. Assumes nothing.
use mathlib.Core.Path.{◌≡◌, refl, subst, ◌∙◌}
use mathlib.Core.Bool.{Bool, true, false, not, ◌&&◌, ◌||◌}
use mathlib.Core.List.{List, [], ◌∷◌}
use native.Mathlib.Omega.{arith}
use lib.ListN.{length}
use lib.Pointwise.{pointwise}
use lib.Dec.{T}
use lib.IntN.{ℤ, pos, negsuc}
use lib.Signed.{le_z, le_z_yes, ≤ℤ_refl}
use Rattle.std.proofs.Common.{int_eq}
use Rattle.std.specs.Cmp.{signed_Decides}
use Rattle.exact.proofs.IntegerOrder.{≤ℤ_antisym}
use Rattle.exact.specs.Within.{Within}
use Rattle.exact.proofs.Size.{within_of_bounds}
use Rattle.grade.specs.declared.Grade.{Grade}
use Rattle.limits.specs.Ticks.{tick, at, ticks}
use Rattle.limits.proofs.TickLaws.{both, tick_within}
use Rattle.grade.specs.Grade.{kind, count, in_limits, eq_z}
use Rattle.grade.specs.Refusals.{same}
use Rattle.limits.proofs.TestLaws.{holds, is_true, same_test}
use Rattle.grade.specs.Fits.{Within3, InLimits}

pub not_either : (a b : Bool) → T (not (a || b)) → T (not a) × T (not b)
not_either true b t = absurd t
not_either false b t = (tt, t)

count_within : (z : ℤ) → T (count z) → Within 4096 z
count_within z t =
    let (h, k) = both (le_z (negsuc 4095) z) (le_z z (pos 4096)) t in
    within_of_bounds 4096 (le_z_yes h) (le_z_yes k)

pub ticks_within : (v : List ℤ) → T (ticks v) → Within3 1048576 v
ticks_within v t =
    let (h, k) = both (tick (at v 0) && tick (at v 1)) (tick (at v 2)) t in
    let (i, j) = both (tick (at v 0)) (tick (at v 1)) h in
    record { x = tick_within (at v 0) i; y = tick_within (at v 1) j; z = tick_within (at v 2) k }

-- ---- two vectors are equal where their entries are
entry_same : (x y : ℤ) → int_eq x y ≡ eq_z x y
entry_same x y = same_test (int_eq x y) (eq_z x y)
    (λ e. is_true (eq_z x y) (subst (λ (z : ℤ). T (eq_z x z)) ((signed_Decides x y).0 e) (itself (le_z x x) (≤ℤ_refl x).le)))
    (λ e. let (h, k) = both (le_z x y) (le_z y x) (holds e) in (signed_Decides x y).1 (≤ℤ_antisym {a = x} {b = y} (le_z_yes h) (le_z_yes k)))
  where
    itself : (b : Bool) → T b → T (b && b)
    itself true t = t
    itself false t = absurd t

pub equal_vectors : (a b : List ℤ) → length a ≡ 3 → length b ≡ 3 → pointwise int_eq a b ≡ same a b
equal_vectors (x ∷ y ∷ z ∷ []) (u ∷ v ∷ w ∷ []) h k =
    (λ i. entry_same x u i && (entry_same y v i && (entry_same z w i && true))) ∙ joined (eq_z x u) (eq_z y v) (eq_z z w)
  where
    joined : (p q r : Bool) → (p && (q && (r && true))) ≡ (p && q && r)
    joined true true true = refl
    joined true true false = refl
    joined true false r = refl
    joined false q r = refl
equal_vectors a b h k = absurd (omega arith)

-- ---- the sizes of a level's entries
pub record Sizes (g : Grade) : Type 0 where
  pub from : Within3 1048576 g.from
  pub to : Within3 1048576 g.to
  pub start : Within 4096 g.start
  pub end : Within 4096 g.end

pub sizes : (g : Grade) → InLimits g → Sizes g
unfolding in_limits
sizes g l = go (kind g.kind) l.passed
  where
    go : (a : Bool) → T (a && ticks g.from && ticks g.to && count g.start && count g.end) → Sizes g
    go a t =
        let (h, e) = both (a && ticks g.from && ticks g.to && count g.start) (count g.end) t in
        let (h, s) = both (a && ticks g.from && ticks g.to) (count g.start) h in
        let (h, to) = both (a && ticks g.from) (ticks g.to) h in
        let (h, from) = both a (ticks g.from) h in
        record { from = ticks_within g.from from; to = ticks_within g.to to; start = count_within g.start s; end = count_within g.end e }
