-- What a description that no number refuses is: its entries are within the limits, its period is above 0 and its level is certified, so
-- that the leaf's fractions have parts that fit. Assumes nothing.
use mathlib.Core.Path.{◌≡◌, sym, ap, ◌∙◌, subst⁻¹}
use mathlib.Core.Bool.{Bool, not, ◌&&◌}
use mathlib.Core.Logic.{◌⊎◌, inl, inr}
use Prim.Native.Nat.{ℕ}
use lib.Dec.{T, T_not}
use lib.IntN.{ℤ, pos}
use lib.Signed.{le_z, ◌<ℤ◌, ◌≤ℤ◌}
use Rattle.exact.specs.Within.{Within}
use Rattle.exact.proofs.Size.{within_zero, within_self, within_add, within_mul}
use Rattle.exact.proofs.IntegerOrder.{le_or_lt, mul_pos}
use Rattle.grade.specs.Grade as grade
use Rattle.grade.specs.declared.GradeDef.{GradeDef}
use Rattle.grade.specs.declared.Slope.{Slope}
use Rattle.limits.specs.Ticks.{tick}
use Rattle.grade.specs.Grade.{eq_z}
use Rattle.grade.specs.Exact.{compiled}
use Rattle.grade.specs.Certified.{certification, slope_bound}
use Rattle.limits.specs.Refusals.{refused, ◌or_else◌}
use Rattle.grade.specs.Refusals.{is_distance, coincident}
use Rattle.grade.specs.Fits.{InLimits, DefFits, SlopeFits}
use Rattle.limits.proofs.TickLaws.{both, tick_within}
use Rattle.grade.proofs.Accepted.{compiled_fits}
use Rattle.limits.proofs.RefusalLaws.{none_first, kept, neither, or_else_assoc, passed_on}
use Rattle.grade.proofs.CertifiedLaws.{slope_fits}
use Rattle.gyroid.specs.declared.Description.{Description}
use Rattle.gyroid.specs.Description.{kind, in_limits, frame_in_limits, part_frame}
use Rattle.gyroid.specs.Refusals.{refusal}
use Rattle.gyroid.specs.Leaf.{constant_level, lipschitz_top, lipschitz_bottom}

-- ---- the tests that read the entries alone, and those that read the compiled level or come after it
abbrev pub early : Description → ℕ
early d =
    refused (not (in_limits d)) 1 or_else
    refused (le_z d.period (pos 0)) 2 or_else
    refused (eq_z d.kind (pos 1)) 3 or_else
    refused (coincident d.level) 2 or_else
    refused (is_distance d.level) 3

abbrev pub late : Description → ℕ
late d = certification (compiled d.level) or_else refused (not (part_frame d.frame)) 3

five : (a b c d e r : ℕ) → ((a or_else b or_else c or_else d or_else e) or_else r) ≡ (a or_else b or_else c or_else d or_else e or_else r)
five a b c d e r =
    or_else_assoc a (b or_else c or_else d or_else e) r
    ∙ ap (λ n. a or_else n) (or_else_assoc b (c or_else d or_else e) r
    ∙ ap (λ n. b or_else n) (or_else_assoc c (d or_else e) r
    ∙ ap (λ n. c or_else n) (or_else_assoc d e r)))

pub split : (d : Description) → (early d or_else late d) ≡ refusal d
unfolding refusal
split d =
    five (refused (not (in_limits d)) 1) (refused (le_z d.period (pos 0)) 2) (refused (eq_z d.kind (pos 1)) 3) (refused (coincident d.level) 2) (refused (is_distance d.level) 3) (late d)

-- ---- what the early tests leave
pub record Passed (d : Description) : Type 0 where
  pub period : Within 1048576 d.period
  pub above : pos 0 <ℤ d.period
  pub level : InLimits d.level
  pub apart : T (not (coincident d.level))
  pub fits : DefFits (compiled d.level)

not_most : (z : ℤ) → T (not (le_z z (pos 0))) → pos 0 <ℤ z
not_most z t = go (le_or_lt z (pos 0))
  where
    go : (z ≤ℤ pos 0) ⊎ (pos 0 <ℤ z) → pos 0 <ℤ z
    go (inl h) = absurd (T_not (le_z z (pos 0)) t h.le)
    go (inr h) = h

pub passed : (d : Description) → early d ≡ 0 → Passed d
unfolding in_limits
passed d e =
    let points = refused (coincident d.level) 2 or_else refused (is_distance d.level) 3 in
    let (a, e) = none_first (not (in_limits d)) 0 (refused (le_z d.period (pos 0)) 2 or_else refused (eq_z d.kind (pos 1)) 3 or_else points) e in
    let (b, e) = none_first (le_z d.period (pos 0)) 1 (refused (eq_z d.kind (pos 1)) 3 or_else points) e in
    let (_, e) = none_first (eq_z d.kind (pos 1)) 2 points e in
    let (p, _) = none_first (coincident d.level) 1 (refused (is_distance d.level) 3) e in
    let (h, _) = both (tick d.period && kind d.kind && grade.in_limits d.level) (frame_in_limits d.frame) (kept (in_limits d) a) in
    let (h, l) = both (tick d.period && kind d.kind) (grade.in_limits d.level) h in
    let (t, _) = both (tick d.period) (kind d.kind) h in
    record { period = tick_within d.period t; above = not_most d.period b; level = record { passed = l }; apart = p; fits = compiled_fits d.level (record { passed = l }) p }

-- the same of what the code's tests answer, none of which refuses
module _ (d : Description) {l p s a f : Bool}
    (limits : l ≡ in_limits d) (within : 0 ≡ refused (not l) 1)
    (period : p ≡ le_z d.period (pos 0)) (above : 0 ≡ refused p 2)
    (sheet : s ≡ eq_z d.kind (pos 1)) (none : 0 ≡ refused s 3)
    (points : a ≡ coincident d.level) (apart : 0 ≡ refused a 2)
    (distance : f ≡ is_distance d.level) (near : 0 ≡ refused f 3) where
  answered : (n : ℕ) {b c : Bool} → 0 ≡ refused b n → b ≡ c → 0 ≡ refused c n
  answered n z e = z ∙ ap (λ (b : Bool). refused b n) e

  tested : Passed d
  tested =
      passed d (passed_on (answered 1 within (ap not limits)) ∙ passed_on (answered 2 above period) ∙ passed_on (answered 3 none sheet)
      ∙ passed_on (answered 2 apart points) ∙ sym (answered 3 near distance))

  pub tested_level : InLimits d.level
  tested_level = tested.level

  pub tested_fits : {g : GradeDef} → g ≡ compiled d.level → DefFits g
  tested_fits e = subst⁻¹ DefFits e tested.fits

-- ---- and what no refusal leaves
pub certified : (d : Description) → refusal d ≡ 0 → certification (compiled d.level) ≡ 0
certified d e = (neither (certification (compiled d.level)) (refused (not (part_frame d.frame)) 3) (neither (early d) (late d) (split d ∙ e)).1).0

pub accepted : (d : Description) → refusal d ≡ 0 → Passed d × SlopeFits (slope_bound (compiled d.level))
accepted d e =
    let p = passed d (neither (early d) (late d) (split d ∙ e)).0 in
    (p, slope_fits (compiled d.level) p.fits (certified d e))

-- ---- the parts of the leaf's fractions
pub constant_within : (g : GradeDef) → DefFits g → Within 4096 (constant_level g)
constant_within (GradeDef.Constant c) f = f
constant_within (GradeDef.Linear l) f = within_zero 4096

pub top_within : {p : ℤ} {s : Slope} → Within 1048576 p → SlopeFits s → Within 150323855360 (lipschitz_top p s)
top_within h f = within_add (within_mul (within_self (pos 22528)) f.distance) (within_mul f.rise h)

pub bottom_within : {p : ℤ} {s : Slope} → Within 1048576 p → SlopeFits s → Within 6597069766656 (lipschitz_bottom p s)
bottom_within h f = within_mul h f.distance

pub bottom_above : {p : ℤ} {s : Slope} → pos 0 <ℤ p → SlopeFits s → pos 0 <ℤ lipschitz_bottom p s
bottom_above {p} {s} h f = mul_pos {a = p} {b = s.distance} h f.apart
