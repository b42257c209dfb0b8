-- No refusal leaves the fractions with parts that fit. Assumes nothing.
use mathlib.Core.Path.{◌≡◌, subst⁻¹}
use Prim.Native.Nat.{ℕ, suc, ◌^◌, ◌≤◌, ◌<◌}
use native.Mathlib.Omega.{arith}
use native.Mathlib.Nat.{le_trans}
use borrow.Author.Rules.{rules}
use lib.Dec.{T, ltb, leb, ltb→lt, lit<, lit≤}
use lib.IntN.{ℤ, pos, nat_abs}
use lib.Signed.{◌<ℤ◌, non_neg, yes_non_neg}
use mir.Syntax.{w64}
use mir.Val.{Fits, to_z, of_z}
use Rattle.exact.proofs.IntegerOrder.{<ℤ_le}
use Rattle.exact.proofs.Size.{size_above}
use Rattle.exact.proofs.Signed.{Is, is, got, bit, asked, heard}
use Rattle.grade.specs.declared.GradeDef.{GradeDef}
use Rattle.grade.specs.Exact.{compiled}
use Rattle.grade.specs.Certified.{slope_bound}
use Rattle.grade.specs.Fits.{DefFits, SlopeFits}
use Rattle.gyroid.specs.declared.Description.{Description}
use Rattle.gyroid.specs.Refusals.{refusal}
use Rattle.gyroid.specs.Leaf.{surface_of, constant_level, lipschitz_top, lipschitz_bottom, leaf}
use Rattle.gyroid.proofs.AcceptedLaws.{accepted, constant_within, top_within, bottom_within, bottom_above}
use Rattle.gyroid.proofs.Gyroid.compile.Goals as goal

-- a number above 0 as a denominator, and as one without a sign
denominator : {n : ℕ} {w z : ℤ} → T (leb n (2 ^ 53)) → Is n w z → pos 0 <ℤ z → (0 < nat_abs w) × (nat_abs w ≤ 2 ^ 53)
denominator t i h = (subst⁻¹ (λ (z : ℤ). 0 < nat_abs z) i.same (size_above h), (asked t i).abs)

cast : {n : ℕ} {w z : ℤ} → T (ltb n (2 ^ 64)) → Is n w z → pos 0 <ℤ z → T (non_neg w) × Fits w64 (nat_abs w)
cast {n} {w} {z} t i h = (
  subst⁻¹ (λ (z : ℤ). T (non_neg z)) i.same (yes_non_neg (<ℤ_le h)),
  record {
    fits = le_trans (suc_le (subst⁻¹ (λ (z : ℤ). nat_abs z ≤ n) i.same i.within.abs)) (ltb→lt n (2 ^ 64) t);
  },
)
  where
    suc_le : {m n : ℕ} → m ≤ n → suc m ≤ suc n
    suc_le h = omega arith

-- the parts of the leaf's fractions, read back from their bits
module _ (d : Description) (none : refusal d ≡ 0) where
  abbrev bits : ℤ → ℤ
  bits z = to_z w64 (of_z w64 z)

  abbrev g : GradeDef
  g = compiled d.level

  fits : DefFits g
  fits = (accepted d none).0.fits

  above : pos 0 <ℤ d.period
  above = (accepted d none).0.above

  slope : SlopeFits (slope_bound g)
  slope = (accepted d none).1

  period : Is 1048576 (bits d.period) d.period
  period = bit tt (is (accepted d none).0.period)

  level : (n : ℤ) → n ≡ constant_level g → Is 4096 (bits n) (constant_level g)
  level n e = bit tt (got e (constant_within g fits))

  top : (n : ℤ) → n ≡ lipschitz_top d.period (slope_bound g) → Is 150323855360 (bits n) (lipschitz_top d.period (slope_bound g))
  top n e = bit tt (got e (top_within period.within slope))

  bottom : (n : ℤ) → n ≡ lipschitz_bottom d.period (slope_bound g) → Is 6597069766656 (bits n) (lipschitz_bottom d.period (slope_bound g))
  bottom n e = bit tt (got e (bottom_within period.within slope))

  -- what a fraction's call asks of them
  by_period : T (leb 1024 (2 ^ 53)) → (1024 ≤ 2 ^ 53) × (0 < nat_abs (bits d.period)) × (nat_abs (bits d.period) ≤ 2 ^ 53)
  by_period t = let (a, b) = denominator tt period above in (lit≤ t, a, b)

  by_1024 : (n : ℤ) → n ≡ constant_level g → (nat_abs (bits n) ≤ 2 ^ 53) × (0 < 1024) × (1024 ≤ 2 ^ 53)
  by_1024 n e = ((asked {n = 2 ^ 53} tt (level n e)).abs, lit< tt, lit≤ tt)

  by_bottom : (m n : ℤ) → m ≡ lipschitz_top d.period (slope_bound g) → n ≡ lipschitz_bottom d.period (slope_bound g)
      → (nat_abs (bits m) ≤ 2 ^ 53) × (0 < nat_abs (bits n)) × (nat_abs (bits n) ≤ 2 ^ 53)
  by_bottom m n e f =
      let (a, b) = denominator tt (bottom n f) (bottom_above above slope) in
      ((asked {n = 2 ^ 53} tt (top m e)).abs, a, b)

pub compile-grade-requires : goal.compile-grade-requires
compile-grade-requires c = (accepted c.args.description c.requires.none).0.level

pub slope_bound-slope-requires : goal.slope_bound-slope-requires
slope_bound-slope-requires c = subst⁻¹ DefFits c.compile-grade.ensures (fits c.args.description c.requires.none)

pub overflow_cast-period : goal.overflow_cast-period
overflow_cast-period c = cast tt (period c.args.description c.requires.none) (above c.args.description c.requires.none)

pub lipschitz_top-top-requires : goal.lipschitz_top-top-requires
lipschitz_top-top-requires c =
    let sl : c.slope_bound-slope.result ≡ slope_bound (compiled c.args.description.level) = cc in
    (asked tt (period c.args.description c.requires.none), subst⁻¹ SlopeFits sl (slope c.args.description c.requires.none))

pub lipschitz_bottom-bottom-requires : goal.lipschitz_bottom-bottom-requires
lipschitz_bottom-bottom-requires c =
    let sl : c.slope_bound-slope.result ≡ slope_bound (compiled c.args.description.level) = cc in
    (asked tt (period c.args.description c.requires.none), subst⁻¹ SlopeFits sl (slope c.args.description c.requires.none))

pub overflow_cast-bottom : goal.overflow_cast-bottom
overflow_cast-bottom c =
    let d = c.args.description in
    let n = c.requires.none in
    cast tt (bottom d n c.lipschitz_bottom-bottom.result (cc (period d n).same)) (bottom_above (above d n) (slope d n))

pub from_rational-turns-requires : goal.from_rational-turns-requires
from_rational-turns-requires c = by_period c.args.description c.requires.none tt

pub from_rational-requires : goal.from_rational-requires
from_rational-requires c =
    let w = (period c.args.description c.requires.none).same in
    by_bottom c.args.description c.requires.none c.lipschitz_top-top.result c.lipschitz_bottom-bottom.result (cc w) (cc w)

pub nearest-requires : goal.nearest-requires
nearest-requires c = by_period c.args.description c.requires.none tt

pub nearest-requires-2 : goal.nearest-requires-2
nearest-requires-2 c = by_1024 c.args.description c.requires.none c.constant_level-constant.result cc

pub nearest-requires-3 : goal.nearest-requires-3
nearest-requires-3 c =
    let w = (period c.args.description c.requires.none).same in
    by_bottom c.args.description c.requires.none c.lipschitz_top-top.result c.lipschitz_bottom-bottom.result (cc w) (cc w)

pub intervals-requires : goal.intervals-requires
intervals-requires c = subst⁻¹ DefFits c.compile-grade.ensures (fits c.args.description c.requires.none)

pub returns : goal.returns
unfolding leaf
returns c =
    let d = c.args.description in
    let n = c.requires.none in
    let w = (period d n).same in
    let level = (level d n c.constant_level-constant.result cc).same in
    let top = (top d n c.lipschitz_top-top.result (cc w)).same in
    let bottom = (bottom d n c.lipschitz_bottom-bottom.result (cc w)).same in
    let surface = heard surface_of {x = d.kind} (search rules) c.surface_of-surface.ensures in
    cc (w, level, top, bottom, surface)
