-- The cut number is read back from its bits; `floor_is` says which branch is right. Assumes nothing.
use Rattle.std.proofs.Common.{◌≡◌, Bool, true, false, cond, ℤ, pos, ◌-ℤ◌, sym, ap, ◌∙◌, subst, w64, SFits, to_z, of_z}
use borrow.Author.Rules.{sfits_of}
use lib.Ieee.{Float, binary64, of_int, to_signed, lt}
use lib.Ieee.Casts.{to_signed_in}
use mir.ValLaws.{to_z-of_z}
use Rattle.interval.specs.Floor.{floor}
use Rattle.interval.specs.Encloses.{Small}
use Rattle.interval.proofs.Small.{small_finite}
use Rattle.interval.proofs.FloorCode.{in_low, in_high, Cut, cut, lower_fits, floor_is}
use Rattle.interval.proofs.floor.floor.Goals as goal

pub truncating_f64_to_i64-k-requires : goal.truncating_f64_to_i64-k-requires
truncating_f64_to_i64-k-requires c = record { lower_bound = in_low c.args.y c.requires; upper_bound = in_high c.args.y c.requires }

-- the cut number k fits, so what the machine reads back is k
module _ (y : Float) (h : Small 53 y) (k : ℤ) (e : k ≡ to_signed 63 y) where
  cut_at : Cut y k
  cut_at = subst (Cut y) (sym e) (cut y h)

  back : to_z w64 (of_z w64 k) ≡ k
  back = to_z-of_z w64 k (subst (SFits w64) (sym e) (sfits_of (to_signed_in 63 y)))

  less_fits : SFits w64 (to_z w64 (of_z w64 k) -ℤ pos 1)
  less_fits = subst (λ (z : ℤ). SFits w64 (z -ℤ pos 1)) (sym back) (lower_fits cut_at)

  picked : (f : Float) (u : Bool) → f ≡ of_int binary64 (to_z w64 (of_z w64 k)) → lt y f ≡ u → floor y ≡ cond u (k -ℤ pos 1) k
  picked f u p q = floor_is y k u (small_finite 53 y h) cut_at (ap (lt y) (sym (p ∙ ap (of_int binary64) back)) ∙ q)

pub overflow_sub-result : goal.overflow_sub-result
overflow_sub-result c =
    less_fits c.args.y c.requires c.truncating_f64_to_i64-k.result c.truncating_f64_to_i64-k.ensures

pub returns-then-y-nearest_i64_to_f64 : goal.returns-then-y-nearest_i64_to_f64
returns-then-y-nearest_i64_to_f64 c =
    let k = c.truncating_f64_to_i64-k.result in
    let e = c.truncating_f64_to_i64-k.ensures in
    to_z-of_z w64 _ (less_fits c.args.y c.requires k e)
    ∙ ap (λ (z : ℤ). z -ℤ pos 1) (back c.args.y c.requires k e)
    ∙ sym (picked c.args.y c.requires k e c.nearest_i64_to_f64.result true c.nearest_i64_to_f64.ensures c.if-y-nearest_i64_to_f64.true)

pub returns-else-y-nearest_i64_to_f64 : goal.returns-else-y-nearest_i64_to_f64
returns-else-y-nearest_i64_to_f64 c =
    let k = c.truncating_f64_to_i64-k.result in
    let e = c.truncating_f64_to_i64-k.ensures in
    back c.args.y c.requires k e
    ∙ sym (picked c.args.y c.requires k e c.nearest_i64_to_f64.result false c.nearest_i64_to_f64.ensures c.if-y-nearest_i64_to_f64.false)
