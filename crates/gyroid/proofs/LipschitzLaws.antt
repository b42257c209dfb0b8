-- The Lipschitz bound's fraction is 22/a and the slope's, over one denominator. Assumes nothing.
use native.Mathlib.Nat.{mul-pos}
use lib.IntN.{ℤ, pos, negsuc, nat_abs, ◌+ℤ◌, ◌*ℤ◌}
use lib.Signed.{◌<ℤ◌}
use Rattle.exact.specs.Fraction.{ratio, whole, ◌+F◌, ◌/F◌, ◌≈F◌}
use Rattle.exact.proofs.Fraction.{≈F_sym, ≈F_trans, add_cong_f, add_ratio, over_whole}
use Rattle.exact.proofs.Size.{size_above}
use Rattle.grade.specs.declared.Slope.{Slope}
use Rattle.gyroid.specs.Leaf.{lipschitz_top, lipschitz_bottom}

-- for a period of p ticks, p/1024 mm
pub lipschitz_is : (p : ℤ) (s : Slope) → pos 0 <ℤ p → pos 0 <ℤ s.distance → whole (lipschitz_top p s) /F nat_abs (lipschitz_bottom p s) ≈F whole (pos 22528) /F nat_abs p +F whole s.rise /F nat_abs s.distance
lipschitz_is p s h k = go p s.distance h k
  where
    go : (p d : ℤ) → pos 0 <ℤ p → pos 0 <ℤ d → whole (pos 22528 *ℤ d +ℤ s.rise *ℤ p) /F nat_abs (p *ℤ d) ≈F whole (pos 22528) /F nat_abs p +F whole s.rise /F nat_abs d
    go (negsuc a) d h k = absurd h.lt
    go (pos a) (negsuc b) h k = absurd k.lt
    go (pos a) (pos b) h k =
        let A = size_above h in
        let B = size_above k in
        let C = mul-pos A B in
        ≈F_trans (over_whole (pos 22528 *ℤ pos b +ℤ s.rise *ℤ pos a) C)
        (≈F_sym (≈F_trans (add_cong_f (over_whole (pos 22528) A) (over_whole s.rise B)) (add_ratio (ratio (pos 22528) a A) (ratio s.rise b B) C)))
