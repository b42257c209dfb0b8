-- The numerator is at most 2^34 in size, and L is above 0. Assumes nothing.
use mathlib.Core.Path.{◌∙◌, subst⁻¹}
use Prim.Native.Nat.{◌<◌}
use lib.IntN.{ℤ, nat_abs}
use Rattle.exact.proofs.Signed.{is, fits, bit, sub, mul, asked}
use Rattle.interval.specs.Nearest.{from_rational}
use Rattle.exact.proofs.Size.{size_above}
use Rattle.grade.proofs.Linear.slope_along.Goals as goal

pub overflow_mul-d : goal.overflow_mul-d
overflow_mul-d c = fits tt (mul (bit tt (is c.requires.1)) (bit tt (sub (bit tt (is c.requires.0.end)) (bit tt (is c.requires.0.start)))))

pub from_rational-requires : goal.from_rational-requires
from_rational-requires c =
    let p = c.requires.0 in
    let n = bit tt (mul (bit tt (is c.requires.1)) (bit tt (sub (bit tt (is p.end)) (bit tt (is p.start))))) in
    let l = bit tt (is p.length) in
    ((asked tt n).abs, subst⁻¹ (λ (z : ℤ). 0 < nat_abs z) l.same (size_above p.apart), (asked tt l).abs)

pub returns : goal.returns
returns c =
    let p = c.requires.0 in
    let n = bit tt (mul (bit tt (is c.requires.1)) (bit tt (sub (bit tt (is p.end)) (bit tt (is p.start))))) in
    let l = bit tt (is p.length) in
    c.from_rational.ensures ∙ (λ k. from_rational (n.same k) (nat_abs (l.same k)))
