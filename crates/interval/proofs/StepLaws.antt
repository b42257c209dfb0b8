-- The outward step: a fraction that rounds to at most h is below the next double above h, and so above. Of the laws of what an interval holds
-- these alone know how far a step goes. Assumes nothing.
use Rattle.std.proofs.Common.{ℕ, ◌≤◌, T, sym, subst, inl, inr}
use lib.Ieee.{Float, binary64, neg, fits}
use lib.Ieee.Fits.{neg-fits}
use lib.Ieee.Scale.{finite}
use Rattle.exact.specs.Fraction.{Fraction, ◌≤F◌, ◌<F◌}
use Rattle.exact.proofs.Fraction.{≤F_trans, ≤F-<F_trans, <F-≤F_trans, <F_irrefl, <F_le, le_or_lt_f, ≈F_le, ≈F_ge, neg_mono_f, neg_lt, neg_neg_f}
use Rattle.interval.specs.Step.{next_up, next_down}
use Rattle.interval.specs.Encloses.{value, Small}
use Rattle.interval.proofs.Rounding.{Rounds, rounds_mono, kept_value}
use Rattle.interval.proofs.Rank.{up_fits}
use Rattle.interval.proofs.Small.{small_neg, finite_neg, value_neg}
use Rattle.interval.proofs.SmallRounding.{next_small, rounds_neg, down_is}

-- were q not below the next double, that double, which rounds to itself, would be at most what q rounds to, and so at most h
pub up_strict : (k : ℕ) (h : Float) {x : Float} {q : Fraction} → k ≤ 1022 → Rounds x q → T (finite x) → T (fits binary64 h) → Small k h → value x ≤F value h
    → q <F value (next_up h)
up_strict k h {x} {q} K r f g s l = elim (le_or_lt_f (value (next_up h)) q) [
  | inr p ↦ p
  | inl p ↦
      let n = next_small k h K g s in
      let d = kept_value (next_up h) (up_fits h g) n.finite in
      absurd (<F_irrefl n.above (≤F_trans (≈F_ge d.same) (≤F_trans (rounds_mono d.rounds r d.finite f p) l)))
]

pub down_strict : (k : ℕ) (h : Float) {x : Float} {q : Fraction} → k ≤ 1022 → Rounds x q → T (finite x) → T (fits binary64 h) → Small k h → value h ≤F value x
    → value (next_down h) <F q
down_strict k h {x} {q} K r f g s l =
    let turned = ≤F_trans (≈F_le (value_neg x)) (≤F_trans (neg_mono_f l) (≈F_ge (value_neg h))) in
    let up = up_strict k (neg h) K (rounds_neg r) (finite_neg x f) (neg-fits binary64 h g) (small_neg k h s) turned in
    subst (λ (y : Float). value y <F q) (sym (down_is h))
    (≤F-<F_trans (≈F_le (value_neg (next_up (neg h)))) (<F-≤F_trans (neg_lt up) (≈F_le (neg_neg_f q))))

pub up_encloses : (k : ℕ) (h : Float) {x : Float} {q : Fraction} → k ≤ 1022 → Rounds x q → T (finite x) → T (fits binary64 h) → Small k h → value x ≤F value h
    → q ≤F value (next_up h)
up_encloses k h K r f g s l = <F_le (up_strict k h K r f g s l)

pub down_encloses : (k : ℕ) (h : Float) {x : Float} {q : Fraction} → k ≤ 1022 → Rounds x q → T (finite x) → T (fits binary64 h) → Small k h → value h ≤F value x
    → value (next_down h) ≤F q
down_encloses k h K r f g s l = <F_le (down_strict k h K r f g s l)
