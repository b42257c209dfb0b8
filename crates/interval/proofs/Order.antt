-- IEEE's ≤ between doubles, infinities among them. It is transitive and turns with the sign; a rounding keeps the order of the fractions, also
-- where it overflows; and the next double above is no lower, nor the next below higher. Assumes nothing.
use Rattle.std.proofs.Common.{◌≡◌, ℕ, ◌<◌, Bool, true, false, not, T, pos, sym, refl, ◌∙◌, subst, inl, inr, true≢false, arith, lit<}
use mathlib.Core.Bool.{false≢true}
use lib.IntN.{suc_ℤ}
use lib.Ieee.{Float, nan, inf, fin, binary64, neg, lt, eq, le, round, fits, is_nan, to_bits, of_bits}
use lib.Ieee.Fits.{neg-fits}
use Rattle.exact.specs.Fraction.{Fraction, ◌≤F◌}
use Rattle.exact.proofs.IntegerOrder.{le_or_lt}
use Rattle.exact.proofs.Fraction.{≤F_refl, ≤F_trans, <F_le, ≈F_le, ≈F_ge, neg_mono_f}
use Rattle.exact.proofs.Choice.{choose}
use Rattle.interval.specs.Step.{next_up, next_down}
use Rattle.interval.specs.Interval.{least, greatest}
use Rattle.interval.specs.Encloses.{value}
use Rattle.interval.proofs.Signs.{Le, le_ratio}
use Rattle.interval.proofs.Pattern.{quantum, over, Quanta}
use Rattle.interval.proofs.Rounding.{rounded, round_quanta, Rounds, rounds_quanta, rounds_order, scaled, quanta_value}
use Rattle.interval.proofs.Compare.{le_value, value_le, lt_le, real_le}
use Rattle.interval.proofs.Small.{value_neg}
use Rattle.interval.proofs.Rank.{ranked, rank_above}

-- ---- the order
pub le_refl : (x : Float) → T (not (is_nan x)) → T (le x x)
unfolding le lt eq is_nan
le_refl nan n = absurd n
le_refl (inf true) n = tt
le_refl (inf false) n = tt
le_refl (fin s m e) n = value_le (fin s m e) (fin s m e) tt tt (≤F_refl (value (fin s m e)))

pub le_trans : (x y z : Float) → T (le x y) → T (le y z) → T (le x z)
unfolding le lt eq
le_trans nan y z h k = absurd h
le_trans (inf s) nan z h k = absurd h
le_trans (inf true) (inf t) nan h k = absurd k
le_trans (inf true) (inf t) (inf true) h k = tt
le_trans (inf true) (inf t) (inf false) h k = tt
le_trans (inf true) (inf t) (fin u n d) h k = tt
le_trans (inf true) (fin t n d) nan h k = absurd k
le_trans (inf true) (fin t n d) (inf true) h k = tt
le_trans (inf true) (fin t n d) (inf false) h k = tt
le_trans (inf true) (fin t n d) (fin u o c) h k = tt
le_trans (inf false) (inf true) z h k = absurd h
le_trans (inf false) (inf false) z h k = k
le_trans (inf false) (fin t n d) z h k = absurd h
le_trans (fin s m e) nan z h k = absurd h
le_trans (fin s m e) (inf true) z h k = absurd h
le_trans (fin s m e) (inf false) nan h k = absurd k
le_trans (fin s m e) (inf false) (inf true) h k = absurd k
le_trans (fin s m e) (inf false) (inf false) h k = tt
le_trans (fin s m e) (inf false) (fin u o c) h k = absurd k
le_trans (fin s m e) (fin t n d) nan h k = absurd k
le_trans (fin s m e) (fin t n d) (inf true) h k = absurd k
le_trans (fin s m e) (fin t n d) (inf false) h k = tt
le_trans (fin s m e) (fin t n d) (fin u o c) h k =
    value_le (fin s m e) (fin u o c) tt tt (≤F_trans (le_value (fin s m e) (fin t n d) tt tt h) (le_value (fin t n d) (fin u o c) tt tt k))

pub neg_le : (x y : Float) → T (le x y) → T (le (neg y) (neg x))
unfolding le lt eq neg
neg_le nan y h = absurd h
neg_le (inf s) nan h = absurd h
neg_le (inf true) (inf true) h = tt
neg_le (inf true) (inf false) h = tt
neg_le (inf false) (inf true) h = absurd h
neg_le (inf false) (inf false) h = tt
neg_le (inf true) (fin t n d) h = tt
neg_le (inf false) (fin t n d) h = absurd h
neg_le (fin s m e) nan h = absurd h
neg_le (fin s m e) (inf true) h = absurd h
neg_le (fin s m e) (inf false) h = tt
neg_le (fin s m e) (fin t n d) h =
    let x = fin s m e in
    let y = fin t n d in
    value_le (neg y) (neg x) tt tt (≤F_trans (≈F_le (value_neg y)) (≤F_trans (neg_mono_f (le_value x y tt tt h)) (≈F_ge (value_neg x))))

neg_neg : (x : Float) → neg (neg x) ≡ x
unfolding neg
neg_neg nan = refl
neg_neg (inf true) = refl
neg_neg (inf false) = refl
neg_neg (fin true m e) = refl
neg_neg (fin false m e) = refl

pub neg_real : (x : Float) → T (not (is_nan x)) → T (not (is_nan (neg x)))
unfolding neg is_nan
neg_real nan n = n
neg_real (inf s) n = tt
neg_real (fin s m e) n = tt

-- ---- the lesser and the greater of two doubles that are no NaN
module _ (x y : Float) (n : T (not (is_nan x))) (m : T (not (is_nan y))) where
  pub least_le_left : T (le (least x y) x)
  least_le_left = choose (lt y x) y x (λ z. T (le z x)) (lt_le y x) (λ _. le_refl x n)

  pub least_le_right : T (le (least x y) y)
  least_le_right = choose (lt y x) y x (λ z. T (le z y)) (λ _. le_refl y m) (λ t. real_le x y n m (no (lt y x) t))
    where
      no : (b : Bool) → T (not b) → T b → ⊥
      no true t u = t
      no false t u = u

  pub le_greatest_left : T (le x (greatest x y))
  le_greatest_left = choose (lt x y) y x (λ z. T (le x z)) (lt_le x y) (λ _. le_refl x n)

  pub le_greatest_right : T (le y (greatest x y))
  le_greatest_right = choose (lt x y) y x (λ z. T (le y z)) (λ _. le_refl y m) (λ t. real_le y x m n (no (lt x y) t))
    where
      no : (b : Bool) → T (not b) → T b → ⊥
      no true t u = t
      no false t u = u

-- ---- by sign and size in quanta, where an infinity has the size `over`
-- nothing but the infinity above is as high, and nothing but the one below as low
highest : (s t : Bool) (a b o : ℕ) → false ≡ s → a ≡ o → 0 < o → (t ≡ false → b < o) → Le s a t b → ⊥
highest true t a b o e p O q h = false≢true e
highest false true a b o e p O q h = omega arith
highest false false a b o e p O q h = let l = q refl in omega arith

lowest : (s t : Bool) (a b o : ℕ) → true ≡ t → b ≡ o → 0 < o → a < o → Le s a t b → ⊥
lowest s false a b o e q O l h = true≢false e
lowest true true a b o e q O l h = omega arith
lowest false true a b o e q O l h = omega arith

in_order : (x y : Float) (s t : Bool) (a b : ℕ) → Quanta x s a → Quanta y t b → Le s a t b → T (le x y)
unfolding le lt eq
in_order nan y s t a b p q h = absurd p
in_order (inf u) nan s t a b p q h = absurd q
in_order (inf true) (inf true) s t a b p q h = tt
in_order (inf true) (inf false) s t a b p q h = tt
in_order (inf true) (fin v n d) s t a b p q h = tt
in_order (inf false) (inf false) s t a b p q h = tt
in_order (inf false) (inf true) s t a b p q h = absurd (highest s t a b over p.0 p.1 (lit< tt) (λ e. absurd (true≢false (q.0 ∙ e))) h)
in_order (inf false) (fin v n d) s t a b p q h = absurd (highest s t a b over p.0 p.1 (lit< tt) (λ _. q.2) h)
in_order (fin u m e) nan s t a b p q h = absurd q
in_order (fin u m e) (inf false) s t a b p q h = tt
in_order (fin u m e) (inf true) s t a b p q h = absurd (lowest s t a b over q.0 q.1 (lit< tt) p.2 h)
in_order (fin u m e) (fin v n d) s t a b p q h =
    let x = fin u m e in
    let y = fin v n d in
    value_le x y tt tt
    (≤F_trans (≈F_le (quanta_value x s a tt p)) (≤F_trans (le_ratio s t a quantum b quantum (scaled s t a b quantum h)) (≈F_ge (quanta_value y t b tt q))))

pub rounds_le : {x y : Float} {p q : Fraction} → Rounds x p → Rounds y q → p ≤F q → T (le x y)
rounds_le {x} {y} a b h = in_order x y a.sign b.sign _ _ (rounds_quanta a) (rounds_quanta b) (rounds_order a b h)

quanta_real : (x : Float) (s : Bool) (a : ℕ) → Quanta x s a → T (not (is_nan x))
unfolding is_nan
quanta_real nan s a q = absurd q
quanta_real (inf t) s a q = tt
quanta_real (fin t m e) s a q = tt

pub round_real : (s : Bool) (n c : ℕ) → T (not (is_nan (round binary64 s n c)))
round_real s n c = quanta_real (round binary64 s n c) s (rounded n c) (round_quanta s n c)

pub rounds_real : {x : Float} {p : Fraction} → Rounds x p → T (not (is_nan x))
rounds_real {x} a = quanta_real x a.sign (rounded a.top a.bottom) (rounds_quanta a)

-- ---- a step
pub le_up : (x : Float) → T (fits binary64 x) → T (not (is_nan x)) → T (le x (next_up x))
le_up nan f n = unfold is_nan in absurd n
le_up (inf true) f n = unfold next_up to_bits of_bits is_nan le lt eq in tt
le_up (inf false) f n = unfold next_up to_bits of_bits is_nan le lt eq in tt
le_up (fin s m e) f n =
    let x = fin s m e in
    let a = ranked x f tt in
    elim (le_or_lt (pos 0x7ff0_0000_0000_0000) (suc_ℤ a.rank)) [
      | inl l ↦ subst (λ (z : Float). T (le x z)) (sym (a.last l)) (unfold le lt in tt)
      | inr l ↦ value_le x (next_up x) tt (a.next l).finite (<F_le (rank_above a l))
    ]

pub down_le : (x : Float) → T (fits binary64 x) → T (not (is_nan x)) → T (le (next_down x) x)
unfolding next_down
down_le x f n =
    let z = next_up (neg x) in
    subst (λ (y : Float). T (le (neg z) y)) (neg_neg x) (neg_le (neg x) z (le_up (neg x) (neg-fits binary64 x f) (neg_real x n)))
