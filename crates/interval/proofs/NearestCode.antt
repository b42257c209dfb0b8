-- One IEEE division of two whole numbers up to 2 ^ 53 is one rounding of their fraction. Assumes nothing.
use Rattle.std.proofs.Common.{◌≡◌, ℕ, suc, ◌*◌, ◌^◌, ◌<◌, ◌≤◌, Bool, true, false, cond, not, T, eqb, ℤ, pos, negsuc, nat_abs, sym, refl, ap, ◌∙◌, subst, true≢false, lt_irrefl, mul_assoc, mul_comm, mul-pos, zero-mul, mul-one, mul_left_comm, eqb→eq}
use lib.Dec.{not_T}
use lib.Ieee.{Float, nan, inf, fin, binary64, round, of_int, div, up, down, unlike}
use lib.Ieee.Fits.{down_pos}
use lib.Ieee.Bits.{cond_no}
use lib.Ieee.Back.{round_whole}
use lib.Ieee.Exact.{HasValue}
use lib.Ieee.Scale.{round_same}
use Rattle.interval.specs.Nearest.{nearest}

unlike_false : (s : Bool) → unlike s false ≡ s
unlike_false true = refl
unlike_false false = refl

pos→neqb : (n u : ℕ) → 0 < n * u → T (not (eqb n 0))
pos→neqb n u h = not_T (eqb n 0) (λ t. lt_irrefl 0 (subst (λ (k : ℕ). 0 < k) (ap (λ (k : ℕ). k * u) (eqb→eq n 0 t) ∙ zero-mul u) h))

ac : (a b c d : ℕ) → a * b * c * d ≡ a * (d * c * b)
ac a b c d = simp (mul_assoc, mul_comm, mul_left_comm)

pub div_at : (x y : Float) (s : Bool) (a d : ℕ) → 0 < d → HasValue x s a 1 → HasValue y false d 1 → div binary64 x y ≡ round binary64 s a d
unfolding div
div_at nan y s a d D h k = absurd h
div_at (inf t) y s a d D h k = absurd h
div_at (fin t m e) nan s a d D h k = absurd k
div_at (fin t m e) (inf u) s a d D h k = absurd k
div_at (fin t m e) (fin true n j) s a d D h k = absurd (true≢false k.0)
div_at (fin t m e) (fin false n j) s a d D h k =
    let M : m * up e ≡ a * down e = sym (mul-one (m * up e)) ∙ h.1 in
    let B : n * up j ≡ d * down j = sym (mul-one (n * up j)) ∙ k.1 in
    let BP : 0 < n * up j = subst (λ (z : ℕ). 0 < z) (sym B) (mul-pos D (down_pos j)) in
    cond_no (eqb n 0) (cond (eqb m 0) nan (inf (unlike t false))) (round binary64 (unlike t false) (m * up e * down j) (n * up j * down e)) (pos→neqb n (up j) BP)
    ∙ ap (λ (u : Bool). round binary64 u (m * up e * down j) (n * up j * down e)) (unlike_false t ∙ h.0)
    ∙ round_same binary64 s (m * up e * down j) (n * up j * down e) a d (mul-pos BP (down_pos e)) D
    (ap (λ (z : ℕ). z * down j * d) M ∙ ac a (down e) (down j) d ∙ ap (λ (z : ℕ). a * (z * down e)) (sym B))

pub quotient_is : (z : ℤ) (d : ℕ) → nat_abs z ≤ 2 ^ 53 → 0 < d → d ≤ 2 ^ 53 → div binary64 (of_int binary64 z) (of_int binary64 (pos d)) ≡ nearest z d
unfolding of_int
quotient_is (pos n) d h D k = div_at (round binary64 false n 1) (round binary64 false d 1) false n d D (round_whole binary64 false n h) (round_whole binary64 false d k)
quotient_is (negsuc n) d h D k = div_at (round binary64 true (suc n) 1) (round binary64 false d 1) true (suc n) d D (round_whole binary64 true (suc n) h) (round_whole binary64 false d k)

pub whole_is : (z : ℤ) → of_int binary64 z ≡ nearest z 1
unfolding of_int
whole_is (pos n) = refl
whole_is (negsuc n) = refl
