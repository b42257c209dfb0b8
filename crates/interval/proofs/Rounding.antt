-- One rounding, over fractions: it is monotone, and a double rounds to itself. This is all that the outward step rests on, beside the
-- doubles' order (Rank). Assumes nothing.
use Rattle.std.proofs.Common.{◌≡◌, ℕ, zero, suc, ◌*◌, ◌/◌, ◌%◌, ◌^◌, ◌<◌, ◌≤◌, Bool, true, false, cond, not, ◌&&◌, ◌||◌, T, eqb, ltb, ◌⊎◌, pos, ◌*ℤ◌, sym, refl, ap, ◌∙◌, subst, inl, inr, true≢false, le_of_eq, lt_of_lt_of_le, le_of_lt, lt_irrefl, mul-le-mul_right, zero-lt-suc, mul-pos, le_of_mul-le-mul_right, arith, lit<, eqb→eq, ltb→lt, pow_pos}
use lib.Ieee.{Float, nan, inf, fin, binary64, round, units, odd, size, neg, up, down, le, fits}
use lib.Ieee.Fits.{round_is, round-fits, down_pos, and_l}
use lib.Ieee.Exact.{HasValue, odd_sign, round_exact}
use lib.Ieee.Order.{transfer, round_mono, kept, drop}
use lib.Ieee.Scale.{finite, grid}
use Rattle.exact.specs.Fraction.{Fraction, ratio, ◌≤F◌, ◌≈F◌}
use Rattle.exact.proofs.Fraction.{≤F_trans, ≈F_le, ≈F_ge, ≈F_sym, ≈F_trans}
use Rattle.interval.specs.Encloses.{signed, value}
use Rattle.interval.proofs.Signs.{Le, signed_times, le_ratio, ratio_le}
use Rattle.interval.proofs.Pattern.{quantum, over, Quanta, quanta_of_value, quanta_unique, val, val_lt, val_exact, digits, shift, finite_pattern}

-- ---- the size of a rounded fraction, in quanta
abbrev pub rounded : ℕ → ℕ → ℕ
rounded n c = cond (ltb (grid binary64 n c) over) (grid binary64 n c) over

units_quanta : (s : Bool) (q k : ℕ) → Quanta (units binary64 s q k) s (cond (ltb (q * 2 ^ k) over) (q * 2 ^ k) over)
unfolding units
units_quanta s q k = go (ltb (q * 2 ^ k) over) (ltb→lt (q * 2 ^ k) over)
  where
    go : (b : Bool) → (T b → q * 2 ^ k < over) → Quanta (cond b (odd 54 s q k 1074) (inf s)) s (cond b (q * 2 ^ k) over)
    go true h = quanta_of_value (odd 54 s q k 1074) s (q * 2 ^ k) (h tt) (odd_sign 54 s q k 1074)
    go false h = (refl, refl)

pub round_quanta : (s : Bool) (n c : ℕ) → Quanta (round binary64 s n c) s (rounded n c)
round_quanta s n c =
    subst (λ (v : Float). Quanta v s (rounded n c)) (sym (round_is binary64 s n c)) (units_quanta s (kept 53 (n * quantum) c) (drop 53 (n * quantum) c))

-- ---- the order of two values that are not negative
or_split : (a b : Bool) → T (a || b) → T a ⊎ T b
or_split true b t = inl tt
or_split false b t = inr t

lt_or_eq : (a b : ℕ) → T (ltb a b || (eqb a b && true)) → a ≤ b
lt_or_eq a b t = elim (or_split (ltb a b) (eqb a b && true) t) [ inl u ↦ le_of_lt (ltb→lt a b u) | inr u ↦ le_of_eq (eqb→eq a b (and_l (eqb a b) true u)) ]

-- x / dx and y / dy in quanta
pub quanta_le : (x dx y dy a b : ℕ) → 0 < dx → 0 < dy → x * quantum ≡ a * dx → y * quantum ≡ b * dy → x * dy ≤ y * dx → a ≤ b
quanta_le x dx y dy a b X Y p q h = le_of_mul-le-mul_right (transfer a b quantum quantum x y dx dy X Y (sym p) (sym q) h) (pow_pos 1074)

le_quanta : (x y : Float) (a b : ℕ) → Quanta x false a → Quanta y false b → T (le x y) → a ≤ b
unfolding le
le_quanta nan y a b p q h = absurd p
le_quanta (inf s) nan a b p q h = absurd q
le_quanta (inf s) (inf t) a b p q h = le_of_eq (p.1 ∙ sym q.1)
le_quanta (inf true) (fin t n d) a b p q h = absurd (true≢false p.0)
le_quanta (inf false) (fin t n d) a b p q h = absurd h
le_quanta (fin s m e) nan a b p q h = absurd q
le_quanta (fin s m e) (inf t) a b p q h = le_of_lt (lt_of_lt_of_le p.2 (le_of_eq (sym q.1)))
le_quanta (fin true m e) (fin t n d) a b p q h = absurd (true≢false p.0)
le_quanta (fin false m e) (fin true n d) a b p q h = absurd (true≢false q.0)
le_quanta (fin false m e) (fin false n d) a b p q h = quanta_le (m * up e) (down e) (n * up d) (down d) a b (down_pos e) (down_pos d) p.1 q.1 (lt_or_eq (m * up e * down d) (n * up d * down e) h)

pub rounded_mono : (a b c d : ℕ) → 0 < b → 0 < d → a * d ≤ c * b → rounded a b ≤ rounded c d
rounded_mono a b c d B D h =
    le_quanta (round binary64 false a b) (round binary64 false c d) (rounded a b) (rounded c d) (round_quanta false a b) (round_quanta false c d) (round_mono binary64 a b c d B D h)

-- ---- a value of the format rounds to itself
pub rounded_val : (b : ℕ) → b < 0x7ff0_0000_0000_0000 → rounded (val b) quantum ≡ val b
rounded_val b h =
    let x = b / 0x10_0000_0000_0000 in
    let v : HasValue (round binary64 false (val b) quantum) false (val b) quantum =
    round_exact binary64 false (val b) quantum (digits x (b % 0x10_0000_0000_0000)) (shift x) (pow_pos 1074) (val_exact b h) (val_lt b h) refl in
    quanta_unique (round binary64 false (val b) quantum) false false (rounded (val b) quantum) (val b) (round_quanta false (val b) quantum) (quanta_of_value (round binary64 false (val b) quantum) false (val b) (val_lt b h) v)

-- ---- quanta and the value
pub quanta_value : (x : Float) (s : Bool) (a : ℕ) → T (finite x) → Quanta x s a → value x ≈F ratio (signed s a) quantum (pow_pos 1074)
quanta_value nan s a f p = absurd f
quanta_value (inf t) s a f p = absurd f
quanta_value (fin t m e) s a f p = record { eq = ap (λ (u : Bool). signed u (m * up e) *ℤ pos quantum) p.0 ∙ signed_times s (m * up e) quantum ∙ ap (signed s) p.1 ∙ sym (signed_times s a (down e)) }

pub quanta_finite : (x : Float) (s : Bool) (a : ℕ) → a < over → Quanta x s a → T (finite x)
quanta_finite nan s a h p = absurd p
quanta_finite (inf t) s a h p = absurd (lt_irrefl over (subst (λ (k : ℕ). k < over) p.1 h))
quanta_finite (fin t m e) s a h p = tt

-- ---- x is the fraction q, rounded once
pub record Rounds (x : Float) (q : Fraction) : Type 0 where
  pub sign : Bool
  pub top : ℕ
  pub bottom : ℕ
  pub bottom_pos : 0 < bottom
  pub is : x ≡ round binary64 sign top bottom
  pub same : ratio (signed sign top) bottom bottom_pos ≈F q

pub rounds_fits : {x : Float} {q : Fraction} → Rounds x q → T (fits binary64 x)
rounds_fits r = subst (λ (v : Float). T (fits binary64 v)) (sym r.is) (round-fits binary64 r.sign r.top r.bottom)

pub rounds_quanta : {x : Float} {q : Fraction} (r : Rounds x q) → Quanta x r.sign (rounded r.top r.bottom)
rounds_quanta r = subst (λ (v : Float). Quanta v r.sign (rounded r.top r.bottom)) (sym r.is) (round_quanta r.sign r.top r.bottom)

rounded_zero : (k c : ℕ) → 0 < c → k ≡ 0 → rounded k c ≡ 0
unfolding size
rounded_zero k c C e = none (rounded k c) (subst (λ (j : ℕ). rounded j c ≤ 0) (sym e) (rounded_mono 0 c 0 1 C (lit< tt) (le_of_eq (zeros c))))
  where
    zeros : (c : ℕ) → 0 * 1 ≡ 0 * c
    zeros c = omega arith

    none : (a : ℕ) → a ≤ 0 → a ≡ 0
    none a h = omega arith

-- the order of ±k / c and ±l / d is that of ±A and ±B, where A and B grow with them and are 0 with them
module _ (k c l d A B : ℕ) (C : 0 < c) (D : 0 < d) (up : k * d ≤ l * c → A ≤ B) (down : l * c ≤ k * d → B ≤ A) (none : k ≡ 0 → A ≡ 0) (none' : l ≡ 0 → B ≡ 0) where
  no_top : (k d : ℕ) → 0 < d → k * d ≡ 0 → k ≡ 0
  no_top zero d D e = refl
  no_top (suc k) d D e = absurd (lt_irrefl 0 (subst (λ (j : ℕ). 0 < j) e (mul-pos (zero-lt-suc k) D)))

  order_kept : (s t : Bool) → Le s (k * d) t (l * c) → Le s A t B
  order_kept false false g = let r = up (omega arith) in omega arith
  order_kept true true g = let r = down (omega arith) in omega arith
  order_kept true false g = omega arith
  order_kept false true g =
      let a = none (no_top k d D (omega arith)) in
      let b = none' (no_top l c C (omega arith)) in
      omega arith

pub scaled : (s t : Bool) (A B Q : ℕ) → Le s A t B → Le s (A * Q) t (B * Q)
scaled false false A B Q h = let r = mul-le-mul_right Q h in omega arith
scaled true true A B Q h = let r = mul-le-mul_right Q h in omega arith
scaled true false A B Q h = omega arith
scaled false true A B Q h = let r = mul-le-mul_right Q h in omega arith

-- "rounding is monotone", by sign and size in quanta
pub rounds_order : {x y : Float} {p q : Fraction} (a : Rounds x p) (b : Rounds y q) → p ≤F q
    → Le a.sign (rounded a.top a.bottom) b.sign (rounded b.top b.bottom)
rounds_order {x} {y} {p} {q} a b h =
    let k = a.top in
    let c = a.bottom in
    let l = b.top in
    let d = b.bottom in
    let C = a.bottom_pos in
    let D = b.bottom_pos in
    order_kept k c l d (rounded k c) (rounded l d) C D (rounded_mono k c l d C D) (rounded_mono l d k c D C) (rounded_zero k c C) (rounded_zero l d D)
    a.sign b.sign (ratio_le a.sign b.sign k c l d (≤F_trans (≈F_le a.same) (≤F_trans h (≈F_ge b.same))))

-- and as fractions
pub rounds_mono : {x y : Float} {p q : Fraction} → Rounds x p → Rounds y q → T (finite x) → T (finite y) → p ≤F q → value x ≤F value y
rounds_mono {x} {y} {p} {q} a b fx fy h =
    let A = rounded a.top a.bottom in
    let B = rounded b.top b.bottom in
    ≤F_trans (≈F_le (quanta_value x a.sign A fx (rounds_quanta a)))
    (≤F_trans (le_ratio a.sign b.sign A quantum B quantum (scaled a.sign b.sign A B quantum (rounds_order a b h)))
    (≈F_ge (quanta_value y b.sign B fy (rounds_quanta b))))

-- "every double rounds to itself", as a number
pub record Kept (x : Float) : Type 0 where
  pub to : Float
  pub rounds : Rounds to (value x)
  pub finite : T (finite to)
  pub same : value to ≈F value x

pub kept_value : (x : Float) → T (fits binary64 x) → T (finite x) → Kept x
kept_value x h f =
    let w = finite_pattern x h f in
    let s = w.0 in
    let b = w.1 in
    let z = round binary64 s (val b) quantum in
    let v = quanta_value x s (val b) f w.3 in
    let r : Quanta z s (val b) = subst (λ (a : ℕ). Quanta z s a) (rounded_val b w.2) (round_quanta s (val b) quantum) in
    let g = quanta_finite z s (val b) (val_lt b w.2) r in
    record {
      to = z;
      rounds = record { sign = s; top = val b; bottom = quantum; bottom_pos = pow_pos 1074; is = refl; same = ≈F_sym v };
      finite = g;
      same = ≈F_trans (quanta_value z s (val b) g r) (≈F_sym v);
    }

-- ---- the sign goes through
pub odd_neg : (d : ℕ) (s : Bool) (q k l : ℕ) → neg (odd d s q k l) ≡ odd d (not s) q k l
unfolding neg odd
odd_neg d s zero k l = refl
odd_neg d s (suc q) k l = refl

units_neg : (s : Bool) (q k : ℕ) → neg (units binary64 s q k) ≡ units binary64 (not s) q k
unfolding units neg
units_neg s q k = pick (ltb (q * 2 ^ k) over)
  where
    pick : (b : Bool) → neg (cond b (odd 54 s q k 1074) (inf s)) ≡ cond b (odd 54 (not s) q k 1074) (inf (not s))
    pick true = odd_neg 54 s q k 1074
    pick false = refl

pub round_neg : (s : Bool) (n c : ℕ) → neg (round binary64 s n c) ≡ round binary64 (not s) n c
round_neg s n c = ap neg (round_is binary64 s n c) ∙ units_neg s (kept 53 (n * quantum) c) (drop 53 (n * quantum) c) ∙ sym (round_is binary64 (not s) n c)
