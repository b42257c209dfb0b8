-- The doubles in order. Each finite double has a rank, its place counted from zero, upward above zero and downward below; both zeros have
-- the rank 0. Values grow with the rank, and `next_up` goes to the next rank: so it is "the next double above", and where there is none, the
-- infinity. `next_down` is the same of the opposite doubles. Assumes nothing.
use Rattle.std.proofs.Common.{◌≡◌, ℕ, zero, suc, ◌+◌, ◌-◌, ◌<◌, Bool, true, false, not, T, eqb, ltb, ℤ, pos, negsuc, neg_ℤ, ◌≤ℤ◌, ◌<ℤ◌, sym, refl, ap, ◌∙◌, subst, inl, inr, le_of_lt, zero-lt-suc, add-one, arith, lit<, ltb→lt, lt→ltb, pow_pos}
use lib.IntN.{suc_ℤ}
use lib.Signed.{lt_z_yes, ≤ℤ_refl}
use lib.Ieee.{Float, inf, binary64, neg, fits, is_nan, to_bits, of_bits}
use lib.Ieee.Bits.{of_bits-fits}
use lib.Ieee.Fits.{cond-fits, neg-fits}
use lib.Ieee.Scale.{finite}
use Rattle.exact.specs.Fraction.{ratio, ◌≤F◌, ◌<F◌, ◌≈F◌}
use Rattle.exact.proofs.IntegerOrder.{zarith, ≤ℤ_antisym, ≤ℤ-<ℤ_trans, <ℤ_le, le_or_lt, negation_parts}
use Rattle.exact.proofs.Fraction.{≤F_trans, ≤F-<F_trans, <F-≤F_trans, <F_irrefl, ≈F_le, ≈F_ge, ≈F_sym, ≈F_trans}
use Rattle.exact.proofs.Fraction.{neg_lt, neg_mono_f, neg_neg_f, same_den_le, same_den_lt, lt_same_den}
use Rattle.interval.specs.Step.{b64, next_up, next_down}
use Rattle.interval.specs.Encloses.{signed, value}
use Rattle.interval.proofs.Pattern.{quantum, Quanta, val, val_lt, val_mono, with_sign, bits_quanta, finite_pattern, finite_real}
use Rattle.interval.proofs.Rounding.{quanta_value, quanta_finite}
use Rattle.interval.proofs.NextBits.{up_away, up_toward}
use Rattle.interval.proofs.Small.{finite_neg, value_neg}

-- the value of the rank r, in quanta
abbrev quanta_at : ℤ → ℤ
quanta_at (pos b) = pos (val b)
quanta_at (negsuc b) = neg_ℤ (pos (val (suc b)))

at_mono : {r t : ℤ} → r <ℤ t → quanta_at r <ℤ quanta_at t
at_mono {r = pos b} {t = pos c} h = lt_z_yes (lt→ltb (val b) (val c) (val_mono b c (ltb→lt b c h.lt)))
at_mono {r = pos b} {t = negsuc c} h = absurd h.lt
at_mono {r = negsuc b} {t = pos c} h = below (val 0) (val (suc b)) (val c) (val_mono 0 (suc b) (zero-lt-suc b))
  where
    below : (z a c : ℕ) → z < a → neg_ℤ (pos a) <ℤ pos c
    below z a c h = omega (zarith, negation_parts (pos a))
at_mono {r = negsuc b} {t = negsuc c} h = flip (val (suc c)) (val (suc b)) (val_mono (suc c) (suc b) (up c b (ltb→lt c b h.lt)))
  where
    up : (c b : ℕ) → c < b → suc c < suc b
    up c b h = omega arith

    flip : (a b : ℕ) → a < b → neg_ℤ (pos b) <ℤ neg_ℤ (pos a)
    flip a b h = omega (zarith, negation_parts (pos a), negation_parts (pos b))

at_weak : {r t : ℤ} → r ≤ℤ t → quanta_at r ≤ℤ quanta_at t
at_weak {r} {t} h = elim (le_or_lt t r) [
  | inl l ↦ subst (λ (u : ℤ). quanta_at r ≤ℤ quanta_at u) (≤ℤ_antisym h l) (≤ℤ_refl (quanta_at r))
  | inr l ↦ <ℤ_le (at_mono l)
]

at_back : {r t : ℤ} → quanta_at r <ℤ quanta_at t → r <ℤ t
at_back {r} {t} h = elim (le_or_lt t r) [ inl l ↦ absurd (clash h (at_weak l)) | inr l ↦ l ]
  where
    clash : quanta_at r <ℤ quanta_at t → quanta_at t ≤ℤ quanta_at r → ⊥
    clash h k = omega zarith

-- ---- x is the double of the rank r
pub record At (x : Float) (r : ℤ) : Type 0 where
  pub finite : T (finite x)
  pub same : value x ≈F ratio (quanta_at r) quantum (pow_pos 1074)

at_of : (x : Float) (s : Bool) (b : ℕ) {r : ℤ} → b < 0x7ff0_0000_0000_0000 → Quanta x s (val b) → signed s (val b) ≡ quanta_at r → At x r
at_of x s b h q e =
    let f = quanta_finite x s (val b) (val_lt b h) q in
    record { finite = f; same = subst (λ (z : ℤ). value x ≈F ratio z quantum (pow_pos 1074)) e (quanta_value x s (val b) f q) }

-- the double above the one of the rank r, by its bits
abbrev bits_above : ℤ → Float
bits_above (pos b) = of_bits binary64 (with_sign false (b + 1))
bits_above (negsuc b) = of_bits binary64 (with_sign true b)

-- a double's rank, and that of the next double above, whose bits follow from it; above the last rank stands the infinity
pub record Ranked (x : Float) : Type 0 where
  pub rank : ℤ
  pub here : At x rank
  pub cap : rank <ℤ pos 0x7ff0_0000_0000_0000
  pub next : suc_ℤ rank <ℤ pos 0x7ff0_0000_0000_0000 → At (next_up x) (suc_ℤ rank)
  pub last : pos 0x7ff0_0000_0000_0000 ≤ℤ suc_ℤ rank → next_up x ≡ inf false
  pub up : next_up x ≡ bits_above rank

pattern_of_infinity : of_bits binary64 0x7ff0_0000_0000_0000 ≡ inf false
unfolding of_bits
pattern_of_infinity = refl

pub ranked : (x : Float) → T (fits binary64 x) → T (finite x) → Ranked x
ranked x h f = let w = finite_pattern x h f in go w.0 w.1 w.2 w.3 w.4
  where
    n : T (not (is_nan x))
    n = finite_real x f

    by_bits : (y : Float) (s : Bool) (b : ℕ) {r : ℤ} → b < 0x7ff0_0000_0000_0000 → y ≡ of_bits binary64 (with_sign s b) → signed s (val b) ≡ quanta_at r → At y r
    by_bits y s b h e q = at_of y s b h (subst (λ (v : Float). Quanta v s (val b)) (sym e) (bits_quanta s b (le_of_lt h))) q

    full : (b : ℕ) → b < 0x7ff0_0000_0000_0000 → pos 0x7ff0_0000_0000_0000 ≤ℤ pos (suc b) → 0 + (b + 1) ≡ 0x7ff0_0000_0000_0000
    full b h k = omega zarith

    less : (b : ℕ) → suc b < 0x7ff0_0000_0000_0000 → b < 0x7ff0_0000_0000_0000
    less b h = omega arith

    go : (s : Bool) (b : ℕ) → b < 0x7ff0_0000_0000_0000 → Quanta x s (val b) → to_bits binary64 x ≡ with_sign s b → Ranked x
    go false b l q e = record {
      rank = pos b;
      here = at_of x false b l q refl;
      cap = lt_z_yes (lt→ltb b 0x7ff0_0000_0000_0000 l);
      next = λ k. by_bits (next_up x) false (suc b) (ltb→lt (suc b) 0x7ff0_0000_0000_0000 k.lt)
          (up_away x false b n e l tt ∙ ap (λ (j : ℕ). of_bits binary64 (with_sign false j)) (add-one b)) refl;
      last = λ k. up_away x false b n e l tt ∙ ap (of_bits binary64) (full b l k) ∙ pattern_of_infinity;
      up = up_away x false b n e l tt;
    }
    go true zero l q e = record {
      rank = pos 0;
      here = at_of x true 0 l q refl;
      cap = lt_z_yes tt;
      next = λ k. by_bits (next_up x) false 1 (lit< tt) (up_away x true 0 n e l refl) refl;
      last = λ k. absurd k.le;
      up = up_away x true 0 n e l refl;
    }
    go true (suc zero) l q e = record {
      rank = negsuc 0;
      here = at_of x true 1 l q refl;
      cap = lt_z_yes tt;
      next = λ k. by_bits (next_up x) true 0 (lit< tt) (up_toward x 0 n e) refl;
      last = λ k. absurd k.le;
      up = up_toward x 0 n e;
    }
    go true (suc (suc b)) l q e = record {
      rank = negsuc (suc b);
      here = at_of x true (suc (suc b)) l q refl;
      cap = lt_z_yes tt;
      next = λ k. by_bits (next_up x) true (suc b) (less (suc b) l) (up_toward x (suc b) n e) refl;
      last = λ k. absurd k.le;
      up = up_toward x (suc b) n e;
    }

below_suc : (r : ℤ) → r <ℤ suc_ℤ r
below_suc (pos b) = omega zarith
below_suc (negsuc zero) = omega zarith
below_suc (negsuc (suc b)) = omega zarith

-- the next rank is above
pub rank_above : {x : Float} (a : Ranked x) → (l : suc_ℤ a.rank <ℤ pos 0x7ff0_0000_0000_0000) → value x <F value (next_up x)
rank_above a l =
    ≤F-<F_trans (≈F_le a.here.same) (<F-≤F_trans (same_den_lt (at_mono (below_suc a.rank))) (≈F_ge (a.next l).same))

-- ---- "the next double above": it is above x, and no double lies between
pub record Next (x y z : Float) : Type 0 where
  pub finite : T (finite z)
  pub above : value x <F value z
  pub least : value z ≤F value y

pub next_above : (x y : Float) → T (fits binary64 x) → T (fits binary64 y) → T (finite x) → T (finite y) → value x <F value y → Next x y (next_up x)
next_above x y hx hy fx fy h =
    let a = ranked x hx fx in
    let b = ranked y hy fy in
    let l : a.rank <ℤ b.rank = at_back (lt_same_den (≤F-<F_trans (≈F_ge a.here.same) (<F-≤F_trans h (≈F_le b.here.same)))) in
    let k = suc_le l in
    let under = ≤ℤ-<ℤ_trans k b.cap in
    record {
      finite = (a.next under).finite;
      above = rank_above a under;
      least = ≤F_trans (≈F_le (a.next under).same) (≤F_trans (same_den_le (at_weak k)) (≈F_ge b.here.same));
    }
  where
    suc_le : {r t : ℤ} → r <ℤ t → suc_ℤ r ≤ℤ t
    suc_le {r = pos b} {t} h = omega zarith
    suc_le {r = negsuc zero} {t} h = omega zarith
    suc_le {r = negsuc (suc b)} {t} h = omega zarith

pub up_fits : (x : Float) → T (fits binary64 x) → T (fits binary64 (next_up x))
unfolding next_up
up_fits x h =
    let n = to_bits binary64 x in
    cond-fits binary64 (is_nan x) x _ h
    (cond-fits binary64 (eqb n 0x7ff0_0000_0000_0000) x _ h
    (cond-fits binary64 (eqb n 0) (b64 1) _ (of_bits-fits binary64 1)
    (cond-fits binary64 (eqb n 0x8000_0000_0000_0000) (b64 1) _ (of_bits-fits binary64 1)
    (cond-fits binary64 (ltb n 0x8000_0000_0000_0000) (b64 (n + 1)) (b64 (n - 1)) (of_bits-fits binary64 (n + 1)) (of_bits-fits binary64 (n - 1))))))

-- ---- doubles of one value, the two zeros among them, have one double above
pub up_same : (x y : Float) → T (fits binary64 x) → T (fits binary64 y) → T (finite x) → T (finite y) → value x ≈F value y → next_up x ≡ next_up y
up_same x y hx hy fx fy e =
    let a = ranked x hx fx in
    let b = ranked y hy fy in
    a.up ∙ ap bits_above (one_rank a.rank b.rank (≈F_trans (≈F_sym a.here.same) (≈F_trans e b.here.same))) ∙ sym b.up
  where
    one_rank : (r t : ℤ) → ratio (quanta_at r) quantum (pow_pos 1074) ≈F ratio (quanta_at t) quantum (pow_pos 1074) → r ≡ t
    one_rank r t q = elim (le_or_lt r t) [
      | inr l ↦ absurd (<F_irrefl (same_den_lt (at_mono l)) (≈F_le q))
      | inl h ↦ elim (le_or_lt t r) [ inl k ↦ ≤ℤ_antisym h k | inr l ↦ absurd (<F_irrefl (same_den_lt (at_mono l)) (≈F_ge q)) ]
    ]

-- ---- the greatest double: where no double is above x, the next above is the infinity
abbrev Greatest : Float → Type 0
Greatest x = (y : Float) → T (fits binary64 y) → T (finite y) → value y ≤F value x

pub next_above_greatest : (x : Float) → T (fits binary64 x) → T (finite x) → Greatest x → next_up x ≡ inf false
next_above_greatest x h f top =
    let a = ranked x h f in
    elim (le_or_lt (pos 0x7ff0_0000_0000_0000) (suc_ℤ a.rank)) [
      | inl l ↦ a.last l
      | inr l ↦ absurd (<F_irrefl (rank_above a l) (top (next_up x) (up_fits x h) (a.next l).finite))
    ]

-- ---- "the next double below": it is below x, and no double lies between
pub record Previous (x y z : Float) : Type 0 where
  pub finite : T (finite z)
  pub below : value z <F value x
  pub greatest : value y ≤F value z

pub next_below : (x y : Float) → T (fits binary64 x) → T (fits binary64 y) → T (finite x) → T (finite y) → value y <F value x → Previous x y (next_down x)
unfolding next_down
next_below x y hx hy fx fy h =
    let z = next_up (neg x) in
    let opposite : value (neg x) <F value (neg y) = ≤F-<F_trans (≈F_le (value_neg x)) (<F-≤F_trans (neg_lt h) (≈F_ge (value_neg y))) in
    let n = next_above (neg x) (neg y) (neg-fits binary64 x hx) (neg-fits binary64 y hy) (finite_neg x fx) (finite_neg y fy) opposite in
    record {
      finite = finite_neg z n.finite;
      below = ≤F-<F_trans (≈F_le (value_neg z)) (<F-≤F_trans (neg_lt (≤F-<F_trans (≈F_ge (value_neg x)) n.above)) (≈F_le (neg_neg_f (value x))));
      greatest = ≤F_trans (≈F_ge (neg_neg_f (value y))) (≤F_trans (neg_mono_f (≤F_trans n.least (≈F_le (value_neg y)))) (≈F_ge (value_neg z)));
    }
