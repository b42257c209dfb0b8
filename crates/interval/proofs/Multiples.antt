-- Roundings in quanta, 2 ^ -1074: a multiple of 2 ^ j rounds to a multiple of 2 ^ j; and one that rounds to a number below 2 ^ 53 of them is that
-- number. Assumes nothing.
use Rattle.std.proofs.Common.{◌≡◌, ℕ, ◌+◌, ◌-◌, ◌*◌, ◌/◌, ◌^◌, ◌<◌, ◌≤◌, Bool, true, false, cond, not, ◌&&◌, T, ltb, sym, refl, ap, ◌∙◌, subst, inl, inr, le_trans, le_of_eq, lt_of_lt_of_le, lt_irrefl, mul-le-mul_right, mul_assoc, mul_comm, add-mul, eq-or-lt_of_le, mul-lt-mul_of_pos_right, one-mul, lt_of_not-le, not-le_of_lt, mul-div_cancel, arith, ltb→lt, nltb→le, pow_pos, pow_mono, pow-add, shl_lt}
use native.Mathlib.Nat.{mul-sub}
use mathlib.Core.Bool.{beq}
use lib.Ieee.{binary64, round, size}
use lib.Ieee.Digits.{size-lt}
use lib.Ieee.Exact.{HasValue, round_exact}
use lib.Ieee.Order.{kept}
use lib.Ieee.Scale.{grid}
use Rattle.interval.proofs.Pattern.{quantum, over, quanta_unique, quanta_of_value}
use Rattle.interval.proofs.Compare.{equal_tests}
use Rattle.interval.proofs.Rounding.{rounded, round_quanta, rounded_mono}

-- n is a multiple of 2 ^ j
pub record Mult (j n : ℕ) : Type 0 where
  pub times : ℕ
  pub is : n ≡ times * 2 ^ j

mult_add : {j a b : ℕ} → Mult j a → Mult j b → Mult j (a + b)
mult_add {j} {a} {b} h k = record {
  times = h.times + k.times;
  is = ap (λ (x : ℕ). x + b) h.is ∙ ap (λ (x : ℕ). h.times * 2 ^ j + x) k.is
      ∙ sym (add-mul h.times k.times (2 ^ j));
}

sub_times : (a b k : ℕ) → (a - b) * k ≡ a * k - b * k
sub_times a b k = mul_comm (a - b) k ∙ mul-sub k a b ∙ ap (λ (x : ℕ). x - k * b) (mul_comm k a) ∙ ap (λ (x : ℕ). a * k - x) (mul_comm k b)

mult_sub : {j a b : ℕ} → Mult j a → Mult j b → Mult j (a - b)
mult_sub {j} {a} {b} h k = record {
  times = h.times - k.times;
  is = ap (λ (x : ℕ). x - b) h.is ∙ ap (λ (x : ℕ). h.times * 2 ^ j - x) k.is
      ∙ sym (sub_times h.times k.times (2 ^ j));
}

pub mult_more : {i j n : ℕ} → j ≤ i → Mult i n → Mult j n
mult_more {i} {j} {n} h k = record {
  times = k.times * 2 ^ (i - j);
  is = k.is ∙ ap (λ (x : ℕ). k.times * 2 ^ x) (back i j h)
      ∙ ap (λ (x : ℕ). k.times * x) (pow-add 2 (i - j) j) ∙ sym (mul_assoc k.times (2 ^ (i - j)) (2 ^ j));
}
  where
    back : (i j : ℕ) → j ≤ i → i ≡ i - j + j
    back i j h = omega arith

-- ---- below 2 ^ 53 of them nothing is lost
whole_round : (q j : ℕ) → q < 2 ^ 53 → q * 2 ^ j < over → rounded (q * 2 ^ j) quantum ≡ q * 2 ^ j
whole_round q j h o =
    let n = q * 2 ^ j in
    let v : HasValue (round binary64 false n quantum) false n quantum = round_exact binary64 false n quantum q j (pow_pos 1074) h o refl in
    quanta_unique (round binary64 false n quantum) false false (rounded n quantum) n (round_quanta false n quantum)
    (quanta_of_value (round binary64 false n quantum) false n o v)

-- 2 ^ k, up to `over` itself
over_stays : rounded over quantum ≡ over
unfolding size
over_stays = refl

mono : (a b : ℕ) → a ≤ b → rounded a quantum ≤ rounded b quantum
mono a b h = rounded_mono a quantum b quantum (pow_pos 1074) (pow_pos 1074) (mul-le-mul_right quantum h)

power_stays : (k : ℕ) → k ≤ 2098 → rounded (2 ^ k) quantum ≡ 2 ^ k
power_stays k h = elim (eq-or-lt_of_le h) [
  | inl e ↦ ap (λ (j : ℕ). rounded (2 ^ j) quantum) e ∙ over_stays ∙ ap (λ (j : ℕ). 2 ^ j) (sym e)
  | inr l ↦ ap (λ (x : ℕ). rounded x quantum) (sym (one-mul (2 ^ k)))
      ∙ whole_round 1 k (lib.Dec.lit< tt) (subst (λ (x : ℕ). x < over) (sym (one-mul (2 ^ k))) (lib.Pow.pow-lt l)) ∙ one-mul (2 ^ k)
]

fine : (q j : ℕ) → 53 + j ≤ 2098 → q < 2 ^ 53 → q * 2 ^ j < over
fine q j J h = lt_of_lt_of_le (shl_lt 53 j h) (pow_mono J)

big : (q j : ℕ) → 2 ^ 53 ≤ q → 2 ^ (53 + j) ≤ q * 2 ^ j
big q j h = le_trans (le_of_eq (pow-add 2 53 j)) (mul-le-mul_right (2 ^ j) h)

-- ---- a multiple rounds to a multiple
grid_mult : (n j : ℕ) → 2 ^ (53 + j) ≤ n → Mult j (grid binary64 n quantum)
grid_mult n j h = mult_more (room (size (n * quantum / quantum)) j long) (record { times = kept 53 (n * quantum) quantum; is = refl })
  where
    same : n * quantum / quantum ≡ n
    same = mul-div_cancel n (pow_pos 1074)

    long : 53 + j < size (n * quantum / quantum)
    long = subst (λ (x : ℕ). 53 + j < size x) (sym same) (lt_of_not-le (λ (g : size n ≤ 53 + j). not-le_of_lt (lt_of_lt_of_le (size-lt n) (pow_mono g)) h))

    room : (z j : ℕ) → 53 + j < z → j ≤ z - 53
    room z j h = omega arith

pub mult_round : {j n : ℕ} → 53 + j ≤ 2098 → Mult j n → rounded n quantum < over → Mult j (rounded n quantum)
mult_round {j} {n} J m o = go (ltb m.times (2 ^ 53)) (ltb→lt m.times (2 ^ 53)) (nltb→le m.times (2 ^ 53))
  where
    pick : (b : Bool) (g : ℕ) → cond b g over < over → Mult j g → Mult j (cond b g over)
    pick true g h k = k
    pick false g h k = absurd (lt_irrefl over h)

    go : (b : Bool) → (T b → m.times < 2 ^ 53) → (T (not b) → 2 ^ 53 ≤ m.times) → Mult j (rounded n quantum)
    go true f g = record { times = m.times; is = ap (λ (x : ℕ). rounded x quantum) m.is ∙ whole_round m.times j (f tt) (fine m.times j J (f tt)) }
    go false f g = pick (ltb (grid binary64 n quantum) over) (grid binary64 n quantum) o
        (grid_mult n j (le_trans (big m.times j (g tt)) (le_of_eq (sym m.is))))

-- THE KEY: a multiple of 2 ^ j that rounds to a number below 2 ^ 53 times 2 ^ j was that number
pub mult_exact : {j n : ℕ} (b : ℕ) → 53 + j ≤ 2098 → Mult j n → b < 2 ^ (53 + j) → rounded n quantum ≡ b → n ≡ b
mult_exact {j} {n} b J m B e = go (ltb m.times (2 ^ 53)) (ltb→lt m.times (2 ^ 53)) (nltb→le m.times (2 ^ 53))
  where
    go : (u : Bool) → (T u → m.times < 2 ^ 53) → (T (not u) → 2 ^ 53 ≤ m.times) → n ≡ b
    go true f g = m.is ∙ sym (whole_round m.times j (f tt) (fine m.times j J (f tt))) ∙ ap (λ (x : ℕ). rounded x quantum) (sym m.is) ∙ e
    go false f g = absurd (not-le_of_lt B
        (le_trans (le_of_eq (sym (power_stays (53 + j) J)))
        (le_trans (mono (2 ^ (53 + j)) n (le_trans (big m.times j (g tt)) (le_of_eq (sym m.is)))) (le_of_eq e))))

-- ---- sums with signs: ±a ± b is ±mag
abbrev pub mag : Bool → ℕ → Bool → ℕ → ℕ
mag s a t b = cond (beq s t) (a + b) (cond (ltb a b) (b - a) (a - b))

abbrev pub sgn : Bool → ℕ → Bool → ℕ → Bool
sgn s a t b = cond (beq s t) s (cond (ltb a b) t (s && ltb b a))

pub mag_mult : {j a b : ℕ} (s t : Bool) → Mult j a → Mult j b → Mult j (mag s a t b)
mag_mult {j} {a} {b} s t h k = go (beq s t) (ltb a b)
  where
    go : (u v : Bool) → Mult j (cond u (a + b) (cond v (b - a) (a - b)))
    go true v = mult_add h k
    go false true = mult_sub k h
    go false false = mult_sub h k

-- ±c = ±a ± b, by the positive and the negative parts
abbrev pub Adds : Bool → ℕ → Bool → ℕ → Bool → ℕ → Type 0
Adds u c s a t b = cond u 0 c + (cond s a 0 + cond t b 0) ≡ cond u c 0 + (cond s 0 a + cond t 0 b)

pub mag_adds : (s : Bool) (a : ℕ) (t : Bool) (b : ℕ) → Adds (sgn s a t b) (mag s a t b) s a t b
mag_adds true a true b = omega arith
mag_adds false a false b = omega arith
mag_adds true a false b = go (ltb a b) (ltb b a) (ltb→lt a b) (nltb→le a b) (nltb→le b a)
  where
    go : (u v : Bool) → (T u → a < b) → (T (not u) → b ≤ a) → (T (not v) → a ≤ b) → Adds (cond u false (true && v)) (cond u (b - a) (a - b)) true a false b
    go true v f g k = let l = f tt in omega arith
    go false true f g k = let l = g tt in omega arith
    go false false f g k = let l = g tt in let o = k tt in omega arith
mag_adds false a true b = go (ltb a b) (ltb→lt a b) (nltb→le a b)
  where
    go : (u : Bool) → (T u → a < b) → (T (not u) → b ≤ a) → Adds (cond u true false) (cond u (b - a) (a - b)) false a true b
    go true f g = let l = f tt in omega arith
    go false f g = let l = g tt in omega arith

-- d = c − a with the sign v, and d is b: then c = a + b
pub adds_back : (u : Bool) (c : ℕ) (s : Bool) (a : ℕ) (t : Bool) (b : ℕ) (v : Bool) (d : ℕ) → Adds v d u c (not s) a → cond v 0 d ≡ cond t 0 b
    → cond v d 0 ≡ cond t b 0 → Adds u c s a t b
adds_back u c true a t b v d h p q = omega arith
adds_back u c false a t b v d h p q = omega arith

pub adds_left : (u : Bool) (c : ℕ) (s : Bool) (a : ℕ) (t : Bool) (b : ℕ) (v : Bool) (d : ℕ) → Adds v d u c (not s) a → Adds u c s a t b
    → (d ≡ b) × (cond v 0 d ≡ cond t 0 b) × (cond v d 0 ≡ cond t b 0)
adds_left u c true a true b true d h k = (omega arith, omega arith, omega arith)
adds_left u c true a true b false d h k = (omega arith, omega arith, omega arith)
adds_left u c true a false b true d h k = (omega arith, omega arith, omega arith)
adds_left u c true a false b false d h k = (omega arith, omega arith, omega arith)
adds_left u c false a true b true d h k = (omega arith, omega arith, omega arith)
adds_left u c false a true b false d h k = (omega arith, omega arith, omega arith)
adds_left u c false a false b true d h k = (omega arith, omega arith, omega arith)
adds_left u c false a false b false d h k = (omega arith, omega arith, omega arith)

pub adds_swap : (u : Bool) (c : ℕ) (s : Bool) (a : ℕ) (t : Bool) (b : ℕ) → Adds u c s a t b → Adds u c t b s a
adds_swap u c s a t b h = omega arith

-- ---- at another scale
ltb_scale : (a b k : ℕ) → 0 < k → ltb (a * k) (b * k) ≡ ltb a b
ltb_scale a b k K = equal_tests (ltb (a * k) (b * k)) (ltb a b)
    (λ t. lib.Dec.lt→ltb a b (lt_of_not-le (λ (g : b ≤ a). not-le_of_lt (ltb→lt (a * k) (b * k) t) (mul-le-mul_right k g))))
    (λ t. lib.Dec.lt→ltb (a * k) (b * k) (mul-lt-mul_of_pos_right (ltb→lt a b t) K))

pub mag_scale : (s : Bool) (a : ℕ) (t : Bool) (b k : ℕ) → 0 < k → mag s (a * k) t (b * k) ≡ mag s a t b * k
mag_scale s a t b k K = ap (λ (x : Bool). cond (beq s t) (a * k + b * k) (cond x (b * k - a * k) (a * k - b * k))) (ltb_scale a b k K)
    ∙ go (beq s t) (ltb a b)
  where
    go : (u v : Bool) → cond u (a * k + b * k) (cond v (b * k - a * k) (a * k - b * k)) ≡ cond u (a + b) (cond v (b - a) (a - b)) * k
    go true v = sym (add-mul a b k)
    go false true = sym (sub_times b a k)
    go false false = sym (sub_times a b k)

pub sgn_scale : (s : Bool) (a : ℕ) (t : Bool) (b k : ℕ) → 0 < k → sgn s (a * k) t (b * k) ≡ sgn s a t b
sgn_scale s a t b k K =
    ap (λ (x : Bool). cond (beq s t) s (cond x t (s && ltb (b * k) (a * k)))) (ltb_scale a b k K)
    ∙ ap (λ (x : Bool). cond (beq s t) s (cond (ltb a b) t (s && x))) (ltb_scale b a k K)
