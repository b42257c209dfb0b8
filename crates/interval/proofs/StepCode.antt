-- The steps as code makes them: one sum on the bit pattern, by the sign that a test has told. Nothing on the way leaves its range, no
-- pattern is a NaN's, and the result is the next double. Assumes nothing.
use Rattle.std.proofs.Common.{◌≡◌, ℕ, suc, ◌+◌, ◌-◌, ◌*◌, ◌%◌, ◌^◌, ◌<◌, ◌≤◌, Bool, true, false, cond, not, ◌||◌, T, ltb, ℤ, sym, refl, ap, ◌∙◌, subst, inl, inr, true≢false, le_of_eq, lt_of_lt_of_le, le_of_lt, mul-le-mul_right, eq-or-lt_of_le, mul-pos, arith, lit<, lt→ltb, pow_pos}
use lib.Ieee.{Float, nan, inf, fin, binary64, lt, le, eq, fits, is_nan, nan_bits, to_bits, of_bits, up, down}
use lib.Ieee.Bits.{is_true, of_bits-to_bits}
use lib.Ieee.Fits.{down_pos}
use lib.Ieee.Order.{le_of_values}
use lib.Ieee.Scale.{finite}
use Rattle.std.specs.Int.{from_bool}
use Rattle.interval.specs.declared.Interval.{Interval}
use Rattle.interval.specs.Step.{b64, next_up, next_down}
use Rattle.interval.specs.Interval.{outward}
use Rattle.interval.proofs.Pattern.{quantum, Quanta, val, val_mono, bits_value, with_sign, Pattern, has_pattern, bits_lt, bits_cap, no_nan_bits}
use Rattle.interval.proofs.Pattern.{below_infinity}
use Rattle.interval.proofs.NextBits.{up_away, up_toward, down_away, down_toward}
use Rattle.interval.proofs.SignTests.{largest, lowest, above_zero, below_zero, up_to_largest, down_to_lowest, above_room, below_room}

-- y is the next double after x, by the pattern m; `room` is what the sum on the way asks
pub record Moved (x y : Float) (m : ℕ) (room : Type 0) : Type 0 where
  pub real : T (not (is_nan x))
  pub fits : room
  pub good : T (not (nan_bits binary64 m))
  pub next : y ≡ of_bits binary64 m

-- ---- the sums, on the pattern n of the sign s and the size's pattern b
-- one less
fall : (s : Bool) (n b : ℕ) → suc b ≤ 0x7ff0_0000_0000_0000 → n ≡ with_sign s (suc b) → (1 ≤ n) × ((n - 1) % 0x8000_0000_0000_0000 ≤ 0x7ff0_0000_0000_0000) × (with_sign s b ≡ n - 1)
fall true n b h e = (omega arith, omega arith, omega arith)
fall false n b h e = (omega arith, omega arith, omega arith)

-- one more
rise : (s : Bool) (n b : ℕ) → b < 0x7ff0_0000_0000_0000 → n ≡ with_sign s b → (n + 1 < 0x1_0000_0000_0000_0000) × ((n + 1) % 0x8000_0000_0000_0000 ≤ 0x7ff0_0000_0000_0000) × (with_sign s (b + 1) ≡ n + 1)
rise true n b h e = (omega arith, omega arith, omega arith)
rise false n b h e = (omega arith, omega arith, omega arith)

-- one more, with the sign t in place of s
abbrev turned : Bool → ℕ → ℕ
turned t n = n % 0x8000_0000_0000_0000 + cond t 0x8000_0000_0000_0001 1

turn : (s t : Bool) (n b : ℕ) → b < 0x7ff0_0000_0000_0000 → n ≡ with_sign s b → (turned t n < 0x1_0000_0000_0000_0000) × (turned t n % 0x8000_0000_0000_0000 ≤ 0x7ff0_0000_0000_0000) × (with_sign t (b + 1) ≡ turned t n)
turn true true n b h e = (omega arith, omega arith, omega arith)
turn true false n b h e = (omega arith, omega arith, omega arith)
turn false true n b h e = (omega arith, omega arith, omega arith)
turn false false n b h e = (omega arith, omega arith, omega arith)

-- what the sum shows, put together
moved : {x y : Float} {m k : ℕ} {room : Type 0} → T (not (is_nan x)) → room × (m % 0x8000_0000_0000_0000 ≤ 0x7ff0_0000_0000_0000) × (k ≡ m) → y ≡ of_bits binary64 k → Moved x y m room
moved {m} n q e = record { real = n; fits = q.0; good = no_nan_bits m q.1; next = e ∙ ap (of_bits binary64) q.2 }

pub yes : (b : Bool) → b ≡ true → T b
yes b e = subst T (sym e) tt

no : (b : Bool) → b ≡ false → T (not b)
no b e = subst (λ (u : Bool). T (not u)) (sym e) tt

abbrev pub bits_of : Float → ℕ
bits_of x = to_bits binary64 x

-- ---- the six steps: both ends above zero, both below, and zero between them
abbrev pub DownAbove : Float → Type 0
DownAbove x = Moved x (next_down x) (bits_of x - 1) (1 ≤ bits_of x)

abbrev pub UpAbove : Float → Type 0
UpAbove x = Moved x (next_up x) (bits_of x + 1) (bits_of x + 1 < 0x1_0000_0000_0000_0000)

abbrev pub DownBelow : Float → Type 0
DownBelow x = Moved x (next_down x) (bits_of x + 1) (bits_of x + 1 < 0x1_0000_0000_0000_0000)

abbrev pub UpBelow : Float → Type 0
UpBelow x = Moved x (next_up x) (bits_of x - 1) (1 ≤ bits_of x)

abbrev pub DownAcross : Float → Type 0
DownAcross x = Moved x (next_down x) (bits_of x % 0x8000_0000_0000_0000 + 0x8000_0000_0000_0001) (bits_of x % 0x8000_0000_0000_0000 + 0x8000_0000_0000_0001 < 0x1_0000_0000_0000_0000)

abbrev pub UpAcross : Float → Type 0
UpAcross x = Moved x (next_up x) (bits_of x % 0x8000_0000_0000_0000 + 1) (bits_of x % 0x8000_0000_0000_0000 + 1 < 0x1_0000_0000_0000_0000)

module _ (x : Float) (f : fits binary64 x ≡ true) where
  g : T (fits binary64 x)
  g = yes (fits binary64 x) f

  pub down_above : lt (b64 0) x ≡ true → DownAbove x
  down_above h =
      let (b, p) = above_zero x g (yes (lt (b64 0) x) h) in
      moved p.real (fall false (bits_of x) b p.cap p.bits) (down_toward x b p.real p.quanta p.bits p.cap)

  pub up_above : lt (b64 0) x ≡ true → le x largest ≡ true → UpAbove x
  up_above h k =
      let (b, p, l) = above_room x g (yes (lt (b64 0) x) h) (yes (le x largest) k) in
      moved p.real (rise false (bits_of x) b l p.bits) (up_away x false b p.real p.bits l tt)

  pub down_below : lt x (b64 0) ≡ true → le lowest x ≡ true → DownBelow x
  down_below h k =
      let (b, p, l) = below_room x g (yes (lt x (b64 0)) h) (yes (le lowest x) k) in
      moved p.real (rise true (bits_of x) b l p.bits) (down_away x true b p.real p.quanta p.bits l tt)

  pub up_below : lt x (b64 0) ≡ true → UpBelow x
  up_below h =
      let (b, p) = below_zero x g (yes (lt x (b64 0)) h) in
      moved p.real (fall true (bits_of x) b p.cap p.bits) (up_toward x b p.real p.bits)

  pub down_across : lt (b64 0) x ≡ false → le lowest x ≡ true → DownAcross x
  down_across h k =
      let (s, b, p, l, z) = down_to_lowest x g (no (lt (b64 0) x) h) (yes (le lowest x) k) in
      moved p.real (turn s true (bits_of x) b l p.bits) (down_away x s b p.real p.quanta p.bits l z)

  pub up_across : lt x (b64 0) ≡ false → le x largest ≡ true → UpAcross x
  up_across h k =
      let (s, b, p, l, z) = up_to_largest x g (no (lt x (b64 0)) h) (yes (le x largest) k) in
      moved p.real (turn s false (bits_of x) b l p.bits) (up_away x s b p.real p.bits l z)

  -- an exact end stays where it is: its pattern is put back
  pub falls : {y : Float} (e : Bool) (n : ℕ) → n ≡ from_bool e → Moved x y (bits_of x - 1) (1 ≤ bits_of x)
      → Moved x (cond e x y) (bits_of x - 1 + n) ((1 ≤ bits_of x) × (bits_of x - 1 + n < 0x1_0000_0000_0000_0000))
  falls true n p h =
      let (a, b, c) = back (bits_of x) n p h.fits (bits_lt x g) (bits_cap x g h.real) in
      moved h.real ((h.fits, a), b, c) (sym (of_bits-to_bits binary64 x g))
    where
      back : (b n : ℕ) → n ≡ 1 → 1 ≤ b → b < 0x1_0000_0000_0000_0000 → b % 0x8000_0000_0000_0000 ≤ 0x7ff0_0000_0000_0000
          → (b - 1 + n < 0x1_0000_0000_0000_0000) × ((b - 1 + n) % 0x8000_0000_0000_0000 ≤ 0x7ff0_0000_0000_0000) × (b ≡ b - 1 + n)
      back b n p f l h = (omega arith, omega arith, omega arith)
  falls {y} false n p h =
      let (a, b) = same (bits_of x) n p h.fits (bits_lt x g) in
      subst (λ (k : ℕ). Moved x y k ((1 ≤ bits_of x) × (k < 0x1_0000_0000_0000_0000))) b
      (record { real = h.real; fits = (h.fits, a); good = h.good; next = h.next })
    where
      same : (b n : ℕ) → n ≡ 0 → 1 ≤ b → b < 0x1_0000_0000_0000_0000 → (b - 1 < 0x1_0000_0000_0000_0000) × (b - 1 ≡ b - 1 + n)
      same b n p f l = (omega arith, omega arith)

  pub rises : {y : Float} (e : Bool) (n : ℕ) → n ≡ from_bool e → Moved x y (bits_of x + 1) (bits_of x + 1 < 0x1_0000_0000_0000_0000)
      → Moved x (cond e x y) (bits_of x + 1 - n) (bits_of x + 1 < 0x1_0000_0000_0000_0000)
  rises true n p h = moved h.real (back (bits_of x) n p h.fits (bits_cap x g h.real)) (sym (of_bits-to_bits binary64 x g))
    where
      back : (b n : ℕ) → n ≡ 1 → b + 1 < 0x1_0000_0000_0000_0000 → b % 0x8000_0000_0000_0000 ≤ 0x7ff0_0000_0000_0000
          → (b + 1 < 0x1_0000_0000_0000_0000) × ((b + 1 - n) % 0x8000_0000_0000_0000 ≤ 0x7ff0_0000_0000_0000) × (b ≡ b + 1 - n)
      back b n p f h = (f, omega arith, omega arith)
  rises {y} false n p h = subst (λ (k : ℕ). Moved x y k (bits_of x + 1 < 0x1_0000_0000_0000_0000)) (same (bits_of x + 1) n p) h
    where
      same : (b n : ℕ) → n ≡ 0 → b ≡ b - n
      same b n p = omega arith

-- both ends
pub both_ends : (lo hi : Float) (m n : ℕ) {y z : Float} {R S : Type 0} → Moved lo y m R → Moved hi z n S
    → ◌≡◌ {A = Interval} (record { lo = of_bits binary64 m; hi = of_bits binary64 n }) (record { lo = y; hi = z })
both_ends lo hi m n p q = rw (p.next, q.next)

pub both : (lo hi : Float) (m n : ℕ) {R S : Type 0} → Moved lo (next_down lo) m R → Moved hi (next_up hi) n S → ◌≡◌ {A = Interval} (record { lo = of_bits binary64 m; hi = of_bits binary64 n }) (outward lo hi)
both lo hi m n p q = rw (p.next, q.next)

-- ---- what is not at most the largest is a NaN or the infinity above, and stays
val_top : (b : ℕ) → b < 0x7ff0_0000_0000_0000 → val b ≤ val 0x7fef_ffff_ffff_ffff
val_top b h = elim (eq-or-lt_of_le (up_to b h)) [ inl e ↦ le_of_eq (ap val e) | inr l ↦ le_of_lt (val_mono b 0x7fef_ffff_ffff_ffff l) ]
  where
    up_to : (b : ℕ) → b < 0x7ff0_0000_0000_0000 → b ≤ 0x7fef_ffff_ffff_ffff
    up_to b h = omega arith

below_largest : (x : Float) (b : ℕ) → T (finite x) → b < 0x7ff0_0000_0000_0000 → Quanta x false (val b) → T (le x largest)
below_largest nan b f h p = absurd f
below_largest (inf s) b f h p = absurd f
below_largest (fin s m e) b f h p = le_of_values (fin s m e) largest (val b) quantum (val 0x7fef_ffff_ffff_ffff) quantum (pow_pos 1074) (pow_pos 1074) (p.0, p.1) (bits_value false 0x7fef_ffff_ffff_ffff (lit< tt)) (mul-le-mul_right quantum (val_top b h))

add_left : (a b : ℕ) → b ≤ a + b
add_left a b = omega arith

under_top : (m : ℕ) (e : ℤ) → T (le (fin true m e) largest)
unfolding le lt of_bits
under_top m e = first (ltb 0 (m * up e * 1 + 0x1f_ffff_ffff_ffff * 2 ^ 971 * down e)) (eq (fin true m e) largest) (lt→ltb 0 (m * up e * 1 + 0x1f_ffff_ffff_ffff * 2 ^ 971 * down e) (wide (m * up e * 1) (2 ^ 971) (down e) (pow_pos 971) (down_pos e)))
  where
    first : (a b : Bool) → T a → T (a || b)
    first true b h = tt
    first false b h = absurd h

    wide : (a u d : ℕ) → 0 < u → 0 < d → 0 < a + 0x1f_ffff_ffff_ffff * u * d
    wide a u d h l = lt_of_lt_of_le (mul-pos (mul-pos (lit< tt) h) l) (add_left a (0x1f_ffff_ffff_ffff * u * d))

pub up_stays : (x : Float) → fits binary64 x ≡ true → le x largest ≡ false → x ≡ next_up x
unfolding next_up le lt of_bits is_nan to_bits
up_stays nan f k = refl
up_stays (inf true) f k = absurd (true≢false k)
up_stays (inf false) f k = refl
up_stays (fin true m e) f k = absurd (true≢false (sym (is_true _ (under_top m e)) ∙ k))
up_stays (fin false m e) f k = absurd (true≢false (sym (is_true _ (go (has_pattern (fin false m e) (yes _ f) tt))) ∙ k))
  where
    go : (w : (s : Bool) × (b : ℕ) × Pattern (fin false m e) s b) → T (le (fin false m e) largest)
    go w = below_largest (fin false m e) w.1 tt (below_infinity (fin false m e) w.0 w.1 tt w.2.1 w.2.2) (subst (λ (s : Bool). Quanta (fin false m e) s (val w.1)) (sym w.2.2.0) w.2.2)
