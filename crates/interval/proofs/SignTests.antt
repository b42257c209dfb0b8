-- What a test of a double's sign and range says of its bit pattern. Assumes nothing.
use Rattle.std.proofs.Common.{◌≡◌, ℕ, zero, suc, ◌+◌, ◌*◌, ◌<◌, ◌≤◌, Bool, true, false, not, T, sym, refl, ap, ◌∙◌, true≢false, le_of_eq, lt_of_lt_of_le, lt_irrefl, zero-lt-suc, mul-pos, zero-mul, arith, ltb→lt, nltb→le, pow_pos}
use mathlib.Core.Bool.{false≢true}
use lib.Ieee.{Float, nan, inf, fin, binary64, lt, le, is_nan, of_bits, up, down, fits, to_bits}
use lib.Ieee.Fits.{down_pos}
use lib.Ieee.Scale.{finite}
use Rattle.interval.specs.Step.{b64}
use Rattle.interval.proofs.Pattern.{quantum, over, Quanta, val, val_mono, with_sign, has_pattern, below_infinity, finite_real}
use Rattle.interval.proofs.NextBits.{NotBelow}

-- the largest finite double, and the lowest
abbrev pub largest : Float
largest = b64 0x7fef_ffff_ffff_ffff

abbrev pub lowest : Float
lowest = b64 0xffef_ffff_ffff_ffff

-- ---- no NaN
real_above : (x : Float) → T (lt (b64 0) x) → T (not (is_nan x))
unfolding lt is_nan of_bits
real_above nan h = h
real_above (inf s) h = tt
real_above (fin s m e) h = tt

real_below : (x : Float) → T (lt x (b64 0)) → T (not (is_nan x))
unfolding lt is_nan
real_below nan h = h
real_below (inf s) h = tt
real_below (fin s m e) h = tt

-- ---- the sign
-- a value that is not zero has a pattern that is not
some : (b m d : ℕ) → 0 < m → m * quantum ≡ val b * d → 0 < b
some zero m d h p = absurd (lt_irrefl 0 (lt_of_lt_of_le (mul-pos h (pow_pos 1074)) (le_of_eq (p ∙ clear d))))
  where
    clear : (d : ℕ) → 0 * d ≡ 0
    clear d = omega arith
some (suc b) m d h p = zero-lt-suc b

at_inf : (b : ℕ) → val b ≡ over → 0 < b
at_inf zero p = absurd (lt_irrefl 0 (lt_of_lt_of_le (pow_pos 2098) (le_of_eq (sym p))))
at_inf (suc b) p = zero-lt-suc b

is_above : (x : Float) (s : Bool) (b : ℕ) → Quanta x s (val b) → T (lt (b64 0) x) → (s ≡ false) × (0 < b)
unfolding lt of_bits
is_above nan s b p h = absurd p
is_above (inf true) s b p h = absurd h
is_above (inf false) s b p h = (sym p.0, at_inf b p.1)
is_above (fin true m e) s b p h = absurd h
is_above (fin false m e) s b p h = (sym p.0, some b (m * up e) (down e) (plain (m * up e) (down e) (ltb→lt (0 * 1 * down e) (m * up e * 1) h)) p.1)
  where
    plain : (a d : ℕ) → 0 * 1 * d < a * 1 → 0 < a
    plain a d h = omega arith

is_below : (x : Float) (s : Bool) (b : ℕ) → Quanta x s (val b) → T (lt x (b64 0)) → (s ≡ true) × (0 < b)
unfolding lt of_bits
is_below nan s b p h = absurd p
is_below (inf false) s b p h = absurd h
is_below (inf true) s b p h = (sym p.0, at_inf b p.1)
is_below (fin false m e) s b p h = absurd (plain (m * up e) (down e) (ltb→lt (m * up e * 1) (0 * 1 * down e) h))
  where
    plain : (a d : ℕ) → a * 1 < 0 * 1 * d → ⊥
    plain a d h = omega arith
is_below (fin true m e) s b p h = (sym p.0, some b (m * up e) (down e) (plain (m * up e) (down e) (ltb→lt 0 (m * up e * 1 + 0 * 1 * down e) h)) p.1)
  where
    plain : (a d : ℕ) → 0 < a * 1 + 0 * 1 * d → 0 < a
    plain a d h = omega arith

-- a value that is zero has the pattern 0
zero_pattern : (b m d : ℕ) → 0 < d → m * quantum ≡ val b * d → m ≡ 0 → b ≡ 0
zero_pattern zero m d D p e = refl
zero_pattern (suc b) m d D p e = absurd (lt_irrefl 0 (lt_of_lt_of_le (mul-pos (lt_of_lt_of_le (val_mono 0 (suc b) (zero-lt-suc b)) (le_of_eq refl)) D) (le_of_eq (sym p ∙ ap (λ (k : ℕ). k * quantum) e ∙ zero-mul quantum))))

not_below : (x : Float) (s : Bool) (b : ℕ) → Quanta x s (val b) → T (not (lt x (b64 0))) → NotBelow s b
unfolding lt of_bits
not_below x false b p h = tt
not_below nan true b p h = absurd p
not_below (inf true) true b p h = absurd h
not_below (inf false) true b p h = absurd (false≢true p.0)
not_below (fin false m e) true b p h = absurd (false≢true p.0)
not_below (fin true m e) true b p h = zero_pattern b (m * up e) (down e) (down_pos e) p.1 (none (m * up e) (down e) (nltb→le 0 (m * up e * 1 + 0 * 1 * down e) h))
  where
    none : (a d : ℕ) → a * 1 + 0 * 1 * d ≤ 0 → a ≡ 0
    none a d h = omega arith

not_above : (x : Float) (s : Bool) (b : ℕ) → Quanta x s (val b) → T (not (lt (b64 0) x)) → NotBelow (not s) b
unfolding lt of_bits
not_above x true b p h = tt
not_above nan false b p h = absurd p
not_above (inf true) false b p h = absurd (true≢false p.0)
not_above (inf false) false b p h = absurd h
not_above (fin true m e) false b p h = absurd (true≢false p.0)
not_above (fin false m e) false b p h = zero_pattern b (m * up e) (down e) (down_pos e) p.1 (none (m * up e) (down e) (nltb→le (0 * 1 * down e) (m * up e * 1) h))
  where
    none : (a d : ℕ) → a * 1 ≤ 0 * 1 * d → a ≡ 0
    none a d h = omega arith

-- ---- neither an infinity nor a NaN
top_finite : (x : Float) → T (not (lt x (b64 0))) → T (le x largest) → T (finite x)
unfolding lt le of_bits
top_finite nan h k = k
top_finite (inf true) h k = h
top_finite (inf false) h k = k
top_finite (fin s m e) h k = tt

low_finite : (x : Float) → T (not (lt (b64 0) x)) → T (le lowest x) → T (finite x)
unfolding lt le of_bits
low_finite nan h k = k
low_finite (inf true) h k = k
low_finite (inf false) h k = h
low_finite (fin s m e) h k = tt

above_finite : (x : Float) → T (lt (b64 0) x) → T (le x largest) → T (finite x)
unfolding lt le of_bits
above_finite nan h k = k
above_finite (inf true) h k = h
above_finite (inf false) h k = k
above_finite (fin s m e) h k = tt

below_finite : (x : Float) → T (lt x (b64 0)) → T (le lowest x) → T (finite x)
unfolding lt le of_bits
below_finite nan h k = k
below_finite (inf true) h k = k
below_finite (inf false) h k = h
below_finite (fin s m e) h k = tt

-- ---- the pattern of a double so tested: its sign, its size's pattern, and that it is no NaN
pub record Told (x : Float) (s : Bool) (b : ℕ) : Type 0 where
  pub real : T (not (is_nan x))
  pub bits : to_bits binary64 x ≡ with_sign s b
  pub cap : b ≤ 0x7ff0_0000_0000_0000
  pub quanta : Quanta x s (val b)

told : (x : Float) → T (fits binary64 x) → T (not (is_nan x)) → (s : Bool) × (b : ℕ) × Told x s b
told x f n = let w = has_pattern x f n in (w.0, w.1, record { real = n; bits = w.2.0; cap = w.2.1; quanta = w.2.2 })

module _ (x : Float) (f : T (fits binary64 x)) where
  -- "0 < x", and "x < 0"
  pub above_zero : T (lt (b64 0) x) → (b : ℕ) × Told x false (suc b)
  above_zero h = let w = told x f (real_above x h) in go w.0 w.1 w.2 (is_above x w.0 w.1 w.2.quanta h)
    where
      go : (s : Bool) (b : ℕ) → Told x s b → (s ≡ false) × (0 < b) → (b : ℕ) × Told x false (suc b)
      go true b p q = absurd (true≢false q.0)
      go false zero p q = absurd (lt_irrefl 0 q.1)
      go false (suc b) p q = (b, p)

  pub below_zero : T (lt x (b64 0)) → (b : ℕ) × Told x true (suc b)
  below_zero h = let w = told x f (real_below x h) in go w.0 w.1 w.2 (is_below x w.0 w.1 w.2.quanta h)
    where
      go : (s : Bool) (b : ℕ) → Told x s b → (s ≡ true) × (0 < b) → (b : ℕ) × Told x true (suc b)
      go false b p q = absurd (false≢true q.0)
      go true zero p q = absurd (lt_irrefl 0 q.1)
      go true (suc b) p q = (b, p)

  finite_told : T (finite x) → (s : Bool) × (b : ℕ) × Told x s b × (b < 0x7ff0_0000_0000_0000)
  finite_told v = let w = told x f (finite_real x v) in (w.0, w.1, w.2, below_infinity x w.0 w.1 v w.2.cap w.2.quanta)

  -- not below zero and at most the largest double, and the other way round
  pub up_to_largest : T (not (lt x (b64 0))) → T (le x largest) → (s : Bool) × (b : ℕ) × Told x s b × (b < 0x7ff0_0000_0000_0000) × NotBelow s b
  up_to_largest h k = let w = finite_told (top_finite x h k) in (w.0, w.1, w.2, w.3, not_below x w.0 w.1 w.2.quanta h)

  pub down_to_lowest : T (not (lt (b64 0) x)) → T (le lowest x) → (s : Bool) × (b : ℕ) × Told x s b × (b < 0x7ff0_0000_0000_0000) × NotBelow (not s) b
  down_to_lowest h k = let w = finite_told (low_finite x h k) in (w.0, w.1, w.2, w.3, not_above x w.0 w.1 w.2.quanta h)

  -- a finite double's pattern leaves room for one more
  pub above_room : T (lt (b64 0) x) → T (le x largest) → (b : ℕ) × Told x false b × (b < 0x7ff0_0000_0000_0000)
  above_room h k = let w = above_zero h in (suc w.0, w.1, below_infinity x false (suc w.0) (above_finite x h k) w.1.cap w.1.quanta)

  pub below_room : T (lt x (b64 0)) → T (le lowest x) → (b : ℕ) × Told x true b × (b < 0x7ff0_0000_0000_0000)
  below_room h k = let w = below_zero h in (suc w.0, w.1, below_infinity x true (suc w.0) (below_finite x h k) w.1.cap w.1.quanta)
