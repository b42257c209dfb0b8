-- An interval's fractions, with a size: `In k q i` says that i holds q and that its ends are at most 2 ^ k in size, so that no end is infinite
-- or a NaN. Every derivation above this layer carries it. Assumes nothing.
use Rattle.std.proofs.Common.{ℕ, ◌≤◌, true, false, T, leb, refl, lit≤, leb→le}
use lib.Ieee.{Float, nan, inf, fin, lt, le, of_bits}
use lib.Ieee.Scale.{finite}
use Rattle.exact.specs.Fraction.{Fraction, zero_f, one_f, ◌≤F◌, ◌<F◌, ◌≈F◌}
use Rattle.exact.proofs.Fraction.{≤F_refl, ≤F_trans, <F-≤F_trans, ≤F-<F_trans, ≈F_le, ≈F_ge}
use Rattle.interval.specs.declared.Interval.{Interval}
use Rattle.interval.specs.Step.{b64}
use Rattle.interval.specs.Interval.{point}
use Rattle.interval.specs.Encloses.{value, AtMost, AtLeast, ◌∈◌, Small}
use Rattle.interval.proofs.Small.{small_finite, small_more}
use Rattle.interval.proofs.Compare.{lt_value, le_value}

-- ---- membership at finite ends is the order of fractions
at_most : {q : Fraction} (x : Float) → T (finite x) → AtMost q x → q ≤F value x
at_most nan f h = absurd f
at_most (inf s) f h = absurd f
at_most (fin s m e) f h = h

at_least : {q : Fraction} (x : Float) → T (finite x) → AtLeast q x → value x ≤F q
at_least nan f h = absurd f
at_least (inf s) f h = absurd f
at_least (fin s m e) f h = h

most_at : {q : Fraction} (x : Float) → T (finite x) → q ≤F value x → AtMost q x
most_at nan f h = absurd f
most_at (inf s) f h = absurd f
most_at (fin s m e) f h = h

least_at : {q : Fraction} (x : Float) → T (finite x) → value x ≤F q → AtLeast q x
least_at nan f h = absurd f
least_at (inf s) f h = absurd f
least_at (fin s m e) f h = h

-- q is in i, whose ends are at most 2 ^ k in size
pub record In (k : ℕ) (q : Fraction) (i : Interval) : Type 0 where
  pub small_lo : Small k i.lo
  pub small_hi : Small k i.hi
  pub has : q ∈ i

pub low : {k : ℕ} {q : Fraction} {i : Interval} → In k q i → value i.lo ≤F q
low {k} {q} {i} h = at_least i.lo (small_finite k i.lo h.small_lo) h.has.above

pub high : {k : ℕ} {q : Fraction} {i : Interval} → In k q i → q ≤F value i.hi
high {k} {q} {i} h = at_most i.hi (small_finite k i.hi h.small_hi) h.has.below

pub between : {k : ℕ} {q : Fraction} {i : Interval} → Small k i.lo → Small k i.hi → value i.lo ≤F q → q ≤F value i.hi → In k q i
between {k} {q} {i} a b l h = record { small_lo = a; small_hi = b; has = record { above = least_at i.lo (small_finite k i.lo a) l; below = most_at i.hi (small_finite k i.hi b) h } }

-- ---- equal fractions are in the same intervals
pub equal_encloses : {q r : Fraction} {i : Interval} → q ≈F r → q ∈ i → r ∈ i
equal_encloses {q} {r} {i} e h = record { above = up i.lo h.above; below = down i.hi h.below }
  where
    up : (x : Float) → AtLeast q x → AtLeast r x
    up nan a = a
    up (inf s) a = a
    up (fin s m e') a = ≤F_trans a (≈F_le e)

    down : (x : Float) → AtMost q x → AtMost r x
    down nan a = a
    down (inf s) a = a
    down (fin s m e') a = ≤F_trans (≈F_ge e) a

pub equal_in : {k : ℕ} {q r : Fraction} {i : Interval} → q ≈F r → In k q i → In k r i
equal_in e h = record { small_lo = h.small_lo; small_hi = h.small_hi; has = equal_encloses e h.has }

-- ---- a larger size
pub larger : {j k : ℕ} {q : Fraction} {i : Interval} → j ≤ k → In j q i → In k q i
larger {j} {k} {i = i} l h = record { small_lo = small_more j k i.lo l h.small_lo; small_hi = small_more j k i.hi l h.small_hi; has = h.has }

pub wider : {j : ℕ} (k : ℕ) {q : Fraction} {i : Interval} → T (leb j k) → In j q i → In k q i
wider {j} k t h = larger (leb→le j k t) h

-- ---- a double
pub point_encloses : {k : ℕ} (x : Float) → Small k x → In k (value x) (point x)
point_encloses x h = between h h (≤F_refl (value x)) (≤F_refl (value x))

-- ---- zero and one, and signs
pub zero_value : value (b64 0) ≈F zero_f
unfolding of_bits
zero_value = record { eq = refl }

pub zero_finite : T (finite (b64 0))
unfolding of_bits
zero_finite = tt

pub one_value : value (b64 0x3ff0_0000_0000_0000) ≈F one_f
unfolding of_bits
one_value = record { eq = refl }

pub one_finite : T (finite (b64 0x3ff0_0000_0000_0000))
unfolding of_bits
one_finite = tt

pub zero_encloses : In 0 zero_f (point (b64 0))
unfolding of_bits
zero_encloses = equal_in zero_value (point_encloses (b64 0) (lit≤ tt))

pub one_encloses : In 0 one_f (point (b64 0x3ff0_0000_0000_0000))
unfolding of_bits
one_encloses = equal_in one_value (point_encloses (b64 0x3ff0_0000_0000_0000) (lit≤ tt))

-- "outside if lo > 0": every fraction that the interval holds is above zero
pub above_zero : {q : Fraction} {i : Interval} → T (lt (b64 0) i.lo) → q ∈ i → zero_f <F q
unfolding of_bits lt
above_zero {q} {i} t h = go i.lo t h.above
  where
    go : (x : Float) → T (lt (b64 0) x) → AtLeast q x → zero_f <F q
    go nan t h = absurd h
    go (inf true) t h = absurd t
    go (inf false) t h = absurd h
    go (fin s m e) t h = <F-≤F_trans (≤F-<F_trans (≈F_ge zero_value) (lt_value (b64 0) (fin s m e) zero_finite tt t)) h

-- "inside if hi < 0": every one is below zero
pub below_zero : {q : Fraction} {i : Interval} → T (lt i.hi (b64 0)) → q ∈ i → q <F zero_f
unfolding of_bits lt
below_zero {q} {i} t h = go i.hi t h.below
  where
    go : (x : Float) → T (lt x (b64 0)) → AtMost q x → q <F zero_f
    go nan t h = absurd h
    go (inf true) t h = absurd h
    go (inf false) t h = absurd t
    go (fin s m e) t h = ≤F-<F_trans h (<F-≤F_trans (lt_value (fin s m e) (b64 0) tt zero_finite t) (≈F_le zero_value))

-- ---- an end tested against a double
-- "hi ≤ x": every fraction that the interval holds is at most x, and so above
pub at_most_test : {k : ℕ} {q : Fraction} {i : Interval} → In k q i → (x : Float) → T (finite x) → T (le i.hi x) → q ≤F value x
at_most_test {k} {i = i} h x f t = ≤F_trans (high h) (le_value i.hi x (small_finite k i.hi h.small_hi) f t)

pub at_least_test : {k : ℕ} {q : Fraction} {i : Interval} → In k q i → (x : Float) → T (finite x) → T (le x i.lo) → value x ≤F q
at_least_test {k} {i = i} h x f t = ≤F_trans (le_value x i.lo f (small_finite k i.lo h.small_lo) t) (low h)
