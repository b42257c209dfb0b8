-- HOW FAR OUT AN END CAN BE, in units of a grid. A number of units of 2 ^ -j is a double where it is below 2 ^ 53 in size. So where an exact end is at
-- most z units its rounding is at most z, and the next double above that at most z + 1: each operation costs one unit, in either arithmetic, and no
-- rounding error is worked out. `Near j a b e X` says that X lies between a and b units but for e. Assumes nothing.
use Rattle.std.proofs.Common.{◌≡◌, ℕ, suc, ◌+◌, ◌*◌, ◌^◌, ◌≤◌, max, Bool, true, false, T, leb, [], ◌∷◌, ℤ, pos, ◌+ℤ◌, ◌-ℤ◌, ◌*ℤ◌, nat_abs, ◌≤ℤ◌, ◌<ℤ◌, sym, ap, ◌∙◌, subst, zero-le, le_trans, lt_of_le_of_lt, add_comm, mul-pos, lit<, le→leb, leb→le, pow_pos, pow-add}
use native.Mathlib.Nat.{le-max_left, le-max_right}
use lib.Signed.{le_z_yes}
use lib.Ieee.{Float, binary64, div}
use lib.Ieee.Scale.{finite}
use Rattle.exact.specs.Fraction.{Fraction, ratio, one_f, ◌-F◌, ◌*F◌, ◌≤F◌, ◌≈F◌}
use Rattle.exact.specs.Within.{Within}
use Rattle.exact.proofs.IntegerOrder.{zarith, sum_parts, difference_parts, mul_mono}
use Rattle.exact.proofs.Size.{within_add, within_sub, within_self}
use Rattle.exact.proofs.Ring.{lit, ◌⊖◌, ◌⊗◌, ring}
use Rattle.exact.proofs.FractionRing.{ring_f}
use Rattle.exact.proofs.Fraction.{≤F_refl, ≤F_trans, ≤F-<F_trans, <F-≤F_trans, ≈F_le, ≈F_ge, ≈F_refl, ≈F_trans, same_den_le, same_den_lt, add_mono_f, sub_mono_f}
use Rattle.exact.proofs.Fraction.{mul_mono_f, comm_f, mul_cong_f, mul_ratio, sub_ratio, product_low, product_high}
use Rattle.interval.specs.declared.Interval.{Interval}
use Rattle.interval.specs.Step.{next_up, next_down}
use Rattle.interval.specs.Interval.{Arithmetic, Wide, Narrow, step_down, step_up, exact_sum, exact_difference, sum, difference, product, quotient, around}
use Rattle.interval.specs.Nearest.{nearest, from_rational}
use Rattle.interval.specs.Encloses.{value}
use Rattle.interval.proofs.Rounding.{rounds_mono, rounds_fits}
use Rattle.interval.proofs.Rank.{next_above, next_below}
use Rattle.interval.proofs.Small.{abs_ratio, small_finite}
use Rattle.interval.proofs.Compare.{least4_one, greatest4_one}
use Rattle.interval.proofs.Exact.{binary, nearest_exact, add_binary}
use Rattle.interval.proofs.Operations.{Divisor, nearest_rounds}
use Rattle.interval.proofs.Candidates.{Candidate, candidate, sum_candidate, difference_candidate}
use Rattle.interval.proofs.Quotient.{inverse_power}
use Rattle.interval.proofs.Narrower.{Sized, sized_larger}
use Rattle.interval.proofs.NarrowerProducts.{AllAbove, AllBelow, Four, products, over, by_low, by_high, quotients}

-- the most units that leave room for one more: 2 ^ 53 − 2
abbrev pub most_units : ℕ
most_units = 9007199254740990

-- ---- one rounding and one step: where the exact end is at most z units, or at least
module _ (j : ℕ) (t : T (leb j 1074)) {z : ℤ} (s : Within most_units z) {k : ℕ} {x : Float} {q : Fraction} (c : Candidate k x q) where
  x_finite : T (finite x)
  x_finite = small_finite k x c.small

  at_z : T (finite (nearest z (2 ^ j))) × (value (nearest z (2 ^ j)) ≈F binary z j)
  at_z = nearest_exact j z t (lt_of_le_of_lt s.abs (lit< tt))

  module _ (h : q ≤F binary z j) where
    rounded_below : value x ≤F binary z j
    rounded_below = ≤F_trans (rounds_mono c.rounds (nearest_rounds z (2 ^ j) (pow_pos j)) x_finite at_z.0 h) (≈F_le at_z.1)

    up_unit : value (next_up x) ≤F binary (z +ℤ pos 1) j
    up_unit =
        let y = nearest (z +ℤ pos 1) (2 ^ j) in
        let (f, e) = nearest_exact j (z +ℤ pos 1) t (lt_of_le_of_lt (within_add s (within_self (pos 1))).abs (lit< tt)) in
        ≤F_trans (next_above x y c.fits (rounds_fits (nearest_rounds (z +ℤ pos 1) (2 ^ j) (pow_pos j))) x_finite f
        (≤F-<F_trans rounded_below (<F-≤F_trans (same_den_lt (more z)) (≈F_ge e)))).least (≈F_le e)
      where
        more : (z : ℤ) → z <ℤ (z +ℤ pos 1)
        more z = omega (zarith, sum_parts z (pos 1))

    step_up_lem : (ar : Arithmetic) (e : Bool) → value (step_up ar e x) ≤F binary (z +ℤ pos 1) j
    step_up_lem Wide e = up_unit
    step_up_lem Narrow false = up_unit
    step_up_lem Narrow true = ≤F_trans rounded_below (same_den_le (more z))
      where
        more : (z : ℤ) → z ≤ℤ (z +ℤ pos 1)
        more z = omega (zarith, sum_parts z (pos 1))

  module _ (h : binary z j ≤F q) where
    rounded_above : binary z j ≤F value x
    rounded_above = ≤F_trans (≈F_ge at_z.1) (rounds_mono (nearest_rounds z (2 ^ j) (pow_pos j)) c.rounds at_z.0 x_finite h)

    down_unit : binary (z -ℤ pos 1) j ≤F value (next_down x)
    down_unit =
        let y = nearest (z -ℤ pos 1) (2 ^ j) in
        let (f, e) = nearest_exact j (z -ℤ pos 1) t (lt_of_le_of_lt (within_sub s (within_self (pos 1))).abs (lit< tt)) in
        ≤F_trans (≈F_ge e) (next_below x y c.fits (rounds_fits (nearest_rounds (z -ℤ pos 1) (2 ^ j) (pow_pos j))) x_finite f
        (≤F-<F_trans (≈F_le e) (<F-≤F_trans (same_den_lt (less z)) rounded_above))).greatest
      where
        less : (z : ℤ) → (z -ℤ pos 1) <ℤ z
        less z = omega (zarith, difference_parts z (pos 1))

    down_stepped : (ar : Arithmetic) (e : Bool) → binary (z -ℤ pos 1) j ≤F value (step_down ar e x)
    down_stepped Wide e = down_unit
    down_stepped Narrow false = down_unit
    down_stepped Narrow true = ≤F_trans (same_den_le (less z)) rounded_above
      where
        less : (z : ℤ) → (z -ℤ pos 1) ≤ℤ z
        less z = omega (zarith, difference_parts z (pos 1))

-- ---- X lies between a and b units but for e
pub record Near (j : ℕ) (a b : ℤ) (e : ℕ) (X : Interval) : Type 0 where
  pub low : binary (a -ℤ pos e) j ≤F value X.lo
  pub high : value X.hi ≤F binary (b +ℤ pos e) j

-- what is within n, and out by e, leaves room for one unit more
abbrev Room : ℕ → ℕ → Type 0
Room n e = T (leb (n + e) most_units)

module _ {n : ℕ} (e : ℕ) {a : ℤ} (s : Within n a) (r : Room n e) where
  room_low : Within most_units (a -ℤ pos e)
  room_low = record { abs = le_trans (within_sub s (within_self (pos e))).abs (leb→le (n + e) most_units r) }

  room_high : Within most_units (a +ℤ pos e)
  room_high = record { abs = le_trans (within_add s (within_self (pos e))).abs (leb→le (n + e) most_units r) }

one_lower : (a : ℤ) (e : ℕ) → (a -ℤ pos (suc e)) ≤ℤ (a -ℤ pos e -ℤ pos 1)
one_lower a e = omega (zarith, difference_parts a (pos (suc e)), difference_parts a (pos e), difference_parts (a -ℤ pos e) (pos 1))

one_higher : (a : ℤ) (e : ℕ) → (a +ℤ pos e +ℤ pos 1) ≤ℤ (a +ℤ pos (suc e))
one_higher a e = omega (zarith, sum_parts a (pos (suc e)), sum_parts a (pos e), sum_parts (a +ℤ pos e) (pos 1))

none_lower : (a : ℤ) → (a -ℤ pos 0) ≤ℤ a
none_lower a = omega (zarith, difference_parts a (pos 0))

none_higher : (a : ℤ) → a ≤ℤ (a +ℤ pos 0)
none_higher a = omega (zarith, sum_parts a (pos 0))

-- ends that are a and b units
pub exact_near : {j : ℕ} {a b : ℤ} {X : Interval} → value X.lo ≈F binary a j → value X.hi ≈F binary b j → Near j a b 0 X
exact_near {a = a} {b = b} l h = record { low = ≤F_trans (same_den_le (none_lower a)) (≈F_ge l); high = ≤F_trans (≈F_le h) (same_den_le (none_higher b)) }

-- two candidates, of which the exact ends are between a and b but for e
module _
    (j : ℕ) (t : T (leb j 1074)) {k : ℕ} {x y : Float} {p q : Fraction} (g : Candidate k x p) (h : Candidate k y q)
    {n e : ℕ} {a b : ℤ} (s : Within n a) (u : Within n b) (r : Room n e) (l : binary (a -ℤ pos e) j ≤F p) (m : q ≤F binary (b +ℤ pos e) j) where
  stepped : (ar : Arithmetic) (c d : Bool) → Near j a b (suc e) (record { lo = step_down ar c x; hi = step_up ar d y })
  stepped ar c d = record {
    low = ≤F_trans (same_den_le (one_lower a e)) (down_stepped j t (room_low e s r) g l ar c);
    high = ≤F_trans (step_up_lem j t (room_high e u r) h m ar d) (same_den_le (one_higher b e));
  }

-- ---- a fraction's own interval
pub fraction_near : (k : ℕ) {j : ℕ} (q : Fraction) {a : ℤ} {n : ℕ} → T (leb k 1022) → T (leb j 1074) → nat_abs q.num ≤ 2 ^ k * q.den
    → q ≈F binary a j → Within n a → Room n 0 → Near j a a 1 (from_rational q.num q.den)
unfolding from_rational
fraction_near k {j} q {a} K t h e s r =
    let x = nearest_rounds q.num q.den q.den_pos in
    let c = candidate k (leb→le k 1022 K) x (rounds_fits x) (abs_ratio k q h) in
    stepped j t c c s s r (≤F_trans (same_den_le (none_lower a)) (≈F_ge e)) (≤F_trans (≈F_le e) (same_den_le (none_higher a))) Wide false false

-- ---- sums and differences
sub_binary : (z w : ℤ) (j : ℕ) → binary z j -F binary w j ≈F binary (z -ℤ w) j
sub_binary z w j = ≈F_trans (sub_ratio (binary z j) (binary w j) (mul-pos (pow_pos j) (pow_pos j)))
    (record { eq = ring 3 (λ z w p. (z ⊗ p ⊖ w ⊗ p) ⊗ p) (λ z w p. (z ⊖ w) ⊗ (p ⊗ p)) tt (z ∷ w ∷ pos (2 ^ j) ∷ []) })

module _ {i k : ℕ} (K : T (leb (suc (max i k)) 1022)) {X Y : Interval} (x : Sized i X) (y : Sized k Y) where
  N : suc (max i k) ≤ 1022
  N = leb→le (suc (max i k)) 1022 K

  left : Sized (max i k) X
  left = sized_larger (le-max_left i k) x

  right : Sized (max i k) Y
  right = sized_larger (le-max_right i k) y

  module _ {j : ℕ} (t : T (leb j 1074)) {a b c d : ℤ} {e f : ℕ} (p : Near j a b e X) (q : Near j c d f Y) (ar : Arithmetic) where
    pub sum_near : {n : ℕ} → Room n (e + f) → Within n (a +ℤ c) → Within n (b +ℤ d) → Near j (a +ℤ c) (b +ℤ d) (suc (e + f)) (sum ar X Y)
    unfolding sum
    sum_near r s u = stepped j t
        (sum_candidate (max i k) N X.lo Y.lo left.lo right.lo)
        (sum_candidate (max i k) N X.hi Y.hi left.hi right.hi) s u r
        (≤F_trans (same_den_le (lower a c e f)) (≤F_trans (≈F_ge (add_binary (a -ℤ pos e) (c -ℤ pos f) j)) (add_mono_f p.low q.low)))
        (≤F_trans (add_mono_f p.high q.high) (≤F_trans (≈F_le (add_binary (b +ℤ pos e) (d +ℤ pos f) j)) (same_den_le (higher b d e f))))
        ar (exact_sum X.lo Y.lo) (exact_sum X.hi Y.hi)
      where
        lower : (a c : ℤ) (e f : ℕ) → (a +ℤ c -ℤ pos (e + f)) ≤ℤ (a -ℤ pos e +ℤ (c -ℤ pos f))
        lower a c e f = omega (
          zarith,
          difference_parts (a +ℤ c) (pos (e + f)),
          sum_parts a c,
          sum_parts (a -ℤ pos e) (c -ℤ pos f),
          difference_parts a (pos e),
          difference_parts c (pos f),
        )

        higher : (b d : ℤ) (e f : ℕ) → (b +ℤ pos e +ℤ (d +ℤ pos f)) ≤ℤ (b +ℤ d +ℤ pos (e + f))
        higher b d e f = omega (
          zarith,
          sum_parts (b +ℤ d) (pos (e + f)),
          sum_parts b d,
          sum_parts (b +ℤ pos e) (d +ℤ pos f),
          sum_parts b (pos e),
          sum_parts d (pos f),
        )

    pub difference_near : {n : ℕ} → Room n (e + f) → Within n (a -ℤ d) → Within n (b -ℤ c) → Near j (a -ℤ d) (b -ℤ c) (suc (e + f)) (difference ar X Y)
    unfolding difference
    difference_near r s u = stepped j t
        (difference_candidate (max i k) N X.lo Y.hi left.lo right.hi)
        (difference_candidate (max i k) N X.hi Y.lo left.hi right.lo) s u r
        (≤F_trans (same_den_le (lower a d e f)) (≤F_trans (≈F_ge (sub_binary (a -ℤ pos e) (d +ℤ pos f) j)) (sub_mono_f p.low q.high)))
        (≤F_trans (sub_mono_f p.high q.low) (≤F_trans (≈F_le (sub_binary (b +ℤ pos e) (c -ℤ pos f) j)) (same_den_le (higher b c e f))))
        ar (exact_difference X.lo Y.hi) (exact_difference X.hi Y.lo)
      where
        lower : (a d : ℤ) (e f : ℕ) → (a -ℤ d -ℤ pos (e + f)) ≤ℤ (a -ℤ pos e -ℤ (d +ℤ pos f))
        lower a d e f = omega (
          zarith,
          difference_parts (a -ℤ d) (pos (e + f)),
          difference_parts a d,
          difference_parts (a -ℤ pos e) (d +ℤ pos f),
          difference_parts a (pos e),
          sum_parts d (pos f),
        )

        higher : (b c : ℤ) (e f : ℕ) → (b +ℤ pos e -ℤ (c -ℤ pos f)) ≤ℤ (b -ℤ c +ℤ pos (e + f))
        higher b c e f = omega (
          zarith,
          sum_parts (b -ℤ c) (pos (e + f)),
          difference_parts b c,
          difference_parts (b +ℤ pos e) (c -ℤ pos f),
          sum_parts b (pos e),
          difference_parts c (pos f),
        )

-- ---- products and quotients: four candidates
module _
    (j : ℕ) (t : T (leb j 1074)) {z : ℤ} (s : Within most_units z)
    {k : ℕ} {a b c d : Float} {l h m n : Fraction} (F : Four k a b c d l h m n) where
  around_high : AllBelow (binary z j) l h m n → value (around a b c d).hi ≤F binary (z +ℤ pos 1) j
  around_high (p, q, r, u) = greatest4_one a b c d (λ x. value (next_up x) ≤F binary (z +ℤ pos 1) j)
      (up_unit j t s F.one p) (up_unit j t s F.two q) (up_unit j t s F.three r) (up_unit j t s F.four u)

  around_low : AllAbove (binary z j) l h m n → binary (z -ℤ pos 1) j ≤F value (around a b c d).lo
  around_low (p, q, r, u) = least4_one a b c d (λ x. binary (z -ℤ pos 1) j ≤F value (next_down x))
      (down_unit j t s F.one p) (down_unit j t s F.two q) (down_unit j t s F.three r) (down_unit j t s F.four u)

-- a units of 2 ^ -i times c units of 2 ^ -j, against v units of 2 ^ -m, which is coarser than their product by 2 ^ e
module _ (i j m e : ℕ) (same : i + j ≡ m + e) (a c v : ℤ) where
  fine_times : v *ℤ pos (2 ^ i * 2 ^ j) ≡ v *ℤ pos (2 ^ e) *ℤ pos (2 ^ m)
  fine_times =
      ap (λ (n : ℕ). v *ℤ pos n) (sym (pow-add 2 i j) ∙ ap (λ (n : ℕ). 2 ^ n) same ∙ pow-add 2 m e)
      ∙ ring 3 (λ v p q. v ⊗ (p ⊗ q)) (λ v p q. v ⊗ q ⊗ p) tt (v ∷ pos (2 ^ m) ∷ pos (2 ^ e) ∷ [])

  product_is : binary a i *F binary c j ≈F ratio (a *ℤ c) (2 ^ i * 2 ^ j) (mul-pos (pow_pos i) (pow_pos j))
  product_is = mul_ratio (binary a i) (binary c j) (mul-pos (pow_pos i) (pow_pos j))

  pub product_below : (a *ℤ c) ≤ℤ (v *ℤ pos (2 ^ e)) → binary a i *F binary c j ≤F binary v m
  product_below h = ≤F_trans (≈F_le product_is)
      (record { le = subst (λ (u : ℤ). (a *ℤ c *ℤ pos (2 ^ m)) ≤ℤ u) (sym fine_times) (mul_mono (le_z_yes (le→leb 0 (2 ^ m) zero-le)) h) })

  pub product_above : (v *ℤ pos (2 ^ e)) ≤ℤ (a *ℤ c) → binary v m ≤F binary a i *F binary c j
  product_above h = ≤F_trans (record {
    le =
        subst (λ (u : ℤ). u ≤ℤ (a *ℤ c *ℤ pos (2 ^ m))) (sym fine_times) (mul_mono (le_z_yes (le→leb 0 (2 ^ m) zero-le)) h);
  }) (≈F_ge product_is)

-- both ends are between l and h
record Bounded (l h : Fraction) (X : Interval) : Type 0 where
  lo : (l ≤F value X.lo) × (value X.lo ≤F h)
  hi : (l ≤F value X.hi) × (value X.hi ≤F h)

bounded : {k j : ℕ} {a b : ℤ} {e : ℕ} {X : Interval} → Sized k X → Near j a b e X → Bounded (binary (a -ℤ pos e) j) (binary (b +ℤ pos e) j) X
bounded x p = record { lo = (p.low, ≤F_trans x.order p.high); hi = (≤F_trans p.low x.order, p.high) }

-- what is on one side of the four products of bounds is on that side of the four of ends
module _ {l h m n : Fraction} {X Y : Interval} (x : Bounded l h X) (y : Bounded m n Y) where
  all_above : (L : Fraction) → AllAbove L l h m n → AllAbove L (value X.lo) (value X.hi) (value Y.lo) (value Y.hi)
  all_above L (p, q, r, s) = (above x.lo y.lo, above x.lo y.hi, above x.hi y.lo, above x.hi y.hi)
    where
      above : {v w : Fraction} → (l ≤F v) × (v ≤F h) → (m ≤F w) × (w ≤F n) → L ≤F v *F w
      above {v} {w} f g = product_low l h m n v w f.0 f.1 g.0 g.1 L p q r s

  all_below : (U : Fraction) → AllBelow U l h m n → AllBelow U (value X.lo) (value X.hi) (value Y.lo) (value Y.hi)
  all_below U (p, q, r, s) = (below x.lo y.lo, below x.lo y.hi, below x.hi y.lo, below x.hi y.hi)
    where
      below : {v w : Fraction} → (l ≤F v) × (v ≤F h) → (m ≤F w) × (w ≤F n) → v *F w ≤F U
      below {v} {w} f g = product_high l h m n v w f.0 f.1 g.0 g.1 U p q r s

pub product_near : {i k : ℕ} {X Y : Interval} → T (leb (i + k) 1022) → Sized i X → Sized k Y
    → {g h : ℕ} {a b c d : ℤ} {e f : ℕ} → Near g a b e X → Near h c d f Y
    → {j : ℕ} {A B : ℤ} {n u : ℕ} → T (leb j 1074) → Within n A → Within n B → Room n u
    → AllAbove (binary (A -ℤ pos u) j) (binary (a -ℤ pos e) g) (binary (b +ℤ pos e) g) (binary (c -ℤ pos f) h) (binary (d +ℤ pos f) h)
    → AllBelow (binary (B +ℤ pos u) j) (binary (a -ℤ pos e) g) (binary (b +ℤ pos e) g) (binary (c -ℤ pos f) h) (binary (d +ℤ pos f) h)
    → Near j A B (suc u) (product X Y)
unfolding product
product_near {i} {k} K x y p q {j} {A} {B} {n} {u} t s v r above below =
    let F = products (leb→le (i + k) 1022 K) x y in
    let l = all_above (bounded x p) (bounded y q) (binary (A -ℤ pos u) j) above in
    let h = all_below (bounded x p) (bounded y q) (binary (B +ℤ pos u) j) below in
    record {
      low = ≤F_trans (same_den_le (one_lower A u)) (around_low j t (room_low u s r) F l);
      high = ≤F_trans (around_high j t (room_high u v r) F h) (same_den_le (one_higher B u));
    }

-- ---- quotients: what is at most z units times the divisor, divided by it is at most z units
module _ {y : Float} (v : Divisor y) where
  undone : (c : Fraction) → over v *F (c *F value y) ≈F c
  undone c =
      ≈F_trans (ring_f 3 (λ o c y. o ⊗ (c ⊗ y)) (λ o c y. c ⊗ (y ⊗ o)) tt (over v ∷ c ∷ value y ∷ []))
      (≈F_trans (mul_cong_f (≈F_refl c) (≈F_trans (mul_cong_f v.same (≈F_refl (over v))) one)) (ring_f 1 (λ c. c ⊗ lit (pos 1)) (λ c. c) tt (c ∷ [])))
    where
      one : ratio (pos v.top) v.bottom v.bottom_pos *F over v ≈F one_f
      one = ≈F_trans (mul_ratio (ratio (pos v.top) v.bottom v.bottom_pos) (over v) (mul-pos v.bottom_pos v.top_pos))
          (record { eq = ring 2 (λ a b. a ⊗ b ⊗ lit (pos 1)) (λ a b. lit (pos 1) ⊗ (b ⊗ a)) tt (pos v.top ∷ pos v.bottom ∷ []) })

  not_negative : pos 0 ≤ℤ (over v).num
  not_negative = le_z_yes (le→leb 0 v.bottom zero-le)

  divided_below : {w c : Fraction} → w ≤F c *F value y → w *F over v ≤F c
  divided_below {w} {c} h = ≤F_trans (≈F_le (comm_f w (over v))) (≤F_trans (mul_mono_f (over v) not_negative h) (≈F_le (undone c)))

  divided_above : {w c : Fraction} → c *F value y ≤F w → c ≤F w *F over v
  divided_above {w} {c} h = ≤F_trans (≈F_ge (undone c)) (≤F_trans (mul_mono_f (over v) not_negative h) (≈F_le (comm_f (over v) w)))

module _
    {i j : ℕ} (k : ℕ) (K : T (leb (j + k) 1022)) {X Y : Interval} (x : Sized j X) (y : Sized i Y) (apart : inverse_power k ≤F value Y.lo)
    {g : ℕ} {a b c d : ℤ} {e f : ℕ} (p : Near g a b e X) (q : Near g c d f Y) (m : ℕ) (t : T (leb m 1074)) {z : ℤ} (s : Within most_units z) where
  abbrev F : Four (j + k) (div binary64 X.lo Y.lo) (div binary64 X.lo Y.hi) (div binary64 X.hi Y.lo) (div binary64 X.hi Y.hi)
      (value X.lo) (value X.hi) (over (by_low k K x y apart)) (over (by_high k K x y apart))
  F = quotients k K x y apart

  pub quotient_high : ((b +ℤ pos e) *ℤ pos (2 ^ m)) ≤ℤ (z *ℤ (c -ℤ pos f)) → ((b +ℤ pos e) *ℤ pos (2 ^ m)) ≤ℤ (z *ℤ (d +ℤ pos f))
      → value (quotient X Y).hi ≤F binary (z +ℤ pos 1) m
  unfolding quotient
  quotient_high u v = around_high m t s F (
    divided_below (by_low k K x y apart) (≤F_trans x.order (most (bounded y q).lo)),
    divided_below (by_high k K x y apart) (≤F_trans x.order (most (bounded y q).hi)),
    divided_below (by_low k K x y apart) (most (bounded y q).lo),
    divided_below (by_high k K x y apart) (most (bounded y q).hi),
  )
    where
      most : {w : Fraction} → (binary (c -ℤ pos f) g ≤F w) × (w ≤F binary (d +ℤ pos f) g) → value X.hi ≤F binary z m *F w
      most {w} r =
          let l = product_above m g g m (add_comm m g) z (c -ℤ pos f) (b +ℤ pos e) u in
          let h = product_above m g g m (add_comm m g) z (d +ℤ pos f) (b +ℤ pos e) v in
          ≤F_trans p.high (product_low (binary z m) (binary z m) (binary (c -ℤ pos f) g) (binary (d +ℤ pos f) g) (binary z m) w
          (≤F_refl (binary z m)) (≤F_refl (binary z m)) r.0 r.1 (binary (b +ℤ pos e) g) l h l h)

  pub quotient_low : (z *ℤ (c -ℤ pos f)) ≤ℤ ((a -ℤ pos e) *ℤ pos (2 ^ m)) → (z *ℤ (d +ℤ pos f)) ≤ℤ ((a -ℤ pos e) *ℤ pos (2 ^ m))
      → binary (z -ℤ pos 1) m ≤F value (quotient X Y).lo
  unfolding quotient
  quotient_low u v = around_low m t s F (
    divided_above (by_low k K x y apart) (least (bounded y q).lo),
    divided_above (by_high k K x y apart) (least (bounded y q).hi),
    divided_above (by_low k K x y apart) (≤F_trans (least (bounded y q).lo) x.order),
    divided_above (by_high k K x y apart) (≤F_trans (least (bounded y q).hi) x.order),
  )
    where
      least : {w : Fraction} → (binary (c -ℤ pos f) g ≤F w) × (w ≤F binary (d +ℤ pos f) g) → binary z m *F w ≤F value X.lo
      least {w} r =
          let l = product_below m g g m (add_comm m g) z (c -ℤ pos f) (a -ℤ pos e) u in
          let h = product_below m g g m (add_comm m g) z (d +ℤ pos f) (a -ℤ pos e) v in
          ≤F_trans (product_high (binary z m) (binary z m) (binary (c -ℤ pos f) g) (binary (d +ℤ pos f) g) (binary z m) w
          (≤F_refl (binary z m)) (≤F_refl (binary z m)) r.0 r.1 (binary (a -ℤ pos e) g) l h l h) p.low
