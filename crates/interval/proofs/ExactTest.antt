-- WHETHER A SUM IS EXACT, by two comparisons in doubles: v = x + y rounded, and then v - x == y and v - y == x, both differences rounded. They
-- answer the question for all doubles; the infinities and NaNs by computation. Let the finer of two finite operands be the one that is a whole
-- number below 2 ^ 53 of the smaller power 2 ^ j. Both operands, v and its difference from the other one are multiples of 2 ^ j, and a multiple
-- that rounds to a number below 2 ^ 53 of them is that number (`mult_exact`): so the comparison with the finer operand is true of no inexact sum.
-- Assumes nothing.
use Rattle.std.proofs.Common.{◌≡◌, ℕ, zero, suc, ◌+◌, ◌/◌, ◌%◌, ◌^◌, ◌<◌, ◌≤◌, Bool, true, false, cond, not, ◌&&◌, T, leb, [], ◌∷◌, ℤ, pos, ◌+ℤ◌, ◌*ℤ◌, sym, refl, ap, ◌∙◌, subst, inl, inr, le_of_lt, lt_irrefl, mul-pos, arith, lt→ltb, leb→le, pow_pos, shl_lt}
use lib.Dec.{nleb→lt}
use lib.Ieee.{Float, nan, inf, fin, binary64, add, sub, neg, eq, fits}
use lib.Ieee.Scale.{finite}
use lib.Signed.{lt_z_yes}
use Rattle.exact.specs.Fraction.{ratio, ◌+F◌, ◌-F◌, ◌≈F◌, equal_f}
use Rattle.exact.proofs.Ring.{◌⊕◌, ◌⊗◌, ring}
use Rattle.exact.proofs.IntegerOrder.{eq_parts, sum_parts, ≤ℤ_antisym, mul_cancel_le}
use Rattle.exact.proofs.Fraction.{≈F_refl, ≈F_sym, ≈F_trans, ≈F_le, ≈F_ge, add_ratio, add_cong_f, sub_is_add}
use Rattle.exact.proofs.FractionSize.{equal_yes, equal_of, equal_same}
use Rattle.interval.specs.Encloses.{signed, value}
use Rattle.interval.proofs.Signs.{pos_part_signed, neg_part_signed, signed_add}
use Rattle.interval.proofs.Small.{value_neg}
use Rattle.interval.proofs.Compare.{equal_tests}
use Rattle.interval.proofs.Pattern.{quantum, over, Quanta, val, val_exact, digits, shift, has_pattern, finite_real}
use Rattle.interval.proofs.Rounding.{rounded, rounded_val, quanta_value}
use Rattle.interval.proofs.QuantaSums.{add_is, sub_is, SameQuanta, eq_is, eq_of}
use Rattle.interval.proofs.Multiples.{Mult, mult_more, mult_round, mult_exact, mag, sgn, mag_mult, Adds, mag_adds, adds_back, adds_left, adds_swap}
use Rattle.interval.specs.Interval.{exact_sum, exact_difference}

-- what the code computes
unfoldable pub looks_exact : Float → Float → Float → Bool
unfolding eq sub
looks_exact v x y = eq (sub binary64 v x) y && eq (sub binary64 v y) x

-- ---- the definition in quanta
module _ (v x y : Float) (u : Bool) (c : ℕ) (s : Bool) (a : ℕ) (t : Bool) (b : ℕ) (f : T (finite v)) (g : T (finite x)) (w : T (finite y))
    (p : Quanta v u c) (q : Quanta x s a) (r : Quanta y t b) where
  abbrev Q : 0 < quantum
  Q = pow_pos 1074

  total : value x +F value y ≈F ratio (signed s a +ℤ signed t b) quantum Q
  total = ≈F_trans (add_cong_f (quanta_value x s a g q) (quanta_value y t b w r))
      (≈F_trans (add_ratio (ratio (signed s a) quantum Q) (ratio (signed t b) quantum Q) (mul-pos Q Q))
      (record { eq = ring 3 (λ z w p. (z ⊗ p ⊕ w ⊗ p) ⊗ p) (λ z w p. (z ⊕ w) ⊗ (p ⊗ p)) tt (signed s a ∷ signed t b ∷ pos quantum ∷ []) }))

  value_adds : value v ≈F value x +F value y → Adds u c s a t b
  value_adds e = omega (
    arith,
    eq_parts {a = signed u c} {b = signed s a +ℤ signed t b} same,
    sum_parts (signed s a) (signed t b),
    pos_part_signed u c,
    neg_part_signed u c,
    pos_part_signed s a,
    neg_part_signed s a,
    pos_part_signed t b,
    neg_part_signed t b,
  )
    where
      n : ratio (signed u c) quantum Q ≈F ratio (signed s a +ℤ signed t b) quantum Q
      n = ≈F_trans (≈F_sym (quanta_value v u c f p)) (≈F_trans e total)

      same : signed u c ≡ signed s a +ℤ signed t b
      same = ≤ℤ_antisym (mul_cancel_le (lt_z_yes (lt→ltb 0 quantum Q)) (≈F_le n).le) (mul_cancel_le (lt_z_yes (lt→ltb 0 quantum Q)) (≈F_ge n).le)

  adds_value : Adds u c s a t b → value v ≈F value x +F value y
  adds_value h = ≈F_trans (quanta_value v u c f p)
      (≈F_trans (≈F_sym (record { eq = ap (λ (z : ℤ). z *ℤ pos quantum) (signed_add s t u a b c (omega (arith, h))) })) (≈F_sym total))

-- an exact sum adds up in quanta, and what adds up is exact
module _ (x y : Float) (u : Bool) (c : ℕ) (s : Bool) (a : ℕ) (t : Bool) (b : ℕ)
    (p : Quanta (add binary64 x y) u c) (q : Quanta x s a) (r : Quanta y t b) where
  abbrev v : Float
  v = add binary64 x y

  sum_adds : T (exact_sum x y) → T (finite v) × Adds u c s a t b
  unfolding exact_sum
  sum_adds h = go (finite x) (finite y) (finite v) (equal_f (value v) (value x +F value y))
      (λ g w f e. (f, value_adds v x y u c s a t b f g w p q r (equal_yes {a = value v} {b = value x +F value y} e))) h
    where
      go : {A : Type 0} (d e f g : Bool) → (T d → T e → T f → T g → A) → T (d && e && (f && g)) → A
      go true true true g k h = k tt tt tt h
      go true true false g k h = absurd h
      go true false f g k h = absurd h
      go false e f g k h = absurd h

  adds_sum : T (finite v) → T (finite x) → T (finite y) → Adds u c s a t b → T (exact_sum x y)
  unfolding exact_sum
  adds_sum f g w h = go (finite x) (finite y) (finite v) (equal_f (value v) (value x +F value y)) g w f (equal_of (adds_value v x y u c s a t b f g w p q r h))
    where
      go : (d e f g : Bool) → T d → T e → T f → T g → T (d && e && (f && g))
      go true true true g h k l m = m
      go true true false g h k l m = l
      go true false f g h k l m = k
      go false e f g h k l m = h

-- ---- a finite double is a whole number below 2 ^ 53 of 2 ^ j quanta
record Form (x : Float) : Type 0 where
  s : Bool
  a : ℕ
  j : ℕ
  is : Quanta x s a
  mult : Mult j a
  small : a < 2 ^ (53 + j)
  room : 53 + j ≤ 2098
  stays : rounded a quantum ≡ a

is_under : (x : Float) (s : Bool) (a : ℕ) → T (finite x) → Quanta x s a → a < over
is_under nan s a f p = absurd f
is_under (inf t) s a f p = absurd f
is_under (fin t m e) s a f p = p.2

is_finite : (x : Float) (s : Bool) (a : ℕ) → Quanta x s a → a < over → T (finite x)
is_finite nan s a p h = p
is_finite (inf t) s a p h = lt_irrefl over (subst (λ (z : ℕ). z < over) p.1 h)
is_finite (fin t m e) s a p h = tt

form : (x : Float) → T (fits binary64 x) → T (finite x) → Form x
form x h f =
    let w = has_pattern x h (finite_real x f) in
    let b = w.1 in
    let l : b < 0x7ff0_0000_0000_0000 = low b w.2.1 (is_under x w.0 (val b) f w.2.2) in
    let d = digits (b / 0x10_0000_0000_0000) (b % 0x10_0000_0000_0000) in
    let k = shift (b / 0x10_0000_0000_0000) in
    record {
      s = w.0;
      a = val b;
      j = k;
      is = w.2.2;
      mult = record { times = d; is = refl };
      small = shl_lt 53 k (val_exact b l);
      room = reach (b / 0x10_0000_0000_0000) (field b l);
      stays = rounded_val b l;
    }
  where
    low : (b : ℕ) → b ≤ 0x7ff0_0000_0000_0000 → val b < over → b < 0x7ff0_0000_0000_0000
    low b h k = elim (native.Mathlib.Nat.eq-or-lt_of_le h) [ inl e ↦ absurd (lt_irrefl over (subst (λ (z : ℕ). val z < over) e k)) | inr l ↦ l ]

    field : (b : ℕ) → b < 0x7ff0_0000_0000_0000 → b / 0x10_0000_0000_0000 < 2047
    field b h = omega arith

    reach : (x : ℕ) → x < 2047 → 53 + shift x ≤ 2098
    reach zero h = omega arith
    reach (suc x) h = omega arith

-- ---- what passes the test on the side of the finer of the two is exact
side_exact : (u : Bool) (c : ℕ) (s : Bool) (a : ℕ) (t : Bool) (b j : ℕ) → 53 + j ≤ 2098 → Mult j c → Mult j a → b < 2 ^ (53 + j)
    → SameQuanta (sgn u c (not s) a) (rounded (mag u c (not s) a) quantum) t b → Adds u c s a t b
side_exact u c s a t b j J C A B h =
    let v = sgn u c (not s) a in
    let m = mag u c (not s) a in
    let e : m ≡ b = mult_exact b J (mag_mult u (not s) C A) B h.0 in
    let k : rounded m quantum ≡ m = h.0 ∙ sym e in
    adds_back u c s a t b v m (mag_adds u c (not s) a) (ap (λ (z : ℕ). cond v 0 z) (sym k) ∙ h.1) (ap (λ (z : ℕ). cond v z 0) (sym k) ∙ h.2)

-- the rounded difference of a finite sum and x, where the sum is exact
side_left : (v x y : Float) (u : Bool) (c : ℕ) (s : Bool) (a : ℕ) (t : Bool) (b : ℕ) → T (finite v) → T (finite x) → T (finite y) → Quanta v u c
    → Quanta x s a → Quanta y t b → rounded b quantum ≡ b → Adds u c s a t b → T (eq (sub binary64 v x) y)
side_left v x y u c s a t b f g w p q r st h =
    let k = sgn u c (not s) a in
    let m = mag u c (not s) a in
    let l = adds_left u c s a t b k m (mag_adds u c (not s) a) h in
    let e : rounded m quantum ≡ b = ap (λ (z : ℕ). rounded z quantum) l.0 ∙ st in
    let i = sub_is v x u c s a f g p q in
    let o : rounded m quantum ≡ m = e ∙ sym l.0 in
    eq_of (sub binary64 v x) y k (rounded m quantum) t b
    (is_finite (sub binary64 v x) k (rounded m quantum) i (subst (λ (z : ℕ). z < over) (sym e) (is_under y t b w r))) w i r
    (e, ap (λ (z : ℕ). cond k 0 z) o ∙ l.1, ap (λ (z : ℕ). cond k z 0) o ∙ l.2)

finite_of : (v x y : Float) → T (finite x) → T (finite y) → T (eq (sub binary64 v x) y) → T (finite v)
unfolding sub add neg eq
finite_of v nan y f g h = absurd f
finite_of v (inf s) y f g h = absurd f
finite_of v (fin s m e) nan f g h = absurd g
finite_of v (fin s m e) (inf t) f g h = absurd g
finite_of nan (fin s m e) (fin t n d) f g h = absurd h
finite_of (inf u) (fin s m e) (fin t n d) f g h = absurd h
finite_of (fin u l o) (fin s m e) (fin t n d) f g h = tt

first : (u v : Bool) → T (u && v) → T u
first true v h = tt
first false v h = h

second : (u v : Bool) → T (u && v) → T v
second true v h = h
second false v h = absurd h

pair : (u v : Bool) → T u → T v → T (u && v)
pair true v h k = k
pair false v h k = h

looks_sound : (x y : Float) → T (fits binary64 x) → T (fits binary64 y) → T (finite x) → T (finite y) → T (looks_exact (add binary64 x y) x y)
    → T (exact_sum x y)
unfolding looks_exact
looks_sound x y fx fy gx gy h =
    let v = add binary64 x y in
    let X = form x fx gx in
    let Y = form y fy gy in
    let t1 = first (eq (sub binary64 v x) y) (eq (sub binary64 v y) x) h in
    let t2 = second (eq (sub binary64 v x) y) (eq (sub binary64 v y) x) h in
    let gv = finite_of v x y gx gy t1 in
    let u = sgn X.s X.a Y.s Y.a in
    let n = mag X.s X.a Y.s Y.a in
    let c = rounded n quantum in
    let V1 : Quanta v u c = add_is x y X.s X.a Y.s Y.a gx gy X.is Y.is in
    let o : c < over = is_under v u c gv V1 in
    let e1 = eq_is (sub binary64 v x) y _ _ Y.s Y.a gy (sub_is v x u c X.s X.a gv gx V1 X.is) Y.is t1 in
    let e2 = eq_is (sub binary64 v y) x _ _ X.s X.a gx (sub_is v y u c Y.s Y.a gv gy V1 Y.is) X.is t2 in
    adds_sum x y u c X.s X.a Y.s Y.a V1 X.is Y.is gv gx gy
    (go (leb Y.j X.j) (leb→le Y.j X.j) (nleb→lt Y.j X.j)
    (λ (k : Y.j ≤ X.j). let A = mult_more k X.mult in
    side_exact u c X.s X.a Y.s Y.a Y.j Y.room (mult_round Y.room (mag_mult X.s Y.s A Y.mult) o) A Y.small e1)
    (λ (k : X.j < Y.j). let B = mult_more (le_of_lt k) Y.mult in
    adds_swap u c Y.s Y.a X.s X.a
    (side_exact u c Y.s Y.a X.s X.a X.j X.room (mult_round X.room (mag_mult X.s Y.s X.mult B) o) B X.small e2)))
  where
    go : {A B C : Type 0} (w : Bool) → (T w → A) → (T (not w) → B) → (A → C) → (B → C) → C
    go true f g p q = p (f tt)
    go false f g p q = q (g tt)

looks_complete : (x y : Float) → T (fits binary64 x) → T (fits binary64 y) → T (finite x) → T (finite y) → T (exact_sum x y)
    → T (looks_exact (add binary64 x y) x y)
unfolding looks_exact
looks_complete x y fx fy gx gy h =
    let v = add binary64 x y in
    let X = form x fx gx in
    let Y = form y fy gy in
    let u = sgn X.s X.a Y.s Y.a in
    let c = rounded (mag X.s X.a Y.s Y.a) quantum in
    let V1 : Quanta v u c = add_is x y X.s X.a Y.s Y.a gx gy X.is Y.is in
    let (gv, k) = sum_adds x y u c X.s X.a Y.s Y.a V1 X.is Y.is h in
    pair (eq (sub binary64 v x) y) (eq (sub binary64 v y) x)
    (side_left v x y u c X.s X.a Y.s Y.a gv gx gy V1 X.is Y.is Y.stays k)
    (side_left v y x u c Y.s Y.a X.s X.a gv gy gx V1 Y.is X.is X.stays (adds_swap u c X.s X.a Y.s Y.a k))

-- THE THEOREM, for all doubles
pub exact_test : (x y : Float) → T (fits binary64 x) → T (fits binary64 y) → looks_exact (add binary64 x y) x y ≡ exact_sum x y
unfolding looks_exact exact_sum add sub neg eq
exact_test nan y fx fy = refl
exact_test (inf true) nan fx fy = refl
exact_test (inf false) nan fx fy = refl
exact_test (inf true) (inf true) fx fy = refl
exact_test (inf true) (inf false) fx fy = refl
exact_test (inf false) (inf true) fx fy = refl
exact_test (inf false) (inf false) fx fy = refl
exact_test (inf true) (fin t n d) fx fy = refl
exact_test (inf false) (fin t n d) fx fy = refl
exact_test (fin s m e) nan fx fy = refl
exact_test (fin s m e) (inf true) fx fy = refl
exact_test (fin s m e) (inf false) fx fy = refl
exact_test (fin s m e) (fin t n d) fx fy =
    let x = fin s m e in
    let y = fin t n d in
    equal_tests (looks_exact (add binary64 x y) x y) (exact_sum x y) (looks_sound x y fx fy tt tt) (looks_complete x y fx fy tt tt)

-- a difference is the sum with the negative
neg_alike : (y : Float) → finite y ≡ finite (neg y)
unfolding neg
neg_alike nan = refl
neg_alike (inf s) = refl
neg_alike (fin s m e) = refl

pub minus_is : (x y : Float) → sub binary64 x y ≡ add binary64 x (neg y)
unfolding sub
minus_is x y = refl

pub difference_is : (x y : Float) → exact_difference x y ≡ exact_sum x (neg y)
unfolding exact_difference exact_sum sub
difference_is x y = λ i. finite x && neg_alike y i && (finite (sub binary64 x y) && equal_same (≈F_refl (value (sub binary64 x y))) turned i)
  where
    turned : value x -F value y ≈F value x +F value (neg y)
    turned = ≈F_trans (sub_is_add (value x) (value y)) (add_cong_f (≈F_refl (value x)) (≈F_sym (value_neg y)))
