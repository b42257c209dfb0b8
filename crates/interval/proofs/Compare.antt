-- What the tests of finite doubles say of the fractions that they are; the lesser and the greater of two doubles. Assumes nothing.
use Rattle.std.proofs.Common.{◌≡◌, ℕ, ◌+◌, ◌*◌, ◌≤◌, Bool, true, false, not, ◌&&◌, ◌||◌, T, eqb, sym, refl, subst, arith, eqb→eq, ltb→lt, nltb→le}
use mathlib.Core.Bool.{beq}
use lib.Dec.{not_T, eqb_refl}
use lib.Ieee.{Float, nan, inf, fin, below, level, lt, eq, le, is_nan, up, down}
use lib.Ieee.Scale.{finite}
use Rattle.exact.specs.Fraction.{◌≤F◌, ◌<F◌}
use Rattle.exact.proofs.Choice.{choose}
use Rattle.exact.proofs.Fraction.{≤F_refl, ≤F_trans, <F_le, <F_irrefl}
use Rattle.interval.specs.Interval.{least, greatest, least4, greatest4}
use Rattle.interval.specs.Encloses.{value}
use Rattle.interval.proofs.Signs.{Le, Lt, le_ratio, lt_ratio}
use Rattle.interval.proofs.Pattern.{finite_real}

-- ---- by sign and size
lt_sizes : (s t : Bool) (a b : ℕ) → T (below s a t b) → Lt s a t b
lt_sizes false false a b h = let k = ltb→lt a b h in omega arith
lt_sizes false true a b h = absurd h
lt_sizes true false a b h = let k = ltb→lt 0 (a + b) h in omega arith
lt_sizes true true a b h = let k = ltb→lt b a h in omega arith

nlt_sizes : (s t : Bool) (a b : ℕ) → T (not (below s a t b)) → Le t b s a
nlt_sizes false false a b h = let k = nltb→le a b h in omega arith
nlt_sizes false true a b h = omega arith
nlt_sizes true false a b h = let k = nltb→le 0 (a + b) h in omega arith
nlt_sizes true true a b h = let k = nltb→le b a h in omega arith

eq_sizes : (s t : Bool) (a b : ℕ) → T (level s a t b) → Le s a t b
eq_sizes s t a b h = go s t (eqb a b) (eqb a 0) (eqb→eq a b) (eqb→eq a 0) h
  where
    go : (s t u v : Bool) → (T u → a ≡ b) → (T v → a ≡ 0) → T (u && (beq s t || v)) → Le s a t b
    go s t false v f g h = absurd h
    go false false true v f g h = let k = f tt in omega arith
    go true true true v f g h = let k = f tt in omega arith
    go false true true true f g h = let k = f tt in let l = g tt in omega arith
    go false true true false f g h = absurd h
    go true false true v f g h = omega arith

-- ---- by value
pub lt_value : (x y : Float) → T (finite x) → T (finite y) → T (lt x y) → value x <F value y
unfolding lt
lt_value nan y f g h = absurd f
lt_value (inf s) y f g h = absurd f
lt_value (fin s m e) nan f g h = absurd g
lt_value (fin s m e) (inf t) f g h = absurd g
lt_value (fin s m e) (fin t n d) f g h = lt_ratio s t (m * up e) (down e) (n * up d) (down d) (lt_sizes s t (m * up e * down d) (n * up d * down e) h)

pub nlt_value : (x y : Float) → T (finite x) → T (finite y) → T (not (lt x y)) → value y ≤F value x
unfolding lt
nlt_value nan y f g h = absurd f
nlt_value (inf s) y f g h = absurd f
nlt_value (fin s m e) nan f g h = absurd g
nlt_value (fin s m e) (inf t) f g h = absurd g
nlt_value (fin s m e) (fin t n d) f g h = le_ratio t s (n * up d) (down d) (m * up e) (down e) (nlt_sizes s t (m * up e * down d) (n * up d * down e) h)

eq_value : (x y : Float) → T (finite x) → T (finite y) → T (eq x y) → value x ≤F value y
unfolding eq
eq_value nan y f g h = absurd f
eq_value (inf s) y f g h = absurd f
eq_value (fin s m e) nan f g h = absurd g
eq_value (fin s m e) (inf t) f g h = absurd g
eq_value (fin s m e) (fin t n d) f g h = le_ratio s t (m * up e) (down e) (n * up d) (down d) (eq_sizes s t (m * up e * down d) (n * up d * down e) h)

pub le_value : (x y : Float) → T (finite x) → T (finite y) → T (le x y) → value x ≤F value y
unfolding le
le_value x y f g h = go (lt x y) (eq x y) (lt_value x y f g) (eq_value x y f g) h
  where
    go : (u v : Bool) → (T u → value x <F value y) → (T v → value x ≤F value y) → T (u || v) → value x ≤F value y
    go true v p q t = <F_le (p tt)
    go false true p q t = q tt
    go false false p q t = absurd t

pub lt_le : (x y : Float) → T (lt x y) → T (le x y)
unfolding le
lt_le x y h = go (lt x y) (eq x y) h
  where
    go : (u v : Bool) → T u → T (u || v)
    go true v t = tt
    go false v t = absurd t

-- ---- x ≤ y fails where one is a NaN and where x is above y, and nowhere else
pub equal_tests : (b c : Bool) → (T b → T c) → (T c → T b) → b ≡ c
equal_tests true true f g = refl
equal_tests true false f g = absurd (f tt)
equal_tests false true f g = absurd (g tt)
equal_tests false false f g = refl

module _ (a b : ℕ) where
  same : a ≤ b → b ≤ a → T (eqb a b)
  same h k = subst (λ (n : ℕ). T (eqb a n)) (together h k) (eqb_refl a)
    where
      together : a ≤ b → b ≤ a → a ≡ b
      together h k = omega arith

both_yes : (x y : Bool) → T x → T y → T (x && y)
both_yes true y t u = u
both_yes false y t u = absurd t

level_yes : (s t : Bool) (a b : ℕ) → Le s a t b → Le t b s a → T (level s a t b)
level_yes false false a b h k = both_yes (eqb a b) true (same a b (omega arith) (omega arith)) tt
level_yes true true a b h k = both_yes (eqb a b) true (same a b (omega arith) (omega arith)) tt
level_yes false true a b h k = both_yes (eqb a b) (eqb a 0) (same a b (omega arith) (omega arith)) (same a 0 (omega arith) (omega arith))
level_yes true false a b h k = both_yes (eqb a b) (eqb a 0) (same a b (omega arith) (omega arith)) (same a 0 (omega arith) (omega arith))

sizes_le : (s t : Bool) (a b : ℕ) → (below s a t b || level s a t b) ≡ not (below t b s a)
sizes_le s t a b = equal_tests (below s a t b || level s a t b) (not (below t b s a))
    (λ h. not_T (below t b s a) (λ k. apart (at_most (below s a t b) (level s a t b) (lt_sizes s t a b) (eq_sizes s t a b) h) (lt_sizes t s b a k)))
    (λ h. some (below s a t b) (nlt_sizes s t a b) (nlt_sizes t s b a h))
  where
    at_most : (u v : Bool) → (T u → Lt s a t b) → (T v → Le s a t b) → T (u || v) → Le s a t b
    at_most true v f g h = let k = f tt in omega arith
    at_most false v f g h = g h

    apart : Le s a t b → Lt t b s a → ⊥
    apart h k = omega arith

    some : (u : Bool) → (T (not u) → Le t b s a) → Le s a t b → T (u || level s a t b)
    some true f h = tt
    some false f h = level_yes s t a b h (f tt)

pub le_is : (x y : Float) → le x y ≡ not (is_nan x || is_nan y || lt y x)
unfolding le lt eq is_nan
le_is nan y = refl
le_is (inf s) nan = refl
le_is (inf true) (inf true) = refl
le_is (inf true) (inf false) = refl
le_is (inf false) (inf true) = refl
le_is (inf false) (inf false) = refl
le_is (inf true) (fin t n d) = refl
le_is (inf false) (fin t n d) = refl
le_is (fin s m e) nan = refl
le_is (fin s m e) (inf true) = refl
le_is (fin s m e) (inf false) = refl
le_is (fin s m e) (fin t n d) = sizes_le s t (m * up e * down d) (n * up d * down e)

-- and so the test of two finite doubles follows from the fractions that they are
pub real_le : (x y : Float) → T (not (is_nan x)) → T (not (is_nan y)) → (T (lt y x) → ⊥) → T (le x y)
real_le x y n m h = subst T (sym (le_is x y)) (go (is_nan x) (is_nan y) (lt y x) n m h)
  where
    go : (a b c : Bool) → T (not a) → T (not b) → (T c → ⊥) → T (not (a || b || c))
    go true b c p q r = absurd p
    go false true c p q r = absurd q
    go false false true p q r = absurd (r tt)
    go false false false p q r = tt

pub le_real : (x y : Float) → T (le x y) → T (not (is_nan x)) × T (not (is_nan y))
le_real x y h = go (is_nan x) (is_nan y) (lt y x) (subst T (le_is x y) h)
  where
    go : (a b c : Bool) → T (not (a || b || c)) → T (not a) × T (not b)
    go true b c t = absurd t
    go false true c t = absurd t
    go false false c t = (tt, tt)

pub value_le : (x y : Float) → T (finite x) → T (finite y) → value x ≤F value y → T (le x y)
value_le x y f g h = real_le x y (finite_real x f) (finite_real y g) (λ t. <F_irrefl (lt_value y x g f t) h)

-- ---- the lesser and the greater: one of the two, and a bound of both
module _ (x y : Float) where
  pub least_one : (P : Float → Type 0) → P x → P y → P (least x y)
  least_one P p q = choose (lt y x) y x P (λ _. q) (λ _. p)

  pub greatest_one : (P : Float → Type 0) → P x → P y → P (greatest x y)
  greatest_one P p q = choose (lt x y) y x P (λ _. q) (λ _. p)

  module _ (f : T (finite x)) (g : T (finite y)) where
    pub least_left : value (least x y) ≤F value x
    least_left = choose (lt y x) y x (λ z. value z ≤F value x) (λ t. <F_le (lt_value y x g f t)) (λ _. ≤F_refl (value x))

    pub least_right : value (least x y) ≤F value y
    least_right = choose (lt y x) y x (λ z. value z ≤F value y) (λ _. ≤F_refl (value y)) (nlt_value y x g f)

    pub greatest_left : value x ≤F value (greatest x y)
    greatest_left = choose (lt x y) y x (λ z. value x ≤F value z) (λ t. <F_le (lt_value x y f g t)) (λ _. ≤F_refl (value x))

    pub greatest_right : value y ≤F value (greatest x y)
    greatest_right = choose (lt x y) y x (λ z. value y ≤F value z) (λ _. ≤F_refl (value y)) (nlt_value x y f g)

-- ---- of four
module _ (a b c d : Float) where
  pub least4_one : (P : Float → Type 0) → P a → P b → P c → P d → P (least4 a b c d)
  least4_one P p q r s = least_one (least a b) (least c d) P (least_one a b P p q) (least_one c d P r s)

  pub greatest4_one : (P : Float → Type 0) → P a → P b → P c → P d → P (greatest4 a b c d)
  greatest4_one P p q r s = greatest_one (greatest a b) (greatest c d) P (greatest_one a b P p q) (greatest_one c d P r s)

  module _ (fa : T (finite a)) (fb : T (finite b)) (fc : T (finite c)) (fd : T (finite d)) where
    pub least4_below : (value (least4 a b c d) ≤F value a) × (value (least4 a b c d) ≤F value b) × (value (least4 a b c d) ≤F value c) × (value (least4 a b c d) ≤F value d)
    least4_below =
        let f = least_one a b (λ z. T (finite z)) fa fb in
        let g = least_one c d (λ z. T (finite z)) fc fd in
        let l = least_left (least a b) (least c d) f g in
        let r = least_right (least a b) (least c d) f g in
        (≤F_trans l (least_left a b fa fb), ≤F_trans l (least_right a b fa fb), ≤F_trans r (least_left c d fc fd), ≤F_trans r (least_right c d fc fd))

    pub greatest4_above : (value a ≤F value (greatest4 a b c d)) × (value b ≤F value (greatest4 a b c d)) × (value c ≤F value (greatest4 a b c d)) × (value d ≤F value (greatest4 a b c d))
    greatest4_above =
        let f = greatest_one a b (λ z. T (finite z)) fa fb in
        let g = greatest_one c d (λ z. T (finite z)) fc fd in
        let l = greatest_left (greatest a b) (greatest c d) f g in
        let r = greatest_right (greatest a b) (greatest c d) f g in
        (≤F_trans (greatest_left a b fa fb) l, ≤F_trans (greatest_right a b fa fb) l, ≤F_trans (greatest_left c d fc fd) r, ≤F_trans (greatest_right c d fc fd) r)
