-- The axis along which the anchors differ: it is below 3, `planes` has the anchors' positions on it, and the distance along it is the anchors'.
-- Assumes nothing.
use mathlib.Core.Path.{◌≡◌, refl, sym, ap, ◌∙◌, subst}
use mathlib.Core.Bool.{Bool, true, false, not, ◌&&◌}
use mathlib.Core.List.{List, [], ◌∷◌}
use Rattle.std.specs.Prelude.{Option, Some, None, is_some}
use Prim.Native.Nat.{ℕ, ◌<◌}
use lib.Dec.{T, lit<}
use lib.IntN.{ℤ, pos, ◌+ℤ◌, ◌-ℤ◌, ◌*ℤ◌}
use lib.Signed.{lt_z, le_z, le_z_yes}
use Rattle.exact.specs.Within.{Within}
use Rattle.exact.proofs.Choice.{choose}
use Rattle.exact.proofs.IntegerOrder.{≤ℤ_antisym}
use Rattle.exact.proofs.Ring.{lit, ◌⊕◌, ◌⊖◌, ◌⊗◌, ring}
use Rattle.grade.specs.declared.Grade.{Grade}
use Rattle.grade.specs.declared.Linear.{Linear}
use Rattle.grade.specs.declared.GradeDef.{GradeDef}
use Rattle.grade.specs.declared.Planes.{Planes}
use Rattle.limits.specs.Ticks.{at}
use Rattle.grade.specs.Grade.{eq_z, minus, dot}
use Rattle.grade.specs.Exact.{linear_of, numbers, compiled}
use Rattle.grade.specs.Certified.{only, axis_of, axis, is_one, def_axis, planes_on, planes, size, distance}
use Rattle.grade.specs.Fits.{Within3}
use Rattle.grade.specs.Extended.{positions}
use Rattle.grade.proofs.Axes.{three}
use Rattle.limits.proofs.TickLaws.{both}
use Rattle.grade.proofs.Accepted.{by_kind}

-- ---- it is below 3
abbrev Below : Option ℕ → Type 0
Below (Some i) = i < 3
Below None = Unit {0}

of_below : (x y z : Bool) → Below (axis_of x y z)
of_below true y z = lit< tt
of_below false true z = lit< tt
of_below false false true = lit< tt
of_below false false false = tt

linear_below : (g : Linear) → Below (axis g)
unfolding axis
linear_below g = of_below (only (d 0) (d 1) (d 2)) (only (d 1) (d 2) (d 0)) (only (d 2) (d 0) (d 1))
  where
    d : ℕ → ℤ
    d = at g.direction

below : (g : GradeDef) → Below (def_axis g)
unfolding def_axis
below (GradeDef.Constant c) = tt
below (GradeDef.Linear g) = linear_below g

pub linear_axis_one : (g : Linear) {a : Option ℕ} {i : ℕ} → a ≡ axis g → a ≡ Some i → i < 3
linear_axis_one g p q = subst Below (sym p ∙ q) (linear_below g)

pub axis_one : (g : GradeDef) {a : Option ℕ} {i : ℕ} → a ≡ def_axis g → a ≡ Some i → i < 3
axis_one g p q = subst Below (sym p ∙ q) (below g)

-- std's test for none is the other way round
pub one_test : {r : Bool} {a b : Option ℕ} → is_some a ≡ not r → a ≡ b → r ≡ not (is_one b)
one_test {r} {a} {b} e p = turned r (is_one b) (sym e ∙ some a ∙ ap is_one p)
  where
    some : (a : Option ℕ) → is_some a ≡ is_one a
    some (Some i) = refl
    some None = refl

    turned : (r s : Bool) → not r ≡ s → r ≡ not s
    turned true s e = ap not e
    turned false s e = ap not e

abbrev pub PlanesBelow : Option Planes → Type 0
PlanesBelow (Some p) = p.axis < 3
PlanesBelow None = Unit {0}

pub planes_below : (g : GradeDef) → PlanesBelow (planes g)
unfolding planes
planes_below (GradeDef.Constant c) = tt
planes_below (GradeDef.Linear g) = go (axis g) (linear_below g)
  where
    go : (a : Option ℕ) → Below a → PlanesBelow (planes_on a g)
    go (Some i) h = h
    go None h = tt

pub within_at : {n : ℕ} {v : List ℤ} → Within3 n v → (i : ℕ) → i < 3 → Within n (at v i)
within_at {n} {v} h = three (λ i. Within n (at v i)) h.x h.y h.z

-- ---- "the positions of `from` and `to` in ticks"
pub planes_are : (g : Grade) → planes (compiled g) ≡ positions (def_axis (compiled g)) g
unfolding planes def_axis axis linear_of minus
planes_are g = by_kind g (λ G. planes G ≡ positions (def_axis G) g) (λ _. go (only (d 0) (d 1) (d 2)) (only (d 1) (d 2) (d 0)) (only (d 2) (d 0) (d 1))) (λ _. refl)
  where
    d : ℕ → ℤ
    d i = at (minus g.to g.from) i

    to : (a b : ℤ) → a +ℤ (b -ℤ a) ≡ b
    to a b = ring 2 (λ a b. a ⊕ (b ⊖ a)) (λ a b. b) tt (a ∷ b ∷ [])

    found : ℕ → ℤ → Option Planes
    found i z = Some (record { axis = i; from = at g.from i; to = z })

    go : (x y z : Bool) → planes_on (axis_of x y z) (numbers g) ≡ positions (axis_of x y z) g
    go true y z = ap (found 0) (to (at g.from 0) (at g.to 0))
    go false true z = ap (found 1) (to (at g.from 1) (at g.to 1))
    go false false true = ap (found 2) (to (at g.from 2) (at g.to 2))
    go false false false = refl

-- ---- the "anchor distance": its square is L
size_square : (a : ℤ) → size a *ℤ size a ≡ a *ℤ a
size_square a = choose (lt_z a (pos 0)) (pos 0 -ℤ a) a (λ s. s *ℤ s ≡ a *ℤ a) (λ _. ring 1 (λ a. (lit (pos 0) ⊖ a) ⊗ (lit (pos 0) ⊖ a)) (λ a. a ⊗ a) tt (a ∷ [])) (λ _. refl)

zero_is : (a : ℤ) → T (eq_z a (pos 0)) → a ≡ pos 0
zero_is a t = let (h, k) = both (le_z a (pos 0)) (le_z (pos 0) a) t in ≤ℤ_antisym {a = a} {b = pos 0} (le_z_yes h) (le_z_yes k)

-- the first of three alone is not 0
alone : (a b c : ℤ) → T (only a b c) → (size a +ℤ size b +ℤ size c) *ℤ (size a +ℤ size b +ℤ size c) ≡ a *ℤ a +ℤ b *ℤ b +ℤ c *ℤ c
alone a b c t =
    let (h, k) = both (not (eq_z a (pos 0)) && eq_z b (pos 0)) (eq_z c (pos 0)) t in
    let (_, l) = both (not (eq_z a (pos 0))) (eq_z b (pos 0)) h in
    subst (λ (x : ℤ). (size a +ℤ size x +ℤ size c) *ℤ (size a +ℤ size x +ℤ size c) ≡ a *ℤ a +ℤ x *ℤ x +ℤ c *ℤ c) (sym (zero_is b l))
    (subst (λ (x : ℤ). (size a +ℤ pos 0 +ℤ size x) *ℤ (size a +ℤ pos 0 +ℤ size x) ≡ a *ℤ a +ℤ pos 0 +ℤ x *ℤ x) (sym (zero_is c k))
    (ring 1 (λ s. (s ⊕ lit (pos 0) ⊕ lit (pos 0)) ⊗ (s ⊕ lit (pos 0) ⊕ lit (pos 0))) (λ s. s ⊗ s ⊕ lit (pos 0) ⊕ lit (pos 0)) tt (size a ∷ []) ∙ ap (λ q. q +ℤ pos 0 +ℤ pos 0) (size_square a)))

pub distance_square : (g : Linear) → T (is_one (axis g)) → distance g *ℤ distance g ≡ dot g.direction g.direction
unfolding axis distance dot
distance_square g t = go (only (d 0) (d 1) (d 2)) (only (d 1) (d 2) (d 0)) (only (d 2) (d 0) (d 1)) (alone (d 0) (d 1) (d 2)) (λ u. turned (d 1) (d 2) (d 0) (alone (d 1) (d 2) (d 0) u)) (λ u. turned (d 1) (d 2) (d 0) (turned (d 2) (d 0) (d 1) (alone (d 2) (d 0) (d 1) u))) t
  where
    d : ℕ → ℤ
    d = at g.direction

    Same : ℤ → ℤ → ℤ → Type 0
    Same a b c = (size a +ℤ size b +ℤ size c) *ℤ (size a +ℤ size b +ℤ size c) ≡ a *ℤ a +ℤ b *ℤ b +ℤ c *ℤ c

    turned : (a b c : ℤ) → Same a b c → Same c a b
    turned a b c e = ring 3 (λ a b c. (c ⊕ a ⊕ b) ⊗ (c ⊕ a ⊕ b)) (λ a b c. (a ⊕ b ⊕ c) ⊗ (a ⊕ b ⊕ c)) tt (size a ∷ size b ∷ size c ∷ []) ∙ e ∙ ring 3 (λ a b c. a ⊗ a ⊕ b ⊗ b ⊕ c ⊗ c) (λ a b c. c ⊗ c ⊕ a ⊗ a ⊕ b ⊗ b) tt (a ∷ b ∷ c ∷ [])

    go : (x y z : Bool) → (T x → Same (d 0) (d 1) (d 2)) → (T y → Same (d 0) (d 1) (d 2)) → (T z → Same (d 0) (d 1) (d 2)) → T (is_one (axis_of x y z)) → Same (d 0) (d 1) (d 2)
    go true y z f h k u = f tt
    go false true z f h k u = h tt
    go false false true f h k u = k tt
    go false false false f h k u = absurd u
