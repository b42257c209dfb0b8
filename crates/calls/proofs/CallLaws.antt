-- What the proofs of the public calls share: what a call owes the functions that it calls, and what its answer says. Assumes nothing.
use mathlib.Core.Path.{◌≡◌, refl, sym, ap, ◌∙◌, subst, subst⁻¹}
use mathlib.Core.Bool.{Bool, true, false, cond, not, ◌&&◌}
use mathlib.Core.List.{List, [], ◌∷◌}
use Prim.Native.Nat.{ℕ}
use lib.Dec.{T, eqb}
use lib.IntN.{ℤ}
use lib.Ieee.{Float, neg, le, of_bits}
use Rattle.std.specs.Prelude.{Option, Some, None, Ok}
use Rattle.interval.specs.declared.Interval.{Interval}
use Rattle.interval.specs.Interval.{point}
use Rattle.interval.specs.Encloses.{Small}
use Rattle.interval.proofs.Small.{small_between}
use Rattle.limits.specs.Refusals.{refused, ◌or_else◌}
use Rattle.limits.specs.Ticks.{ticks}
use Rattle.limits.proofs.TickLaws.{both}
use Rattle.limits.proofs.RefusalLaws.{none_first, none_last, kept, number_not}
use Rattle.grade.specs.declared.Piece.{Piece}
use Rattle.grade.specs.Grade.{Point}
use Rattle.grade.specs.Exact.{compiled, exact_piece}
use Rattle.grade.specs.Holds.{InBox, SaysLevel, OfTicks}
use Rattle.grade.specs.Said.{Said, found, refusing, answered}
use Rattle.grade.specs.Fits.{DefFits, Within3}
use Rattle.grade.specs.InUse.{in_use}
use Rattle.grade.proofs.EntryLaws.{ticks_within}
use Rattle.grade.proofs.PieceLaws.{exact_piece_says}
use Rattle.gyroid.specs.declared.Description.{Description}
use Rattle.gyroid.specs.declared.Gyroid.{Gyroid}
use Rattle.gyroid.specs.declared.State.{State}
use Rattle.gyroid.specs.Refusals.{refusal, ends_within, all_finite}
use Rattle.gyroid.specs.Fits.{Accepted}
use Rattle.gyroid.specs.Leaf.{surface_of}
use Rattle.gyroid.specs.Residual.{state_number}
use Rattle.gyroid.specs.Settles.{Holds, Settles}
use Rattle.gyroid.specs.InUse.{leaf, residual, affine_residual, box_state}
use Rattle.gyroid.proofs.AcceptedLaws.{accepted}
use Rattle.gyroid.proofs.LeafLaws.{surface_is, grade_is, leaf_grade, turns_small}
use Rattle.gyroid.proofs.InfiniteLaws.{residual_none, affine_residual_none, box_state_unsettled}
use Rattle.gyroid.proofs.AlikeLaws.{residual_same, state_same}
use Rattle.gyroid.proofs.EnclosureLaws.{residual_holds, state_settles}
use Rattle.calls.specs.Refusals.{farthest, near, all_ordered, has_infinite, all_near, box_refusal, finite_box_refusal}
use Rattle.calls.specs.Fast.{point_at}
use Rattle.calls.specs.Fits.{FastFits, Near}
use Rattle.calls.specs.Calls.{residual_values, point_box, PieceSays, by_rows, residual_call, EnclosureHolds, affine_residual_call, box_state_call, StateSettles}

-- ---- the answers behind numbers
pub found_is : {A : Type 0} {u v : List A} {n : ℕ} → 0 ≡ n → u ≡ v → found u ≡ answered n v
found_is a p = λ i. answered (a i) (p i)

-- ---- the leaf behind a refusal of 0
pub leaf_surface : (d : Description) → (leaf d).surface ≡ surface_of d.kind
leaf_surface d = surface_is d refl

module _ (d : Description) {g : Gyroid} (l : g ≡ leaf d) where
  pub leaf_level : g.grade ≡ compiled d.level
  leaf_level = grade_is d l

  pub level_fits : 0 ≡ refusal d → DefFits g.grade
  level_fits e = subst⁻¹ DefFits leaf_level (accepted d (sym e)).0.fits

-- a refusal's number, and the level of an accepted description
pub ruleset grades = (number_not, leaf_grade, level_fits)

-- ---- what `level_piece` has tested, and what it says
pub ticks_fit : (lo hi : List ℤ) {a b : Bool} → a ≡ ticks lo → b ≡ ticks hi → 0 ≡ refused (not (a && b)) 1 → Within3 1048576 lo × Within3 1048576 hi
ticks_fit lo hi p q e =
    let none = subst (λ (b : Bool). 0 ≡ refused (not b) 1) (λ i. p i && q i) e in
    let (l, h) = both (ticks lo) (ticks hi) (kept (ticks lo && ticks hi) (none_last (not (ticks lo && ticks hi)) 0 (sym none))) in
    (ticks_within lo l, ticks_within hi h)

pub piece_says : (d : Description) (lo hi : List ℤ) → 0 ≡ refusal d → {a : Option Piece} → a ≡ exact_piece (compiled d.level) lo hi → PieceSays d lo hi (Ok a)
piece_says d lo hi e q =
    subst⁻¹ (λ (a : Option Piece). PieceSays d lo hi (Ok a)) q
    (go (exact_piece (compiled d.level) lo hi) (exact_piece_says d.level lo hi (accepted d (sym e)).0.apart))
  where
    go : (a : Option Piece) → ((q : Point) → InBox lo hi q → SaysLevel d.level q a) → PieceSays d lo hi (Ok a)
    go (Some p) f = f
    go None f = tt

-- ---- what `residual` and `box_state` say of the admitted residuals
-- the rows of the three calls, by the number that the code tests: at an infinite end the layer's answer is none, and unsettled
abbrev numbered : {A : Type 0} → Description → List Interval → List A → Said A
numbered d w v = answered (refusal d or_else finite_box_refusal w) v

rows : {A : Type 0} (d : Description) (w : List Interval) (v : List A) {z : List A} → (T (not (all_finite w)) → v ≡ z) → numbered d w v ≡ by_rows d w z v
unfolding finite_box_refusal has_infinite
rows {A} d w v {z} at-infinite = go (eqb n 0) refl (all_ordered w) (all_finite w) (all_near w) at-infinite
  where
    n : ℕ
    n = refusal d

    far : Bool → Bool → Bool → ℕ
    far o f a = refused (not o) 9 or_else refused (f && not a) 10

    go : (b : Bool) → eqb n 0 ≡ b → (o f a : Bool) → (T (not f) → v ≡ z)
        → cond (eqb (cond b (far o f a) n) 0) (found v) (refusing (cond b (far o f a) n))
        ≡ cond (not b) (refusing n) (cond (not o) (refusing 9) (cond (not f) (found z) (cond (not a) (refusing 10) (found v))))
    go false e o f a h = rw e refl
    go true e false f a h = refl
    go true e true false a h = ap (λ (x : List A). found x) (h tt)
    go true e true true false h = refl
    go true e true true true h = refl

module _ (d : Description) (w : List Interval) where
  pub residual_rows : residual_call d w ≡ numbered d w (residual_values (residual (leaf d) w))
  unfolding residual_call
  residual_rows = sym (rows d w (residual_values (residual (leaf d) w)) (λ t. ap residual_values (residual_none in_use (leaf d) w t)))

  pub affine_rows : affine_residual_call d w ≡ numbered d w (residual_values (affine_residual (leaf d) w))
  unfolding affine_residual_call
  affine_rows = sym (rows d w (residual_values (affine_residual (leaf d) w)) (λ t. ap residual_values (affine_residual_none in_use (leaf d) w t)))

  pub state_rows : box_state_call d w ≡ numbered d w (state_number (box_state (leaf d) w) ∷ [])
  unfolding box_state_call
  state_rows =
      sym (rows d w (state_number (box_state (leaf d) w) ∷ []) (λ t. ap (λ (s : State). state_number s ∷ []) (box_state_unsettled in_use (leaf d) w t)))

pub enclosure_holds : (d : Description) (w : List Interval) → 0 ≡ refusal d → {r : Option Interval} → r ≡ residual (leaf d) w → EnclosureHolds d w (Ok r)
enclosure_holds d w e same =
    let a : Accepted d = record { none = sym e } in
    subst⁻¹ (λ (r : Option Interval). EnclosureHolds d w (Ok r)) same
    (go (residual (leaf d) w) (λ lo hi l h q. subst⁻¹ (Holds d lo hi) (residual_same in_use d a lo hi l h w q) (residual_holds in_use d a lo hi l h)))
  where
    go : (r : Option Interval) → ((lo hi : List ℤ) → T (ticks lo) → T (ticks hi) → OfTicks lo hi w → Holds d lo hi r) → EnclosureHolds d w (Ok r)
    go (Some v) f = f
    go None f = tt

pub state_settled : (d : Description) (w : List Interval) → 0 ≡ refusal d → {s : State} → s ≡ box_state (leaf d) w → StateSettles d w (Ok s)
state_settled d w e same =
    let a : Accepted d = record { none = sym e } in
    λ lo hi l h q. subst⁻¹ (Settles d lo hi) (same ∙ state_same in_use d a lo hi l h w q) (state_settles in_use d a lo hi l h)

-- ---- what `fast_distance` has tested
pub fast_fits : (d : Description) {g : Gyroid} → g ≡ leaf d → 0 ≡ refusal d → FastFits g
fast_fits d l e = subst⁻¹ FastFits l (record { turns = turns_small d (accepted d (sym e)).0; grade = level_fits d refl e })

near_point : (x : Float) → T (ends_within farthest (point x)) → Small 40 x
unfolding of_bits neg
near_point x t =
    let (h, _) = both (le (neg farthest) x && le x farthest && le (neg farthest) x) (le x farthest) t in
    let (h, _) = both (le (neg farthest) x && le x farthest) (le (neg farthest) x) h in
    let (a, b) = both (le (neg farthest) x) (le x farthest) h in
    small_between 40 x a b

pub near_is : (p : List Float) {w : List Interval} → w ≡ point_box p → 0 ≡ box_refusal w → Near p
unfolding box_refusal all_near near
near_is p q z =
    let e : box_refusal (point_box p) ≡ 0 = sym (z ∙ ap box_refusal q) in
    let (_, f) = none_first (not (all_ordered (point_box p))) 8 (refused (not (all_near (point_box p))) 10) e in
    let t = kept (all_near (point_box p)) (none_last (not (all_near (point_box p))) 9 f) in
    let within : ℕ → Bool = λ i. ends_within farthest (point (point_at p i)) in
    let (h, z) = both (within 0 && within 1) (within 2) t in
    let (x, y) = both (within 0) (within 1) h in
    record { x = near_point (point_at p 0) x; y = near_point (point_at p 1) y; z = near_point (point_at p 2) z }
