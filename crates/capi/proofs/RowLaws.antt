-- The ends of intervals in a slice: how many they are, and one interval more. Assumes nothing.
use mathlib.Core.Path.{◌≡◌, refl, sym, ap, ◌∙◌}
use mathlib.Core.List.{List, [], ◌∷◌, ◌++◌}
use Prim.Native.Nat.{ℕ, suc, ◌+◌, ◌*◌, ◌<◌}
use native.Mathlib.Omega.{arith}
use lib.ListN.{length, set, get_or, take}
use lib.Ieee.{Float}
use Rattle.std.proofs.Math.Seq.{take-suc}
use Rattle.std.proofs.lemmas.List.{length-take-le}
use Rattle.interval.specs.declared.Interval.{Interval}
use Rattle.calls.specs.Calls.{rows}
use Rattle.grade.specs.Said.{found}
use Rattle.capi.specs.Lent.{over, status}

pub length_rows : (vs : List Interval) → length (rows vs) ≡ 2 * length vs
length_rows [] = refl
length_rows (v ∷ vs) = let e = length_rows vs in omega arith

pub over_append : {A : Type 0} (xs : List A) (i : ℕ) (vs ws : List A) → over xs i (vs ++ ws) ≡ over (over xs i vs) (i + length vs) ws
over_append xs i [] ws = ap (λ (j : ℕ). over xs j ws) (omega arith)
over_append xs i (v ∷ vs) ws = over_append (set xs i v) (suc i) vs ws ∙ ap (λ (j : ℕ). over (over (set xs i v) (suc i) vs) j ws) (omega arith)

pub rows_append : (vs ws : List Interval) → rows (vs ++ ws) ≡ rows vs ++ rows ws
rows_append [] ws = refl
rows_append (v ∷ vs) ws = ap (λ (xs : List Float). v.lo ∷ v.hi ∷ xs) (rows_append vs ws)

-- the ends of one interval more, written behind those of the others
one_row : (out : List Float) (at : ℕ) (vs : List Interval) (v : Interval)
    → set (set (over out at (rows vs)) (at + 2 * length vs) v.lo) (at + 2 * length vs + 1) v.hi ≡ over out at (rows (vs ++ v ∷ []))
one_row out at vs v =
    let place : at + 2 * length vs ≡ at + length (rows vs) = ap (λ (n : ℕ). at + n) (sym (length_rows vs)) in
    let next : at + 2 * length vs + 1 ≡ suc (at + length (rows vs)) = omega (arith, length_rows vs) in
    (λ i. set (set (over out at (rows vs)) (place i) v.lo) (next i) v.hi)
    ∙ sym (over_append out at (rows vs) (v.lo ∷ v.hi ∷ []))
    ∙ ap (λ (xs : List Float). over out at xs) (sym (rows_append vs (v ∷ [])))

pub one_more : (out ys : List Float) (at n : ℕ) (vs : List Interval) (d : Interval) → n < length vs → ys ≡ over out at (rows (take n vs))
    → set (set ys (at + 2 * n) (get_or vs n d).lo) (at + 2 * n + 1) (get_or vs n d).hi ≡ over out at (rows (take (n + 1) vs))
one_more out ys at n vs d h q =
    let count : length (take n vs) ≡ n = length-take-le n vs (omega (arith, h)) in
    let here : at + 2 * n ≡ at + 2 * length (take n vs) = omega (arith, count) in
    let next : suc n ≡ n + 1 = omega arith in
    (λ i. set (set (q i) (here i) (get_or vs n d).lo) (here i + 1) (get_or vs n d).hi)
    ∙ one_row out at (take n vs) (get_or vs n d)
    ∙ ap (λ (xs : List Interval). over out at (rows xs)) (sym (take-suc vs n d h) ∙ ap (λ (m : ℕ). take m vs) next)

-- two runs of intervals, one behind the other
pub two_rows : (out : List Float) (vs ws : List Interval) (n : ℕ) → 2 * length vs ≡ n → over (over out 0 (rows vs)) n (rows ws) ≡ over out 0 (rows (vs ++ ws))
two_rows out vs ws n h =
    let place : n ≡ 0 + length (rows vs) = omega (arith, h, length_rows vs) in
    ap (λ (j : ℕ). over (over out 0 (rows vs)) j (rows ws)) place
    ∙ sym (over_append out 0 (rows vs) (rows ws))
    ∙ ap (λ (xs : List Float). over out 0 xs) (sym (rows_append vs ws))

pub rows_status : (vs ws : List Interval) → 0 < length vs → 0 ≡ status (found (rows (vs ++ ws)))
rows_status [] ws h = absurd (omega arith)
rows_status (v ∷ vs) ws h = refl
