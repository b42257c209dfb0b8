-- What an exported call reads from the slices lent to it, what it returns, and what it leaves in them. Definitions only; assumes nothing.
use Rattle.std.specs.Prelude.{cond, not, List, [], ◌∷◌, ℕ, suc, ◌+◌, eqb, ltb, ℤ, Float, get_or, set, Result, Ok, Err}
use Rattle.std.specs.Float.{nan}
use Rattle.interval.specs.declared.Interval.{Interval}
use Rattle.grade.specs.declared.Grade.{Grade}
use Rattle.limits.specs.Ticks.{at}
use Rattle.limits.specs.Refusals.{refused, ◌or_else◌, number}
use Rattle.grade.specs.Said.{Said, found, refusing}
use Rattle.gyroid.specs.declared.Description.{Description}
use Rattle.gyroid.specs.declared.Frame.{Frame}
use Rattle.capi.specs.declared.lengths.Fault.{Fault}

-- ---- what is read
-- a point of whole numbers, from place i on
abbrev pub whole_point : List ℤ → ℕ → List ℤ
whole_point ns i = at ns i ∷ at ns (i + 1) ∷ at ns (i + 2) ∷ []

-- "period a; kind ..; level kind ..; anchors `from`, `to`; `start`, `end` ..; frame rotation w, x, y, z and translation"
unfoldable pub level : List ℤ → Grade
level ds = record {
  kind = at ds 2;
  from = whole_point ds 3;
  to = whole_point ds 6;
  start = at ds 9;
  end = at ds 10;
}

unfoldable pub frame : List ℤ → Frame
frame ds = record {
  w = at ds 11;
  x = at ds 12;
  y = at ds 13;
  z = at ds 14;
  translation = whole_point ds 15;
}

unfoldable pub description : List ℤ → Description
description ds = record {
  period = at ds 0;
  kind = at ds 1;
  level = level ds;
  frame = frame ds;
}

-- three doubles from place 0 on, and an interval or a box of intervals from place i on
abbrev pub double : List Float → ℕ → Float
double xs i = get_or xs i nan

abbrev pub point : List Float → List Float
point xs = double xs 0 ∷ double xs 1 ∷ double xs 2 ∷ []

abbrev pub interval : List Float → ℕ → Interval
interval xs i = record { lo = double xs i; hi = double xs (i + 1) }

abbrev pub box : List Float → ℕ → List Interval
box xs i = interval xs i ∷ interval xs (i + 2) ∷ interval xs (i + 4) ∷ []

abbrev pub triangle : List Float → List (List Interval)
triangle xs = box xs 0 ∷ box xs 6 ∷ box xs 12 ∷ []

-- ---- what the lengths refuse
-- 101: an argument that is not of its length, or fewer places than the call has values; then 1: a description of other than 18 entries
unfoldable pub lengths : ℕ → ℕ → ℕ → ℕ → ℕ → ℕ
lengths description given wanted room needed =
    refused (not (eqb given wanted)) 101 or_else refused (ltb room needed) 101 or_else refused (not (eqb description 18)) 1

-- of `derivatives` with a box of six ends and 24 values; then 1: a piece's number above 2
unfoldable pub piece_lent : ℕ → ℕ → ℕ → ℕ → ℕ
piece_lent description world room piece = lengths description world 6 room 24 or_else refused (ltb 2 piece) 1

-- of a walk with a box of six ends; then 1: a tie rule that is neither 0 nor 1
unfoldable pub walk_lent : ℕ → ℕ → ℕ → ℕ
walk_lent description bounds rule = lengths description bounds 6 0 0 or_else refused (ltb 1 rule) 1

-- a call that the number n refuses before it is made
abbrev pub unless : {A : Type 0} → ℕ → Said A → Said A
unless n said = cond (eqb n 0) said (refusing n)

-- ---- what is returned, and what is left
-- the number of a fault, and of an answer, 0 where it is none
abbrev pub fault : Fault → ℕ
fault Fault.Length = 101
fault (Fault.Refused why) = number why

abbrev pub fault_of : {A : Type 0} → Result A Fault → ℕ
fault_of (Ok a) = 0
fault_of (Err f) = fault f

-- 0 where there are values, 100 where nothing is found, and the number of a refusal
abbrev pub status : {A : Type 0} → Said A → ℕ
status (refusing n) = n
status (found []) = 100
status (found (v ∷ vs)) = 0

-- the numbers xs with others written over them, one after the other from place i on
abbrev pub over : {A : Type 0} → List A → ℕ → List A → List A
over xs i [] = xs
over xs i (v ∷ vs) = over (set xs i v) (suc i) vs

abbrev pub written : {A : Type 0} → List A → Said A → List A
written xs (refusing n) = xs
written xs (found vs) = over xs 0 vs
