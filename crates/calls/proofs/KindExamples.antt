-- The kinds of a description, by computation: which are refused, and where a constant level saturates. Assumes nothing.
use mathlib.Core.Path.{◌≡◌, refl}
use mathlib.Core.Bool.{Bool, true, false}
use mathlib.Core.List.{List, [], ◌∷◌}
use Prim.Native.Nat.{ℕ}
use lib.IntN.{ℤ, pos, negsuc}
use Rattle.grade.specs.Grade as grade
use Rattle.grade.specs.Exact.{linear_of, compiled}
use Rattle.grade.specs.Certified.{certification}
use Rattle.grade.specs.Said.{found}
use Rattle.gyroid.specs.declared.Description.{Description}
use Rattle.gyroid.specs.Description.{in_limits, frame_in_limits, part_frame, origin}
use Rattle.gyroid.specs.Refusals.{refusal}
use Rattle.calls.specs.Calls.{saturated_call}

-- a kind with a constant level, in the part frame
abbrev constant : ℤ → ℤ → Description
constant kind c = record {
  period = pos 10240;
  kind = kind;
  level = record { kind = pos 0; from = origin; to = origin; start = c; end = c };
  frame = record { w = pos 1; x = pos 0; y = pos 0; z = pos 0; translation = origin };
}

abbrev RefusedBy : ℤ → ℕ → Type 0
RefusedBy kind n = refusal (constant kind (pos 0)) ≡ n

-- what `saturated` says: true, false or nothing
abbrev Saturates : ℤ → ℤ → List Bool → Type 0
Saturates kind c answer = saturated_call (constant kind c) ≡ found answer

pub record Kinds : Type 0 where
  -- "1: entry outside its limits or kinds", "3: sheet", and "Refusal 1 now admits kind 2."
  pub below : RefusedBy (negsuc 0) 1
  pub network : RefusedBy (pos 0) 0
  pub sheet : RefusedBy (pos 1) 3
  pub primitive : RefusedBy (pos 2) 0
  pub above : RefusedBy (pos 3) 1
  -- "true from 3/2, false to −3/2, else nothing"
  pub network_true : Saturates (pos 0) (pos 1536) (true ∷ [])
  pub network_under : Saturates (pos 0) (pos 1535) []
  pub network_false : Saturates (pos 0) (negsuc 1535) (false ∷ [])
  pub network_over : Saturates (pos 0) (negsuc 1534) []
  -- "Saturation moves to 3 and −3 for this kind"
  pub primitive_true : Saturates (pos 2) (pos 3072) (true ∷ [])
  pub primitive_under : Saturates (pos 2) (pos 3071) []
  pub primitive_half : Saturates (pos 2) (pos 1536) []
  pub primitive_false : Saturates (pos 2) (negsuc 3071) (false ∷ [])
  pub primitive_over : Saturates (pos 2) (negsuc 3070) []

pub kinds : Kinds
unfolding refusal in_limits frame_in_limits part_frame grade.in_limits linear_of compiled certification saturated_call
kinds = record {
  below = refl;
  network = refl;
  sheet = refl;
  primitive = refl;
  above = refl;
  network_true = refl;
  network_under = refl;
  network_false = refl;
  network_over = refl;
  primitive_true = refl;
  primitive_under = refl;
  primitive_half = refl;
  primitive_false = refl;
  primitive_over = refl;
}
