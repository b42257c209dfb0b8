-- The axis that a description and a tie rule give a box: the grade axis is that of "a level of kind 1 with unequal ends", and no other level has
-- one; what a compiled leaf says of it; and that it is fair. Assumes nothing.
use mathlib.Core.Path.{◌≡◌, refl, ap, ◌∙◌}
use mathlib.Core.Bool.{not, ◌&&◌}
use Prim.Native.Nat.{ℕ, ◌<◌}
use lib.Dec.{T}
use Rattle.std.specs.Prelude.{Option, Some, None}
use Rattle.grade.specs.declared.GradeDef.{GradeDef}
use Rattle.grade.specs.Grade.{eq_z, is_linear}
use Rattle.grade.specs.Exact.{numbers, compiled}
use Rattle.grade.specs.Certified.{axis, is_one, def_axis}
use Rattle.grade.proofs.AxisLaws.{axis_one}
use Rattle.grade.proofs.GradeAxisLaws.{graded_axis, graded_one, ungraded_axis}
use Rattle.gyroid.specs.declared.Description.{Description}
use Rattle.gyroid.specs.Refusals.{refusal}
use Rattle.gyroid.proofs.AcceptedLaws.{certified}
use Rattle.tree.specs.declared.Axis.{Axis}
use Rattle.tree.specs.Box.{Box, longest, cut}
use Rattle.tree.specs.Tree.{Fair}
use Rattle.tree.proofs.LongestLaws.{fair_longest}
use Rattle.tree.proofs.CutLaws.{fair_cut}
use Rattle.walk.specs.declared.TieRule.{TieRule}
use Rattle.walk.specs.declared.TieRule.TheVariants.{GradeAxis, LowestAxis}
use Rattle.walk.specs.Walk.{axis_at, cut_by, cut_of}

-- ---- "the axis of a level of kind 1 with unequal ends": of an accepted one it is i, on which alone its anchors differ, and ties go to it
pub record GradedOn (d : Description) : Type 0 where
  pub i : ℕ
  pub below : i < 3
  pub alone : axis (numbers d.level) ≡ Some i
  pub cuts : cut_of GradeAxis d ≡ cut (axis_at i)

pub grade_axis : (d : Description) → refusal d ≡ 0 → T (is_linear d.level && not (eq_z d.level.start d.level.end)) → GradedOn d
unfolding cut_of
grade_axis d e t = go (axis (numbers d.level)) refl (graded_one d.level t (certified d e))
  where
    go : (a : Option ℕ) → axis (numbers d.level) ≡ a → T (is_one a) → GradedOn d
    go (Some i) p u =
        let on = graded_axis d.level t ∙ p in
        record { i = i; below = axis_one (compiled d.level) refl on; alone = p; cuts = ap (λ (a : Option ℕ). cut_by GradeAxis a) on }
    go None p u = absurd u

-- "otherwise the lowest": of any other level by either rule
pub no_grade_axis : (rule : TieRule) (d : Description) → T (not (is_linear d.level && not (eq_z d.level.start d.level.end)))
    → cut_of rule d ≡ longest
unfolding cut_of
no_grade_axis rule d t = ap (λ (a : Option ℕ). cut_by rule a) (ungraded_axis d.level t) ∙ none rule
  where
    none : (rule : TieRule) → cut_by rule None ≡ longest
    none GradeAxis = refl
    none LowestAxis = refl

-- ---- either rule is fair
fair_by : (rule : TieRule) (a : Option ℕ) → Fair (cut_by rule a)
fair_by GradeAxis (Some i) = fair_cut (axis_at i)
fair_by GradeAxis None = fair_longest
fair_by LowestAxis a = fair_longest

pub fair_of : (rule : TieRule) (d : Description) → Fair (cut_of rule d)
unfolding cut_of
fair_of rule d = fair_by rule (def_axis (compiled d.level))

-- ---- what the code takes: a is the axis of the grade g that the level compiles to
pub cut_of_lem : (rule : TieRule) (d : Description) {taken : Box → Axis} {a : Option ℕ} {g : GradeDef}
    → taken ≡ cut_by rule a → a ≡ def_axis g → g ≡ compiled d.level → taken ≡ cut_of rule d
unfolding cut_of
cut_of_lem rule d e f h = e ∙ ap (λ (a : Option ℕ). cut_by rule a) (f ∙ ap def_axis h)
