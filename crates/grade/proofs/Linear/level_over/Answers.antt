-- The held numerator is within L's bound, and each step fits. Assumes nothing.
use mathlib.Core.Path.{◌≡◌, ◌∙◌}
use lib.IntN.{ℤ, pos, ◌+ℤ◌, ◌-ℤ◌, ◌*ℤ◌}
use mir.Syntax.{w64}
use mir.Val.{to_z, of_z}
use Rattle.std.specs.Int.{int_min, int_max}
use Rattle.exact.specs.Within.{Within}
use Rattle.exact.proofs.IntegerOrder.{<ℤ_le}
use Rattle.exact.proofs.Size.{within_fits}
use Rattle.exact.proofs.Signed.{Is, is, got, fits, bit, add, sub, mul, heard₂}
use Rattle.grade.specs.declared.Linear.{Linear}
use Rattle.grade.specs.Exact.{held, level_over}
use Rattle.grade.specs.Fits.{LinearFits}
use Rattle.grade.proofs.Sizes.{held_is, held_within}
use Rattle.grade.proofs.Linear.level_over.Goals as goal

abbrev read : ℤ → ℤ
read z = to_z w64 (of_z w64 z)

-- w is what `clamp` answered
module _ (g : Linear) (f : LinearFits g) (t w : ℤ) (h : Within 13194139533312 t) (e : w ≡ int_max (pos 0) (int_min (read t) (read g.length_sq))) where
  clamped : Is 13194139533312 w (held t g.length_sq)
  clamped =
      let clamp = heard₂ (λ t l. int_max (pos 0) (int_min t l)) (within_fits tt h) (within_fits tt f.length) e in
      got (clamp ∙ held_is t g.length_sq (<ℤ_le f.apart)) (held_within h f.length)

  first : Is 54043195528445952 (read g.start *ℤ read g.length_sq) (g.start *ℤ g.length_sq)
  first = mul (bit tt (is f.start)) (bit tt (is f.length))

  risen : Is 108086391056891904 (read w *ℤ read (read g.end -ℤ read g.start)) (held t g.length_sq *ℤ (g.end -ℤ g.start))
  risen = mul (bit tt clamped) (bit tt (sub (bit tt (is f.end)) (bit tt (is f.start))))

  level : Is 162129586585337856 (read (read g.start *ℤ read g.length_sq) +ℤ read (read w *ℤ read (read g.end -ℤ read g.start)))
      (g.start *ℤ g.length_sq +ℤ held t g.length_sq *ℤ (g.end -ℤ g.start))
  level = add (bit tt first) (bit tt risen)

pub overflow_mul-result : goal.overflow_mul-result
overflow_mul-result c = fits tt (mul (bit tt (is c.requires.0.start)) (bit tt (is c.requires.0.length)))

pub overflow_mul-result-2 : goal.overflow_mul-result-2
overflow_mul-result-2 c = fits tt (risen _ c.requires.0 _ _ c.requires.1 c.clamp.ensures.value)

pub overflow_add-result : goal.overflow_add-result
overflow_add-result c = fits tt (level _ c.requires.0 _ _ c.requires.1 c.clamp.ensures.value)

pub returns : goal.returns
unfolding level_over
returns c = (bit tt (level _ c.requires.0 _ _ c.requires.1 c.clamp.ensures.value)).same
