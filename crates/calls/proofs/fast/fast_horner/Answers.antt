-- A call of the closure is one step more of Horner's rule. Assumes nothing.
use mathlib.Core.Path.{◌≡◌, refl, sym, ap, ◌∙◌}
use mathlib.Core.List.{[], ◌∷◌, reverse}
use borrow.Author.Rules.{rules}
use lib.Ieee.{Float, binary64, add, mul}
use Rattle.std.specs.List.{fold}
use Rattle.std.specs.Iterator.Adapters.{rev_steps}
use Rattle.std.specs.Slice.Iter.{iter_steps_back}
use Rattle.std.proofs.lemmas.Fn.{fold_over}
use Rattle.std.proofs.lemmas.Iterator.Adapters.{YieldsList-from_rev_slice}
use Rattle.std.proofs.lemmas.List.Sums.{fold-append}
use Rattle.interval.specs.Step.{b64}
use Rattle.calls.specs.Fast.{fast_horner}
use Rattle.calls.proofs.fast.fast_horner.Goals as goal

pub returns : goal.returns
unfolding fast_horner
returns c =
    let step : Float → Float → Float = λ s k. add binary64 (mul binary64 s c.args.x) k in
    fold_over (rev_steps iter_steps_back) (λ y. y.now) _ (λ ys a. a ≡ fold step (b64 0) ys) _
    (λ ys a k b f' e call.
    let last : b ≡ step a k.now = search rules in
    (last ∙ ap (λ s. step s k.now) e ∙ sym (fold-append step (b64 0) ys (k.now ∷ [])), search rules))
    c.rev.result (reverse c.args.c) _ _ (YieldsList-from_rev_slice {s = c.rev.result} c.args.c cc).runs refl c.fold.ensures.ran
