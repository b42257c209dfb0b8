-- By the leaf, which is the description's. Assumes nothing.
use mathlib.Core.Path.{ap, ◌∙◌}
use Rattle.grade.specs.Exact.{exact_piece}
use Rattle.calls.proofs.CallLaws.{leaf_level, level_fits, ticks_fit, piece_says}
use Rattle.calls.proofs.calls.level_piece.Goals as goal

pub exact_piece-requires : goal.exact_piece-requires
exact_piece-requires c = (
  level_fits c.args.description c.in_ok-leaf.ensures.leaf c.in_ok-leaf.ensures.number,
  ticks_fit c.args.lo c.args.hi c.ticks.ensures c.ticks-2.ensures c.in_ok-refuse.ensures,
)

pub returns-clause-says : goal.returns-clause-says
returns-clause-says c =
    piece_says c.args.description c.args.lo c.args.hi c.in_ok-leaf.ensures.number
    (c.exact_piece.ensures ∙ ap (λ g. exact_piece g c.args.lo c.args.hi) (leaf_level c.args.description c.in_ok-leaf.ensures.leaf))
