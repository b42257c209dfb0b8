-- A refusal of the text or of the walk, or the listing. Assumes nothing.
use mathlib.Core.Path.{ap, ◌∙◌}
use lib.ListN.{length}
use lib.Seq.{sets}
use Rattle.std.proofs.lemmas.Result.{err_from_is_err_and}
use Rattle.limits.specs.Refusals.{number_of}
use Rattle.text.proofs.CellsLaws.{fresh, no_line, a_line, text_refused, text_listed, listing_small}
use Rattle.text.proofs.cells.listed.Goals as goal

pub returns-in_err-numbers-clause-refused : goal.returns-in_err-numbers-clause-refused
returns-in_err-numbers-clause-refused c =
    let p = err_from_is_err_and c.from_residual.result c.from_residual.ensures.1 in
    rw (p.1, p.2) (no_line _ c.line.ensures _ c.in_err-numbers.was)

pub returns-in_err-walk_line-clause-refused : goal.returns-in_err-walk_line-clause-refused
returns-in_err-walk_line-clause-refused c =
    let p = err_from_is_err_and c.from_residual-in_err-walk_line.result c.from_residual-in_err-walk_line.ensures.1 in
    rw (p.1, p.2)
    (text_refused _ fresh c.walk_line.ensures.answer _ (ap number_of c.in_err-walk_line.was)
    ∙ a_line _ c.line.ensures _ c.in_ok-numbers.was)

pub put_listing-requires : goal.put_listing-requires
put_listing-requires c = listing_small _ fresh c.walk_line.ensures.answer (ap number_of c.in_ok-walk_line.was) c.walk_line.ensures.left

pub returns-clause-text : goal.returns-clause-text
returns-clause-text c =
    c.put_listing.ensures.text
    ∙ ap (sets c.args.out.now 0)
    (text_listed _ fresh c.walk_line.ensures.answer (ap number_of c.in_ok-walk_line.was) c.walk_line.ensures.left
    ∙ a_line _ c.line.ensures _ c.in_ok-numbers.was)

pub returns-clause-end : goal.returns-clause-end
returns-clause-end c =
    c.put_listing.ensures.end
    ∙ ap length
    (text_listed _ fresh c.walk_line.ensures.answer (ap number_of c.in_ok-walk_line.was) c.walk_line.ensures.left
    ∙ a_line _ c.line.ensures _ c.in_ok-numbers.was)
