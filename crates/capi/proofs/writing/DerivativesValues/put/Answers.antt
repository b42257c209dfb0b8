-- The gradient's three intervals, and the Hessian's behind them. Assumes nothing.
use mathlib.Core.Path.{◌≡◌, ap, ◌∙◌}
use native.Mathlib.Omega.{arith}
use borrow.Author.Rules.{rules}
use lib.ListN.{length}
use Rattle.calls.specs.Calls.{rows}
use Rattle.capi.specs.Lent.{over}
use Rattle.capi.proofs.RowLaws.{two_rows, rows_status}
use Rattle.capi.proofs.writing.DerivativesValues.put.Goals as goal

pub returns-clause-status : goal.returns-clause-status
returns-clause-status c =
    let d = c.args.self in
    let three : length d.gradient ≡ 3 = search rules in
    rows_status d.gradient d.hessian (omega (arith, three))

pub returns-clause-left : goal.returns-clause-left
returns-clause-left c =
    let d = c.args.self in
    let three : length d.gradient ≡ 3 = search rules in
    c.put_rows-2.ensures ∙ ap (λ ys. over ys 6 (rows d.hessian)) c.put_rows.ensures
    ∙ two_rows c.args.out.now d.gradient d.hessian 6 (omega (arith, three))
