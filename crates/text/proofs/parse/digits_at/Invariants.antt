-- The digits still to come, after those passed, give what is asked, and the value has room for as many. Assumes nothing.
use Rattle.std.proofs.Common.{◌≡◌, ◌-◌}
use Rattle.text.specs.Line.{digits_at}
use Rattle.text.proofs.LineLaws.{Room}
use Rattle.text.proofs.parse.digits_at.Given as goal

abbrev pub invariant-loop : goal.invariant-loop
invariant-loop l = (digits_at 7 0 l.t l.from ≡ digits_at (7 - l.counter) l.value l.t l.next) × Room (7 - l.counter) l.value
