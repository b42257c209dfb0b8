-- The term has the spans, or it is made and written. Assumes nothing.
use Rattle.std.proofs.Common.{Some, sym, ap, ◌∙◌, ◌%◌, arith}
use Rattle.memory.proofs.TermLaws.{parts_term, term_stored}
use Rattle.memory.proofs.Memory.second.Goals as goal

pub returns-in-Some-clause-value : goal.returns-in-Some-clause-value
returns-in-Some-clause-value c x y z hx hy hz =
    let m = c.args.self.now in
    let r = c.requires in
    ap Some (
    m.remembers.terms (c.args.depth % 32) (omega arith) _ c.in-Some.ensures
    ∙ sym (parts_term m.leaf m.slots m.terms c.args.b c.args.p m.remembers r.slots r.ready r.good c.spans-spans.ensures x y z hx hy hz)
    )

pub invariant_of-self : goal.invariant_of-self
invariant_of-self c =
    let m = c.args.self.now in
    let r = c.requires in
    let own = parts_term m.leaf m.slots m.terms c.args.b c.args.p m.remembers r.slots r.ready r.good c.spans-spans.ensures _ _ _
    (sym c.in_ok-x.ensures) (sym c.in_ok-y.ensures) (sym c.in_ok-z.ensures) in
    record {
      remembers = term_stored m.leaf m.slots m.terms m.remembers (c.args.depth % 32) _ (omega arith) (omega arith)
          (c.second_order-value.ensures ∙ own);
    }
