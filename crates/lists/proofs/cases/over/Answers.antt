-- A case tried is one more at the front of those that are still to come. Assumes nothing.
use Rattle.std.proofs.Common.{rules, of_calls, arith, ◌∙◌, true, false, Ok, Err, Some, refl, ap}
use Rattle.lists.proofs.Tries.{called_at, told_at, more_of_none, more_of_same, more_of_differs, tried}
use Rattle.lists.proofs.cases.over.Goals.{then-not-good+in_ok-differs, else-not-good}
use Rattle.lists.proofs.cases.over.Goals as goal

pub loop-preserved-in-Ok-None : goal.loop-preserved-in-Ok-None
loop-preserved-in-Ok-None g c = record {
  tries = search of_calls;
  tells = search of_calls;
  seen = search rules;
  more = more_of_none _ _ _ _ _ _ _ _ _ _ _ _ (called_at _ _ _ _ _ _ _ c.case.ensures (c.in-Ok-None.is ∙ ap Ok c.in-Ok-None.field-0-is)) c.loop.invariant.more;
}

pub loop-preserved : goal.loop-preserved
loop-preserved g c =
    let counted = c.counted-tally.ensures in
    let answered = c.in-Ok-Some.is ∙ ap Ok c.in-Ok-Some.field-0-is in
    elim c.if-not-good.branch [
      | then-not-good+in_ok-differs w ↦ record {
        tries = search of_calls;
        tells = search of_calls;
        seen = search rules;
        more = more_of_differs _ _ _ _ _ _ _ _ _ _ _ _ _ _ _ (called_at _ _ _ _ _ _ _ c.case.ensures (answered ∙ ap (λ x. Ok (Some x)) w.if-not-good.true))
            (told_at _ _ _ _ _ _ w.differs-then-not-good.ensures w.in_ok-differs.was w.differs-is) c.loop.invariant.more
            counted.seen (counted.bad w.if-not-good.true);
      }
      | else-not-good w ↦ record {
        tries = search of_calls;
        tells = search of_calls;
        seen = search rules;
        more = more_of_same _ _ _ _ _ _ _ _ _ _ _ _ _ _ _
            (called_at _ _ _ _ _ _ _ c.case.ensures (answered ∙ ap (λ x. Ok (Some x)) w.if-not-good.false)) w.differs-is c.loop.invariant.more
            counted.seen (counted.good w.if-not-good.false);
      }
    ]

pub returns-in-Err-End : goal.returns-in-Err-End
returns-in-Err-End g c =
    tried _ _ _ _ _ false _ _ _ _ _ _ _ _ _ _
    (called_at _ _ _ _ _ _ _ c.case.ensures (c.in-Err-End.is ∙ ap Err c.in-Err-End.field-0-is)) refl c.loop.invariant.more
    (omega arith) (omega arith)

pub returns-in-Err-Broken : goal.returns-in-Err-Broken
returns-in-Err-Broken g c =
    tried _ _ _ _ _ true _ _ _ _ _ _ _ _ _ _ (called_at _ _ _ _ _ _ _ c.case.ensures (c.in-Err-Broken.is ∙ ap Err c.in-Err-Broken.field-0-is))
    (_, told_at _ _ _ _ _ _ c.differs.ensures c.in_ok-differs-in-Err-Broken.was refl, refl)
    c.loop.invariant.more c.counted.ensures.seen (c.counted.ensures.bad refl)
