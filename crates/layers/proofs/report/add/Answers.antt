-- One layer more at each turn. Assumes nothing.
use mathlib.Core.Path.{◌∙◌}
use native.Mathlib.Omega.{arith}
use Rattle.layers.proofs.ColumnLaws.{none_left, sum_fits, one_layer, length_stored}
use Rattle.layers.proofs.report.add.Goals as goal

pub overflow_add-x : goal.overflow_add-x
overflow_add-x c = omega (arith, c.u64_at-x.ensures, sum_fits _ _ _ c.loop-k-test.true c.loop-k.invariant.rest)

pub loop-k-preserved : goal.loop-k-preserved
loop-k-preserved c = record {
  rest = one_layer _ _ _ c.loop-k-test.true c.u64_at-x.ensures c.put_u64.ensures c.loop-k.invariant.rest;
  long = length_stored c.loop-k.r _ _ c.put_u64.ensures ∙ c.loop-k.invariant.long;
}

pub returns : goal.returns
returns c = none_left _ _ _ c.loop-k-test.false c.loop-k.invariant.rest
