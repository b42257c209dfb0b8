-- A number below 10 is its digit; any other is the digits of a tenth of it, and then its last. Assumes nothing.
use Rattle.text.proofs.DecimalLaws.{decimal_digit, decimal_digits}
use Rattle.text.proofs.AppendLaws.{as_appended, then_appended}
use Rattle.text.proofs.print.Text.+decimal.Goals as goal

pub returns-then-n-lt10 : goal.returns-then-n-lt10
returns-then-n-lt10 t c = as_appended (decimal_digit _ c.if-n-lt10.true) c.byte.ensures

pub returns : goal.returns
returns t c = as_appended (decimal_digits _ c.if-n-lt10.false) (then_appended _ _ c.decimal.ensures c.byte-2.ensures)
