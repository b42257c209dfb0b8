-- The number itself falls. Assumes nothing.
use Rattle.text.proofs.print.Text.+decimal.Given as goal

abbrev pub decreases-decimal : goal.decreases-decimal
decreases-decimal l = l.n
