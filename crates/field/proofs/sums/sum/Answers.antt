-- `field::sum` meets its contract: once the other symbol.
use mathlib.Core.Path.{◌∙◌}
use Rattle.field.specs.DigitSums.{sum_is}
use Rattle.field.proofs.sums.sum.Goals as goal

pub returns : goal.returns
returns c = c.with_multiple.ensures ∙ sum_is c.args.a c.args.b
