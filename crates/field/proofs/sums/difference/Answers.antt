-- `field::difference` meets its contract: twice the other symbol.
use mathlib.Core.Path.{◌∙◌}
use Rattle.field.specs.DigitSums.{difference_is}
use Rattle.field.proofs.sums.difference.Goals as goal

pub returns : goal.returns
returns c = c.with_multiple.ensures ∙ difference_is c.args.a c.args.b
