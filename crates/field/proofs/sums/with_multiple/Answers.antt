-- `field::sums::with_multiple` meets its contract: each digit is the remainder of a sum of quotients.
use Rattle.field.specs.DigitSums.{multiple_is}
use Rattle.field.proofs.sums.with_multiple.Goals as goal

pub returns : goal.returns
returns g c = multiple_is g.row.M c.args.a c.args.b
