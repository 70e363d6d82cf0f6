-- `field::high` meets its contract: the formula passed a test of all symbols.
use Rattle.field.specs.Small.{high_is}
use Rattle.field.proofs.small.high.Goals as goal

pub returns : goal.returns
returns c = high_is c.args.v
