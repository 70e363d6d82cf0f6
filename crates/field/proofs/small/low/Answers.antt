-- `field::low` meets its contract: the formula passed a test of all symbols.
use Rattle.field.specs.Small.{low_is}
use Rattle.field.proofs.small.low.Goals as goal

pub returns : goal.returns
returns c = low_is c.args.v
