-- `field::small_symbol` meets its contract: the formula passed a test of the 27 small numbers.
use Rattle.field.specs.Small.{small_is}
use Rattle.field.proofs.small.small_symbol.Goals as goal

pub returns : goal.returns
returns c = small_is c.args.c
