-- `field::log` meets its contract: the table has it at the symbol's place.
use Rattle.algebra.proofs.Powers.{log_below}
use Rattle.field.specs.Exponents.{log_read}
use Rattle.field.proofs.products.log.Goals as goal

pub returns-clause-value : goal.returns-clause-value
returns-clause-value c = rw c.logs.ensures (log_read c.args.a)

pub returns-clause-bound : goal.returns-clause-bound
returns-clause-bound c = rw (c.logs.ensures, log_read c.args.a) (log_below c.args.a)
