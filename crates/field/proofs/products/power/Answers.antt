-- `field::power` meets its contract: the table has it at the exponent's place.
use Rattle.algebra.proofs.Powers.{power_at}
use Rattle.field.proofs.products.power.Goals as goal

pub returns : goal.returns
returns c = rw c.powers.ensures (power_at c.args.n c.requires)
