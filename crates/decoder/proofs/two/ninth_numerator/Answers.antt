-- `decoder::two::ninth_numerator` meets its contract: four products and two sums.
use Rattle.algebra.specs.Field.{cube}
use Rattle.algebra.specs.Products.{times_comm}
use Rattle.rank.specs.Definitions.{at}
use Rattle.decoder.proofs.two.ninth_numerator.Goals as goal

pub returns : goal.returns
unfolding at
returns c =
    cc (times_comm (at c.args.r 4) (cube c.args.known))
