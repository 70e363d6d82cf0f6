-- `decoder::single::first_coefficient` meets its contract: the first coefficient of the error, and what is left.
use Rattle.rank.specs.Definitions.{at}
use Rattle.coding.specs.RankOne.{next_error}
use Rattle.decoder.proofs.single.first_coefficient.Goals as goal

pub returns : goal.returns
unfolding next_error at
returns c = cc
