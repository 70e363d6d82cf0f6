-- `decoder::single::chain_of` meets its contract, coefficient by coefficient.
use Rattle.algebra.specs.Lists.{table}
use Rattle.coding.specs.RankOne.{next_error, chain}
use Rattle.decoder.proofs.single.chain_of.Goals as goal

pub returns : goal.returns
unfolding table chain next_error
returns c = cc
