-- `decoder::two::Affine::at` meets its contract: a product and a sum.
use Rattle.decoder.specs.Doubles.{value_at}
use Rattle.decoder.proofs.two.Affine.at.Goals as goal

pub returns : goal.returns
unfolding value_at
returns c = cc
