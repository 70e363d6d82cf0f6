-- `dead_decoder::roots::power_27` meets its contract: three cubes.
use Rattle.algebra.specs.Field.{risen}
use Rattle.dead_decoder.proofs.roots.power_27.Goals as goal

pub returns : goal.returns
unfolding risen
returns c = cc
