-- `decoder::single::last_error` meets its contract: gamma times a small symbol, and a difference.
use Rattle.rank.specs.Definitions.{at}
use Rattle.coding.specs.DecodeSingle.{last_error}
use Rattle.decoder.proofs.single.last_error.Goals as goal

pub returns : goal.returns
unfolding last_error at
returns c = cc
