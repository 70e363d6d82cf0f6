-- `decoder::window::numerator` meets its contract: two products with ninth powers, and their difference.
use Rattle.coding.specs.Window.{numerator}
use Rattle.decoder.proofs.window.numerator.Goals as goal

pub returns : goal.returns
unfolding numerator
returns c = cc
