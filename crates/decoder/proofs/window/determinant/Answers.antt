-- `decoder::window::determinant` meets its contract: two products with cubes and their difference.
use Rattle.coding.specs.Window.{determinant}
use Rattle.decoder.proofs.window.determinant.Goals as goal

pub returns : goal.returns
unfolding determinant
returns c = cc
