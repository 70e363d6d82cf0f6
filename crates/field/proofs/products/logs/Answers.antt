-- `field::logs` meets its contract: the table is computed once from the definition.
use mathlib.Core.Path.{refl}
use Rattle.algebra.specs.Lists.{table}
use Rattle.algebra.specs.Linear.{computing}
use Rattle.algebra.specs.Products.{orbit}
use Rattle.algebra.specs.Powers.{powers, place, log}
use Rattle.field.proofs.products.logs.Goals as goal

pub returns : goal.returns
unfolding computing table orbit powers place log
returns c = refl
