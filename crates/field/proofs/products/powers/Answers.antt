-- `field::powers` meets its contract: the table is computed once from the definition.
use mathlib.Core.Path.{refl}
use Rattle.algebra.specs.Linear.{computing}
use Rattle.algebra.specs.Products.{orbit}
use Rattle.algebra.specs.Powers.{powers}
use Rattle.field.proofs.products.powers.Goals as goal

pub returns : goal.returns
unfolding computing orbit powers
returns c = refl
