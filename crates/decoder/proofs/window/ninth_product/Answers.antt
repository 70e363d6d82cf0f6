-- `decoder::window::ninth_product` meets its contract: a product with a cube's cube.
use mathlib.Core.Path.{ap, ◌∙◌}
use Rattle.algebra.specs.Field.{times, cube}
use Rattle.algebra.specs.Products.{times_comm}
use Rattle.decoder.proofs.window.ninth_product.Goals as goal

pub returns : goal.returns
returns c = c.cube_product.ensures ∙ times_comm _ _ ∙ ap (λ x. times (cube x) c.args.a) c.cube.ensures
