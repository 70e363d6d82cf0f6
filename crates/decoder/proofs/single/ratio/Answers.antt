-- `decoder::single::ratio` meets its contract: a product with the cube of an inverse.
use mathlib.Core.Path.{ap, ◌∙◌}
use Rattle.algebra.specs.Field.{times, cube}
use Rattle.algebra.proofs.Inverses.{inverse_cube}
use Rattle.decoder.proofs.single.ratio.Goals as goal

pub returns : goal.returns
returns c =
    c.cube_product.ensures ∙ ap (times c.args.v) (ap cube c.inverse.ensures ∙ inverse_cube _)
