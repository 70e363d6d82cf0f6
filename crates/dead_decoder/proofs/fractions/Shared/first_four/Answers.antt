-- `dead_decoder::fractions::Shared::first_four` meets its contract: its five numbers are what the law asks.
use mathlib.Core.Path.{refl, ap, ◌∙◌}
use Rattle.algebra.specs.Field.{minus, times}
use Rattle.rank.specs.Definitions.{at}
use Rattle.dead_decoder.specs.Fractions.{prepared_four}
use Rattle.dead_decoder.proofs.fractions.Shared.first_four.Goals as goal

pub returns : goal.returns
unfolding at
returns c =
    prepared_four (at c.args.self.coefficients) c.args.self.back c.args.self.factor _ c.product.ensures
    (c.difference.ensures ∙ ap (minus 0) (c.product-2.ensures ∙ ap (times c.args.self.back) c.cube_product-power.ensures)) refl c.cube.ensures
    (c.difference-2.ensures ∙ ap (minus 0) c.cube-2.ensures)
