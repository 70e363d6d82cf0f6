-- `dead_decoder::fractions::Shared::first_six` meets its contract: its five numbers are what the law asks.
use Rattle.rank.specs.Definitions.{at}
use mathlib.Core.Path.{refl, ap, ◌∙◌}
use Rattle.algebra.specs.Field.{minus}
use Rattle.dead_decoder.specs.Fractions.{prepared_six}
use Rattle.dead_decoder.proofs.fractions.Shared.first_six.Goals as goal

pub returns : goal.returns
unfolding at
returns c =
    prepared_six (at c.args.self.coefficients) c.args.self.back c.args.self.factor _ c.product.ensures refl (c.difference.ensures ∙ ap (minus 0) c.product-2.ensures) refl refl
