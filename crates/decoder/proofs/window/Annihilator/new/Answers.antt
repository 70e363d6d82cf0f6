-- `decoder::window::Annihilator::new` meets its contract: each field by its own call.
use mathlib.Core.Path.{ap, ◌∙◌}
use Rattle.algebra.specs.Inverses.{inverse}
use Rattle.decoder.proofs.window.Annihilator.new.Goals as goal

pub returns : goal.returns
returns c =
    record {
      inverse = c.inverse.ensures ∙ ap inverse c.determinant-before.ensures;
      numerator = c.numerator.ensures;
      determinant = c.requires;
    }
