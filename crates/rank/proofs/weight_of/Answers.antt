-- `rank::weight_of` meets its contract: six entries are the array.
use mathlib.Core.Path.{ap, ◌∙◌}
use Rattle.rank.specs.Arrays.{six}
use Rattle.rank.specs.Weight.{weight_of}
use Rattle.rank.proofs.weight_of.Goals as goal

pub returns : goal.returns
returns c = c.weight_of_six.ensures ∙ ap weight_of (six c.args.symbols c.well_formed.0.1.0.1)
