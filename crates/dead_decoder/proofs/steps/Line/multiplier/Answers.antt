-- `dead_decoder::steps::Line::multiplier` meets its contract: the tables are those of the definition.
use mathlib.Core.Path.{refl}
use Rattle.rank.specs.Definitions.{at}
use Rattle.dead_lines.specs.Multipliers.{row_multipliers, column_multipliers}
use Rattle.dead_decoder.proofs.steps.Line.multiplier.Goals as goal

pub returns-in-Row : goal.returns-in-Row
unfolding at row_multipliers
returns-in-Row c = rw c.in-Row.is refl

pub returns-in-Column : goal.returns-in-Column
unfolding at column_multipliers
returns-in-Column c = rw c.in-Column.is refl
