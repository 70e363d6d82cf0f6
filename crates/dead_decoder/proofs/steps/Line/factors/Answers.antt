-- `dead_decoder::steps::Line::factors` meets its contract: a six times for rows, its conjugates for columns.
use mathlib.Core.Path.{refl}
use Rattle.algebra.specs.Lists.{table}
use Rattle.dead_lines.specs.Steps.{multiplier}
use Rattle.dead_decoder.proofs.steps.Line.factors.Goals as goal

pub returns-in-Row : goal.returns-in-Row
unfolding table multiplier
returns-in-Row c = rw c.in-Row.is refl

pub returns-in-Column : goal.returns-in-Column
unfolding multiplier
returns-in-Column c = rw c.in-Column.is c.conjugates.ensures
