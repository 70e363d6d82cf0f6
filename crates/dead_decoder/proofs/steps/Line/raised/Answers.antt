-- `dead_decoder::steps::Line::raised` meets its contract: a cube for rows, the number itself for columns.
use mathlib.Core.Path.{refl}
use Rattle.dead_lines.specs.Steps.{raised}
use Rattle.dead_decoder.proofs.steps.Line.raised.Goals as goal

pub returns-in-Row : goal.returns-in-Row
unfolding raised
returns-in-Row c = rw c.in-Row.is c.cubed.ensures

pub returns-in-Column : goal.returns-in-Column
unfolding raised
returns-in-Column c = rw c.in-Column.is refl
