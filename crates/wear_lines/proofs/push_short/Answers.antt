-- `wear_lines::push_short` meets its contract: the number, then the word and the end of the line.
use Rattle.text.proofs.WritingLaws.{writes_then}
use Rattle.wear_lines.specs.WearLines.{short_line}
use Rattle.wear_lines.proofs.push_short.Goals as goal

pub returns : goal.returns
unfolding short_line
returns c = writes_then c.push_decimal.ensures c.extend_from_slice.ensures
