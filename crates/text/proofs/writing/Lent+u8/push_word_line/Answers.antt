-- `text::writing::Lent+u8::push_word_line` meets its contract: the parts of the line one after another.
use Rattle.text.specs.Text.{word_line}
use Rattle.text.proofs.WritingLaws.{writes_then}
use Rattle.text.proofs.writing.Lent+u8.push_word_line.Goals as goal

pub returns : goal.returns
unfolding word_line
returns c = writes_then (writes_then c.extend_from_slice.ensures c.push_spaced.ensures) c.push.ensures
