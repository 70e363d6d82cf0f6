-- `text::writing::Lent+u8::push_spaced` meets its contract: a space, then the number.
use Rattle.text.specs.Text.{spaced}
use Rattle.text.proofs.WritingLaws.{writes_then, room_after}
use Rattle.text.proofs.writing.Lent+u8.push_spaced.Goals as goal

pub push_decimal-requires : goal.push_decimal-requires
unfolding spaced
push_decimal-requires c = room_after c.push.ensures _ c.requires

pub returns : goal.returns
unfolding spaced
returns c = writes_then c.push.ensures c.push_decimal.ensures
