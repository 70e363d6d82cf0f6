-- `text::writing::Lent+u8::push_decimal` meets its contract: the digits of the tenth part, then the last.
use Rattle.text.specs.Decimal.{decimal_more}
use Rattle.text.proofs.WritingLaws.{writes_then}
use Rattle.text.proofs.writing.Lent+u8.+push_decimal.Goals as goal

pub returns : goal.returns
returns t c = rw (decimal_more c.args.n c.if-n-lt10.false) (writes_then c.push_decimal.ensures c.push-2.ensures)
