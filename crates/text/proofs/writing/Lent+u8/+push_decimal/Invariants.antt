-- `text::writing::Lent+u8::push_decimal` calls itself with the tenth part, so its measure is the number.
use Rattle.text.proofs.writing.Lent+u8.+push_decimal.Given as goal

abbrev pub decreases-push_decimal : goal.decreases-push_decimal
decreases-push_decimal l = l.n
