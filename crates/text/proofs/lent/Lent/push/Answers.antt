-- `text::lent::Lent::push` meets its contract: one element is stored.
use Rattle.std.proofs.Common.{refl, arith}
use Rattle.text.proofs.WritingLaws.{wrote_byte}
use Rattle.text.proofs.lent.Lent.push.Goals as goal

pub returns : goal.returns
returns g c = record { same_list = refl; wrote = wrote_byte _ _ _ (omega arith) }
