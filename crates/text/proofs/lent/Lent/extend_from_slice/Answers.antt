-- `text::lent::Lent::extend_from_slice` meets its contract: a part of the list is overwritten.
use Rattle.std.proofs.Common.{refl, arith}
use Rattle.text.proofs.WritingLaws.{wrote_part}
use Rattle.text.proofs.lent.Lent.extend_from_slice.Goals as goal

pub returns : goal.returns
returns g c = record { same_list = refl; wrote = wrote_part _ _ _ _ _ c.copy_from_slice.ensures.after (omega arith) c.requires }
