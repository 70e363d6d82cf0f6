-- `tune_text::tunes::Unread::write` meets its contract: of a refusal nothing is said.
use Rattle.std.proofs.Common.{arith}
use Rattle.text.proofs.WritingLaws.{writes_none}
use Rattle.tune_text.proofs.tunes.Unread.write.Goals as goal

pub returns-in-Refused : goal.returns-in-Refused
returns-in-Refused c = rw c.in-Refused.is (writes_none _ (omega arith))
