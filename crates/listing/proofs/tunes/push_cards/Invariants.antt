-- `listing::tunes::push_cards` meets its contract: the lines of the cards before card n were written, and their delays added.
use Rattle.refusal.specs.Replies.{reply}
use Rattle.listing.specs.Lines.{CardsSo}
use Rattle.listing.proofs.tunes.push_cards.Given as goal

abbrev pub invariant-loop-n : goal.invariant-loop-n
invariant-loop-n l = CardsSo l.body.bytes.now l.fn.text l.text (reply l.ticks) l.n
