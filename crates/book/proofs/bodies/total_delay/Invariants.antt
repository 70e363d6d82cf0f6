-- `book::bodies::total_delay` meets its contract: the sum is what is said of the bytes and the cards before this one.
use Rattle.refusal.specs.Replies.{replied}
use Rattle.book.specs.Delays.{Adding}
use Rattle.book.proofs.bodies.total_delay.Given as goal

abbrev pub invariant-loop-n : goal.invariant-loop-n
invariant-loop-n l = Adding l.body.bytes.now (replied l.ticks) l.n
