-- `book::bodies::add_delay` meets its contract: a refusal stays, a refused card is one, and the delay of a strike is added.
use Rattle.std.proofs.lemmas.Result.{err_from_is_err_and}
use Rattle.book.specs.Delays.{card_refused}
use Rattle.book.proofs.bodies.add_delay.Goals as goal

pub returns-in_err-read : goal.returns-in_err-read
returns-in_err-read c =
    let p = err_from_is_err_and c.from_residual-in_err-read.result c.from_residual-in_err-read.ensures.1 in
    rw (p.1, p.2) (card_refused _ _ _ _ c.in_ok-ticks.was c.in_err-read.was)
