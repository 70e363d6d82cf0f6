-- `book::bodies::total_delay` meets its contract: the sum is what is said of the bytes and the cards before this one.
use mathlib.Core.Path.{◌≡◌, sym, ◌∙◌}
use native.Mathlib.Omega.{arith}
use Rattle.std.proofs.lemmas.Result.{err_from_is_err_and}
use Rattle.refusal.specs.Replies.{refusal_some}
use Rattle.book.specs.Delays.{adding_next, adding_fits, adding_refused}
use Rattle.book.proofs.bodies.total_delay.Goals as goal

pub add_delay-requires : goal.add_delay-requires
add_delay-requires c = adding_fits _ _ _ c.loop-n.invariant _ c.in_ok-body.body.good (omega arith) c.card.ensures

pub returns-in_err-ticks : goal.returns-in_err-ticks
returns-in_err-ticks c =
    let p = err_from_is_err_and c.from_residual-in_err-ticks.result c.from_residual-in_err-ticks.ensures.1 in
    rw (p.1, p.2, ← c.in_ok-body.ensures.same)
    (adding_refused _ _ _ (adding_next _ _ _ c.loop-n.invariant _ _ (omega arith) c.card.ensures c.in_err-ticks.ensures) (refusal_some _))

pub loop-n-preserved : goal.loop-n-preserved
loop-n-preserved c = adding_next _ _ _ c.loop-n.invariant _ _ (omega arith) c.card.ensures c.in_ok-ticks.ensures
