-- `dead_decoder::card::DeadCard::solve` meets its contract: n decides, and whether the error is known to have a lower rank.
use mathlib.Core.Path.{sym, ◌∙◌}
use Rattle.rank.specs.Definitions.{at}
use Rattle.dead_decoder.specs.Solutions.{solve_odd, solve_lower, solve_tries}
use Rattle.dead_decoder.proofs.card.DeadCard.solve.Goals as goal

pub returns-then-n-eq1 : goal.returns-then-n-eq1
returns-then-n-eq1 c =
    let d = c.args.self in
    rw (← c.order-n.ensures) (c.propose.ensures.0 ∙ solve_odd _ d.k.value d.rows.bits d.columns.bits d.card.symbols (at c.args.h) c.if-n-eq1.true, c.propose.ensures.1)

pub returns-then-lower_rank : goal.returns-then-lower_rank
returns-then-lower_rank c =
    let d = c.args.self in
    rw (← c.order-n.ensures) (
      c.propose-then-lower_rank.ensures.0
          ∙ solve_lower _ d.k.value d.rows.bits d.columns.bits d.card.symbols (at c.args.h) c.if-n-eq1.false (sym c.if-lower_rank.ensures),
      c.propose-then-lower_rank.ensures.1,
    )

pub returns : goal.returns
returns c =
    let d = c.args.self in
    let (found, matches) = rw (c.new.ensures.0, c.new.ensures.1, c.new.ensures.2) at c.by_roots.ensures in
    rw (← c.order-n.ensures) (
      found ∙ solve_tries _ d.k.value d.rows.bits d.columns.bits d.card.symbols (at c.args.h) c.if-n-eq1.false (sym c.if-lower_rank.ensures),
      matches,
    )
