-- `dead_decoder::card::DeadCard::propose` meets its contract: the coefficients back, and the message read off them and checked.
use mathlib.Core.Path.{◌∙◌}
use Rattle.dead_decoder.specs.Solutions.{proposal_by}
use Rattle.dead_decoder.proofs.card.DeadCard.propose.Goals as goal

pub returns : goal.returns
returns c =
    let d = c.args.self in
    let (found, matches) = rw c.read_message.ensures.of_k at c.near.ensures in
    (found ∙ proposal_by d.rows.bits d.columns.bits d.k.value d.k.within.1 d.card.symbols _ _ _ _ c.solution-f.ensures c.back-g.ensures (rw c.read_message.ensures.of_k at c.read_message.ensures.numbers), matches)
