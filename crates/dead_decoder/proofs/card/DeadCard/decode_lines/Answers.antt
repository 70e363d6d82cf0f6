-- `dead_decoder::card::DeadCard::decode_lines` meets its contract: what `solve` finds by the card's coefficients, all steps made.
use Rattle.dead_decoder.specs.Operation.{finds_lines}
use Rattle.dead_decoder.proofs.card.DeadCard.decode_lines.Goals as goal

pub returns : goal.returns
returns c = finds_lines c.args.self _ c.requires _ _ c.spectrum-r.ensures c.steps-h.ensures c.solve.ensures
