-- `dead_decoder::card::DeadCard::steps` meets its contract: the steps for rows, and then those for columns.
use Rattle.dead_decoder.specs.Lines.{steps_both}
use Rattle.dead_decoder.proofs.card.DeadCard.steps.Goals as goal

pub returns : goal.returns
returns c = steps_both c.args.self.rows.bits c.args.self.columns.bits c.args.h _ _ c.steps-g.ensures c.steps.ensures
