-- `dead_decoder::card::DeadCard::back` meets its contract: the way back for columns, and then that for rows.
use Rattle.dead_decoder.specs.Lines.{backs_both}
use Rattle.dead_decoder.proofs.card.DeadCard.back.Goals as goal

pub returns : goal.returns
returns c = backs_both c.args.self.rows.bits c.args.self.columns.bits c.args.k.value c.args.f _ _ c.backs-g.ensures c.backs.ensures
