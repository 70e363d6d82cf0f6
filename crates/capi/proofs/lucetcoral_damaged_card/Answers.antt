-- `capi::lucetcoral_damaged_card` meets its contract: the card, or 0 for none, is given.
use Rattle.std.proofs.Common.{rules}
use Rattle.capi.specs.Given.{worn_says, given}
use Rattle.capi.proofs.lucetcoral_damaged_card.Goals as goal

pub returns : goal.returns
returns c =
    given _ c.damaged_card.result _ _ (worn_says c.damaged_card.result _ _ c.damaged_card.ensures) c.map.result (search rules) _ _ _ c.give.ensures.refusal c.give.ensures.given
