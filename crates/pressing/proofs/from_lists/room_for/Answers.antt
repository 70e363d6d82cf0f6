-- `pressing::from_lists::room_for` meets its contract: the size, or 0 if it is refused.
use Rattle.std.proofs.Common.{◌∙◌}
use Rattle.pressing.specs.Lists.{room_answered}
use Rattle.pressing.proofs.from_lists.room_for.Goals as goal

pub returns : goal.returns
returns c = c.unwrap_or.ensures ∙ room_answered _ _ c.book_size.ensures
