-- `listing::lines::push_ticks` meets its contract: the sum, or that it is unknown.
use Rattle.listing.specs.Lines.{ticks_refused}
use Rattle.listing.proofs.lines.push_ticks.Goals as goal

pub returns-in-Err : goal.returns-in-Err
returns-in-Err c = rw (ticks_refused _ _ c.in-Err.is) c.extend_from_slice.ensures
