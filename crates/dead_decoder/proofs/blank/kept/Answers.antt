-- `dead_decoder::blank::kept` meets its contract: the six digits are those of `kept`.
use Rattle.dead_decoder.specs.Checking.{kept_six}
use Rattle.dead_decoder.proofs.blank.kept.Goals as goal

pub returns : goal.returns
returns c =
    rw (
      c.unless_dead-6.ensures.0,
      c.unless_dead-5.ensures.0,
      c.unless_dead-4.ensures.0,
      c.unless_dead-3.ensures.0,
      c.unless_dead-2.ensures.0,
      c.unless_dead.ensures.0,
    )
    (kept_six c.args.rows.bits c.args.v)
