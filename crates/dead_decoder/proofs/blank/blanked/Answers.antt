-- `dead_decoder::blank::blanked` meets its contract: the six symbols are those of `blanked`.
use Rattle.dead_decoder.specs.Checking.{blanked_six}
use Rattle.dead_decoder.proofs.blank.blanked.Goals as goal

pub returns : goal.returns
returns c =
    simp (
      c.unless_dead.ensures.0,
      c.kept.ensures,
      c.unless_dead-2.ensures.0,
      c.kept-2.ensures,
      c.unless_dead-3.ensures.0,
      c.kept-3.ensures,
      c.unless_dead-4.ensures.0,
      c.kept-4.ensures,
      c.unless_dead-5.ensures.0,
      c.kept-5.ensures,
      c.unless_dead-6.ensures.0,
      c.kept-6.ensures,
    )
    (blanked_six c.args.rows.bits c.args.columns.bits c.args.d c.well_formed.1.1.0.1.0.1)
