-- `dead_decoder::steps::Line::step` meets its contract: six entries, each from its coefficient and the one before.
use Rattle.dead_decoder.specs.Lines.{step_six}
use Rattle.dead_decoder.proofs.steps.Line.step.Goals as goal

pub returns : goal.returns
returns c =
    rw (c.entry.ensures, c.entry-2.ensures, c.entry-3.ensures, c.entry-4.ensures, c.entry-5.ensures, c.entry-6.ensures)
    (step_six c.args.self c.args.a c.args.h c.factors-m.result c.factors-m.ensures)
