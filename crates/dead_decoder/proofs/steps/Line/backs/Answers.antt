-- `dead_decoder::steps::Line::backs` meets its contract: a line that is dead takes its way back, and one that is not takes none.
use Rattle.std.proofs.Common.{arith}
use Rattle.dead_decoder.specs.Lines.{backing_all, backing_kept, backing_next, backing_end}
use Rattle.dead_decoder.proofs.steps.Line.backs.Goals as goal

pub loop-low-init : goal.loop-low-init
loop-low-init c = backing_all _ _ _ _ c.args.f (omega arith)

pub loop-low-preserved-in_default : goal.loop-low-preserved-in_default
loop-low-preserved-in_default c = backing_kept _ _ _ _ _ _ _ c.loop-low-test.true _ c.loop-low.invariant c.in_default.ensures

pub loop-low-preserved : goal.loop-low-preserved
loop-low-preserved c =
    backing_next _ _ _ _ _ _ _ c.loop-low-test.true _ c.loop-low.invariant c.in-Some.ensures.0 _ _ c.in-Some.ensures.1 c.back-before.ensures.0 c.back-before.ensures.1

pub returns : goal.returns
returns c = backing_end _ _ _ _ _ _ _ _ c.loop-low-test.false c.loop-low.invariant
