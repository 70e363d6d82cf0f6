-- `dead_decoder::steps::Line::steps` meets its contract: a line that is dead takes its step, and one that is not takes none.
use Rattle.std.proofs.Common.{arith}
use Rattle.dead_decoder.specs.Lines.{stepping_all, stepping_kept, stepping_next, stepping_end}
use Rattle.dead_decoder.proofs.steps.Line.steps.Goals as goal

pub loop-low-init : goal.loop-low-init
loop-low-init c = stepping_all _ _ _ c.args.h (omega arith)

pub loop-low-preserved-in_default : goal.loop-low-preserved-in_default
loop-low-preserved-in_default c = stepping_kept _ _ _ _ _ _ c.loop-low-test.true _ c.loop-low.invariant c.in_default.ensures

pub loop-low-preserved : goal.loop-low-preserved
loop-low-preserved c =
    stepping_next _ _ _ _ _ _ c.loop-low-test.true _ c.loop-low.invariant c.in-Some.ensures.0 _ _ c.in-Some.ensures.1 c.step-stepped.ensures

pub returns : goal.returns
returns c = stepping_end _ _ _ _ _ _ _ c.loop-low-test.false c.loop-low.invariant
