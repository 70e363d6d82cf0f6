-- `dead_decoder::steps::Line::back` meets its contract. The loop's invariant: the coefficients so far are back, and x is what stands before the next.
use Rattle.dead_decoder.specs.Lines.{step_of, Backed}
use Rattle.dead_decoder.proofs.steps.Line.back.Given as goal

abbrev pub invariant-loop-i : goal.invariant-loop-i
invariant-loop-i l = Backed (step_of l.self l.a) l.f l.r l.x l.i
