-- `dead_decoder::steps::Line::steps` meets its contract. The loop's invariant: the lines that are left take the coefficients to where all take them.
use Rattle.std.proofs.Common.{drop}
use Rattle.rank.specs.Definitions.{at}
use Rattle.dead_decoder.specs.Lines.{step_of, multipliers, Stepping}
use Rattle.dead_decoder.proofs.steps.Line.steps.Given as goal

abbrev pub invariant-loop-low : goal.invariant-loop-low
invariant-loop-low l = Stepping (step_of l.self) (multipliers l.self) l.mask.bits (at l.fn.h) (drop l.low-index l.low-items) l.g
