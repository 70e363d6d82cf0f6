-- `dead_decoder::steps::Line::backs` meets its contract. The loop's invariant: the lines that are left take the coefficients back to where all do.
use Rattle.std.proofs.Common.{drop}
use Rattle.rank.specs.Definitions.{at}
use Rattle.dead_decoder.specs.Lines.{step_of, multipliers, Backing}
use Rattle.dead_decoder.proofs.steps.Line.backs.Given as goal

abbrev pub invariant-loop-low : goal.invariant-loop-low
invariant-loop-low l = Backing (step_of l.self) (multipliers l.self) l.mask.bits l.k.value (at l.fn.f) (drop l.low-index l.low-items) l.g
