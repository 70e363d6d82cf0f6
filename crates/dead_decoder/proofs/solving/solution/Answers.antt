-- `dead_decoder::solving::solution` meets its contract: n decides which of the three solutions it is.
use native.Mathlib.Omega.{arith}
use Rattle.rank.specs.Definitions.{at}
use Rattle.dead_decoder.specs.Solutions.{solution_two, solution_four, solution_six}
use Rattle.dead_decoder.proofs.solving.solution.Goals as goal

pub solved_pair-f-requires : goal.solved_pair-f-requires
unfolding at
solved_pair-f-requires c = c.determinant-known.ensures

pub returns-in-0-to-2 : goal.returns-in-0-to-2
unfolding at
returns-in-0-to-2 c = solution_two c.args.n c.args.r _ (omega arith) c.solved_pair-f.ensures

pub returns-in-3-to-4 : goal.returns-in-3-to-4
unfolding at
returns-in-3-to-4 c = solution_four c.args.n c.args.r _ (omega arith) (omega arith) c.residual.ensures

pub returns-in_default : goal.returns-in_default
unfolding at
returns-in_default c = solution_six c.args.n c.args.r (omega arith) (omega arith)
