-- `dead_decoder::tries::lower_rank` meets its contract: n decides what is tested.
use Rattle.rank.specs.Definitions.{at}
use Rattle.dead_lines.specs.Solving.{lower_rank}
use native.Mathlib.Omega.{arith}
use borrow.Author.Tests.{eq-eqb, ne_eqb}
use Rattle.dead_decoder.proofs.tries.lower_rank.Goals as goal

pub returns-in-2 : goal.returns-in-2
unfolding lower_rank at
returns-in-2 c = rw (eq-eqb _ _ c.in-2.is, ← c.determinant.ensures)

pub returns-in-4 : goal.returns-in-4
unfolding lower_rank at
returns-in-4 c = rw c.in-4.is

pub returns-in_default : goal.returns-in_default
unfolding lower_rank
returns-in_default c = rw (ne_eqb c.args.n 2 (λ e. omega arith), ne_eqb c.args.n 4 (λ e. omega arith))
