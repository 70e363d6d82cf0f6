-- `dead_decoder::steps::conjugates` meets its contract: each is the cube of the one before.
use Rattle.algebra.specs.Field.{risen}
use Rattle.algebra.specs.Lists.{table}
use Rattle.dead_decoder.proofs.steps.conjugates.Goals as goal

pub returns : goal.returns
unfolding table risen
returns c =
    simp (c.cubed-a5.ensures, c.cubed-a4.ensures, c.cubed-a3.ensures, c.cubed-a2.ensures, c.cubed-a1.ensures)
