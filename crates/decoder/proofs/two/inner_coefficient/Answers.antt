-- `decoder::two::inner_coefficient` meets its contract: solved by a window whose middle numerator is computed here.
use Rattle.decoder.proofs.two.inner_coefficient.Goals as goal

pub returns : goal.returns
returns c = rw (c.solve.ensures, c.difference-e.ensures, c.at.ensures)
