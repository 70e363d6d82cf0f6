-- `dead_decoder::fractions::Fraction::at` meets its contract: two values, a quotient and a sum.
use Rattle.dead_decoder.specs.Fractions.{fraction_at}
use Rattle.dead_decoder.proofs.fractions.Fraction.at.Goals as goal

pub returns : goal.returns
unfolding fraction_at
returns c = cc
