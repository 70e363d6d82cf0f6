-- `candidate::message::leading_numbers` meets its contract, number by number.
use Rattle.candidate.specs.Places.{leading_numbers}
use Rattle.candidate.proofs.message.leading_numbers.Goals as goal

pub returns : goal.returns
unfolding leading_numbers
returns c = cc
