-- `decoder::one::two_numbers` meets its contract: each number by its call.
use Rattle.decoder.specs.Doubles.{parts_message}
use Rattle.decoder.proofs.one.two_numbers.Goals as goal

pub invariant_of-result-2 : goal.invariant_of-result-2
invariant_of-result-2 c = record { small = rw (c.low.ensures, c.high.ensures) (parts_message _ _) }
