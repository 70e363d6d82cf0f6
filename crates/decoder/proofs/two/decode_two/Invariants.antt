-- `decoder::two::decode_two` meets its contract. The loop's invariant: none of the attempts so far gave an answer.
use mathlib.Core.Path.{◌≡◌}
use mathlib.Core.Option.{none}
use Rattle.coding.specs.Options.{first_of}
use Rattle.coding.specs.DecodeTwo.{attempt}
use Rattle.decoder.proofs.two.decode_two.Given as goal

abbrev pub invariant-loop-a : goal.invariant-loop-a
invariant-loop-a l = first_of l.a (attempt l.card) ≡ none
