-- `decoder::single::decode_four` meets its contract. The loop's invariant: none of the attempts so far gave an answer.
use mathlib.Core.Path.{◌≡◌}
use mathlib.Core.Option.{none}
use Rattle.coding.specs.Options.{first_of}
use Rattle.coding.specs.DecodeSingle.{attempt_four}
use Rattle.decoder.proofs.single.decode_four.Given as goal

abbrev pub invariant-loop-d : goal.invariant-loop-d
invariant-loop-d l = first_of l.d (attempt_four l.received.card.symbols) ≡ none
