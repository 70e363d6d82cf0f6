-- `dead_decoder::tries::Tries::all` meets its contract. The loop's invariant: none of the tries so far gave an answer.
use mathlib.Core.Path.{◌≡◌}
use mathlib.Core.Option.{none}
use Rattle.coding.specs.Options.{first_of}
use Rattle.dead_decoder.specs.Tries.{attempts}
use Rattle.dead_decoder.proofs.tries.Tries.all.Given as goal

abbrev pub invariant-loop-b : goal.invariant-loop-b
invariant-loop-b l = first_of l.b (attempts l.self) ≡ none
