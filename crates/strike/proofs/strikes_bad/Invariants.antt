-- `strike::strikes_bad` meets its contract: the numbers that are left, under the bounds as they stand, decide.
use Rattle.std.proofs.Common.{◌≡◌, drop}
use Rattle.strike.specs.Turns.{any_beyond, strikes_bad}
use Rattle.strike.proofs.strikes_bad.Given as goal

abbrev pub invariant-loop-number : goal.invariant-loop-number
invariant-loop-number l = strikes_bad l.numbers ≡ any_beyond l.most l.next l.last (drop l.number-index l.numbers)
