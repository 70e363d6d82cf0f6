-- `cable::cards::symbols` meets its contract: a refusal of the tests leaves the list as it was.
use Rattle.std.proofs.Common.{map}
use Rattle.std.proofs.lemmas.Result.{err_from_is_err_and}
use Rattle.refusal.specs.Replies.{gives_refused}
use Rattle.levels.specs.Levels.{symbol_of}
use Rattle.cable.specs.Operations.{symbols_refusal}
use Rattle.cable.proofs.cards.symbols.Goals as goal

pub returns-in_err-test_numbers : goal.returns-in_err-test_numbers
unfolding symbols_refusal
returns-in_err-test_numbers c =
    let p = err_from_is_err_and c.from_residual.result c.from_residual.ensures.1 in
    rw (p.1, p.2) (gives_refused _ (map symbol_of c.args.numbers.now) c.args.card.now _ (rw c.lengths_fit-fit.ensures at c.test_numbers.ensures) _ c.in_err-test_numbers.was)
