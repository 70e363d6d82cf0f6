-- `cable::cards::levels` meets its contract: a refusal of the tests leaves the list as it was.
use Rattle.std.proofs.Common.{map}
use Rattle.std.proofs.lemmas.Result.{err_from_is_err_and}
use Rattle.refusal.specs.Replies.{gives_refused}
use Rattle.levels.specs.Levels.{signed_of}
use Rattle.cable.specs.Operations.{levels_refusal}
use Rattle.cable.proofs.cards.levels.Goals as goal

pub returns-in_err-test_list : goal.returns-in_err-test_list
unfolding levels_refusal
returns-in_err-test_list c =
    let p = err_from_is_err_and c.from_residual.result c.from_residual.ensures.1 in
    rw (p.1, p.2) (gives_refused _ (map signed_of c.args.card.now) c.args.numbers.now _ (rw c.lengths_fit-fit.ensures at c.test_list.ensures) _ c.in_err-test_list.was)
