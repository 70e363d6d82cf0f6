-- `capi::lucetcoral_decode` meets its contract: the lists are decode's, and the rank of what the answer holds is given.
use Rattle.rank.specs.declared.Weight.{Weight}
use Rattle.rank.specs.Weight.{no_weight}
use Rattle.std.proofs.Common.{rules}
use Rattle.capi.specs.Given.{answer_says, given}
use Rattle.capi.proofs.lucetcoral_decode.Goals as goal

pub returns : goal.returns
returns c =
    let d = c.decode-weight.ensures in
    let says = answer_says (λ (w : Weight). w.rank) no_weight c.decode-weight.result _ _ d.answers in
    let g = given (λ (w : Weight). w.rank) c.decode-weight.result _ _ says c.map.result (search rules) _ _ _ c.give.ensures.refusal c.give.ensures.given in
    record { answers = g.answers; word_is = d.word_is; message_is = d.message_is; distance_is = g.lent_is }
