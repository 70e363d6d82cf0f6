-- `capi::lucetcoral_decode_dead` meets its contract: the lists are decode_dead's, and the rank that it answers is given.
use Prim.Native.Nat.{ℕ}
use Rattle.capi.specs.Given.{itself, answer_says, given}
use Rattle.capi.proofs.lucetcoral_decode_dead.Goals as goal

pub returns : goal.returns
returns c =
    let d = c.decode_dead.ensures in
    let says = answer_says (λ (x : ℕ). x) 0 c.decode_dead.result _ _ d.answers in
    let g = given _ _ _ _ says _ (itself c.decode_dead.result) _ _ _ c.give.ensures.refusal c.give.ensures.given in
    record { answers = g.answers; word_is = d.word_is; message_is = d.message_is; rank_is = g.lent_is }
