-- `dead_decoder::decoding::decode_dead` meets its contract: the tests decide, and then what was found.
use Rattle.std.proofs.Common.{◌≡◌, length}
use Rattle.std.proofs.lemmas.Result.{err_from_is_err_and}
use Rattle.refusal.specs.Replies.{no_refusal}
use Rattle.dead_decoder.specs.Operation.{dead_tests, found_room, dead_decoded_refused, dead_decoded_none, dead_decoded_done}
use Rattle.dead_decoder.proofs.decoding.decode_dead.Goals as goal
use Rattle.dead_decoder.proofs.decoding.decode_dead.Goals.{In_ok-card}

pub returns-in_err-card : goal.returns-in_err-card
returns-in_err-card c =
    let p = err_from_is_err_and c.from_residual.result c.from_residual.ensures.1 in
    rw (p.1, p.2)
    (dead_decoded_refused c.args.k c.args.received.now c.args.rows c.args.columns c.args.word.now c.args.message.now _ _ c.dead_card.ensures.tested c.in_err-card.was)

-- the tests were passed
untouched : (d : In_ok-card) → dead_tests d.args.k d.args.received.now d.args.rows d.args.columns (length d.args.word.now) (length d.args.message.now) ≡ 0
untouched d = no_refusal _ _ d.dead_card.ensures.tested d.in_ok-card.was

pub fill_found-requires : goal.fill_found-requires
fill_found-requires c =
    rw c.of.ensures
    (found_room c.args.k c.args.received.now c.args.rows c.args.columns c.args.word.now c.args.message.now (untouched (goal.at.fill_found-requires c).In_ok-card)
    c.in_ok-card.card c.in_ok-card.ensures.made _ c.decode-near.ensures)

pub returns-in_err-weight : goal.returns-in_err-weight
returns-in_err-weight c =
    let p = err_from_is_err_and c.from_residual-in_err-weight.result c.from_residual-in_err-weight.ensures.1 in
    rw (p.1, p.2)
    (dead_decoded_none c.args.k c.args.received.now c.args.rows c.args.columns c.args.word.now c.args.message.now (untouched (goal.at.returns-in_err-weight c).In_ok-card)
    c.in_ok-card.card c.in_ok-card.ensures.made _ c.decode-near.ensures _ _ _ (rw c.of.ensures at c.fill_found.ensures) _ c.in_err-weight.was)

pub returns : goal.returns
returns c =
    dead_decoded_done c.args.k c.args.received.now c.args.rows c.args.columns c.args.word.now c.args.message.now (untouched (goal.at.returns c).In_ok-card)
    c.in_ok-card.card c.in_ok-card.ensures.made _ c.decode-near.ensures _ _ _ (rw c.of.ensures at c.fill_found.ensures) _ c.in_ok-weight.was
