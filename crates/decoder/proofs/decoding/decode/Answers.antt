-- `decoder::decoding::decode` meets its contract: the tests decide, and then what was found.
use Rattle.std.proofs.Common.{◌≡◌, true, length, ◌*◌, ◌≤◌}
use Rattle.std.proofs.lemmas.Result.{err_from_is_err_and}
use Rattle.rank.specs.Definitions.{is_card}
use Rattle.refusal.specs.Replies.{no_refusal}
use Rattle.candidate.specs.Finding.{found_fits}
use Rattle.decoder.specs.Filling.{filling_fits}
use Rattle.decoder.specs.Decoding.{decode_tests, decode_passed, decoded_refused, decoded_filled}
use Rattle.decoder.proofs.decoding.decode.Goals as goal
use Rattle.decoder.proofs.decoding.decode.Goals.{In_ok-k}

pub returns-in_err-k : goal.returns-in_err-k
returns-in_err-k c =
    let p = err_from_is_err_and c.from_residual.result c.from_residual.ensures.1 in
    rw (p.1, p.2) (decoded_refused c.args.k c.args.received.now c.args.word.now c.args.message.now _ _ c.decode_tests.ensures.tested c.in_err-k.was)

-- what the tests that were passed say
untouched : (d : In_ok-k) → decode_tests d.args.k d.args.received.now (length d.args.word.now) (length d.args.message.now) ≡ 0
untouched d = no_refusal _ _ d.decode_tests.ensures.tested d.in_ok-k.was

passed : (d : In_ok-k) →
    (1 ≤ d.args.k) × (d.args.k ≤ 5) × (length d.args.received.now ≡ 6) × (is_card d.args.received.now ≡ true) × (length d.args.word.now ≡ 6)
    × (length d.args.message.now ≡ 2 * d.args.k)
passed d = decode_passed _ _ _ _ (untouched d)

pub of_list-requires : goal.of_list-requires
of_list-requires c = let (p, q, six, card, w, m) = passed (goal.at.of_list-requires c).In_ok-k in (six, card)

pub fill_found-requires : goal.fill_found-requires
fill_found-requires c =
    let (p, q, six, card, w, m) = passed (goal.at.fill_found-requires c).In_ok-k in
    rw c.of.ensures (filling_fits _ _ _ (found_fits c.args.k _ c.decode_card-near.result _ _ (rw c.in_ok-k.ensures.dimension at c.decode_card-near.ensures.1) w m))

pub returns : goal.returns
returns c =
    let d = (goal.at.returns c).In_ok-k in
    let (e, matches) = rw (c.of_list.ensures, c.in_ok-k.ensures.dimension) at c.decode_card-near.ensures in
    decoded_filled c.args.k c.args.received.now c.args.word.now c.args.message.now (untouched d) (passed d).5 _ e matches _ _ _ (rw c.of.ensures at c.fill_found.ensures)
