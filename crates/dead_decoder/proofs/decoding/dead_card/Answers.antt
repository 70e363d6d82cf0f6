-- `dead_decoder::decoding::dead_card` meets its contract: the tests of `decode`, then the masks, then the number of dead lines.
use Rattle.std.proofs.Common.{sym}
use Rattle.std.proofs.lemmas.Result.{err_from_is_err_and}
use Rattle.decoder.specs.Decoding.{decode_passed}
use Rattle.dead_decoder.specs.Operation.{input_refused, rows_refused, columns_refused, lines_refused, tests_done}
use Rattle.dead_decoder.proofs.decoding.dead_card.Goals as goal

pub returns-in_err-k-clause-tested : goal.returns-in_err-k-clause-tested
returns-in_err-k-clause-tested c =
    let p = err_from_is_err_and c.from_residual.result c.from_residual.ensures.1 in
    rw (p.1, p.2) (input_refused c.args.k c.args.received.now c.args.rows c.args.columns c.args.word c.args.message _ c.in_err-k.ensures.tested)

pub returns-in_err-rows-clause-tested : goal.returns-in_err-rows-clause-tested
returns-in_err-rows-clause-tested c =
    let p = err_from_is_err_and c.from_residual-in_err-rows.result c.from_residual-in_err-rows.ensures.1 in
    rw (p.1, p.2) (rows_refused c.args.k c.args.received.now c.args.rows c.args.columns c.args.word c.args.message c.in_ok-k.ensures.tested _ c.in_err-rows.ensures.0)

pub returns-in_err-columns-clause-tested : goal.returns-in_err-columns-clause-tested
returns-in_err-columns-clause-tested c =
    let p = err_from_is_err_and c.from_residual-in_err-columns.result c.from_residual-in_err-columns.ensures.1 in
    rw (p.1, p.2) (columns_refused c.args.k c.args.received.now c.args.rows c.args.columns c.args.word c.args.message c.in_ok-k.ensures.tested c.in_ok-rows.ensures.0 _ c.in_err-columns.ensures.0)

pub returns-then-k-count-gt6-clause-tested : goal.returns-then-k-count-gt6-clause-tested
returns-then-k-count-gt6-clause-tested c =
    lines_refused c.args.k c.args.received.now c.args.rows c.args.columns c.args.word c.args.message c.in_ok-k.ensures.tested c.in_ok-rows.ensures.0 c.in_ok-columns.ensures.0
    (rw (c.in_ok-k.ensures.dimension, c.count.ensures.0, c.count-2.ensures.0, c.in_ok-rows.ensures.1, c.in_ok-columns.ensures.1) at c.if-k-count-gt6.true)

pub of_list-requires : goal.of_list-requires
of_list-requires c =
    let (p, q, six, card, w, m) = decode_passed c.args.k c.args.received.now c.args.word c.args.message (sym c.in_ok-k.ensures.tested) in
    (six, card)

pub returns-clause-tested : goal.returns-clause-tested
returns-clause-tested c =
    tests_done c.args.k c.args.received.now c.args.rows c.args.columns c.args.word c.args.message c.in_ok-k.ensures.tested c.in_ok-rows.ensures.0 c.in_ok-columns.ensures.0
    (rw (c.in_ok-k.ensures.dimension, c.count.ensures.0, c.count-2.ensures.0, c.in_ok-rows.ensures.1, c.in_ok-columns.ensures.1) at c.if-k-count-gt6.false)
