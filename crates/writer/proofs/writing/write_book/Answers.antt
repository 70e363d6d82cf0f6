-- `writer::writing::write_book` meets its contract: a refusal leaves the book as it was; else the contents and the cards fill it.
use Rattle.std.proofs.Common.{arith, ◌∙◌, ◌++◌, length-append, rules}
use Rattle.std.proofs.lemmas.Result.{err_from_is_err_and}
use Rattle.strike.specs.Turns.{strikes}
use Rattle.text.specs.Writing.{HasRoom}
use Rattle.text.proofs.WritingLaws.{writes_then, room_after}
use Rattle.writer.specs.Writing.{contents_bytes, cards_bytes, book_bytes}
use Rattle.writer.proofs.Filled.{written_refused, whole_fits, written_done}
use Rattle.writer.proofs.writing.write_book.Goals as goal
use Rattle.writer.proofs.writing.write_book.Goals.{After-new-lent}

pub returns-in_err-lists : goal.returns-in_err-lists
returns-in_err-lists c =
    let p = err_from_is_err_and c.from_residual.result c.from_residual.ensures.1 in
    rw (p.1, p.2) (written_refused _ _ _ _ _ c.in_err-lists.ensures.tested)

-- the lent book has room for the contents and the cards
room : (c : After-new-lent) → HasRoom c.new-lent.result (contents_bytes c.in_ok-lists.lists.numbers.now c.in_ok-lists.lists.counts.now ++ cards_bytes (strikes c.in_ok-lists.lists.strikes.now))
unfolding book_bytes
room c =
    let l = c.in_ok-lists.ensures.lists in
    let n = c.new-lent.ensures in
    let w = whole_fits c.args.numbers.now c.args.counts.now c.args.strikes.now c.args.book.now c.in_ok-lists.ensures.tested in
    rw (l.0, l.1, l.2, n.as_it_was, n.at_start) (omega arith)

pub write_contents-requires : goal.write_contents-requires
write_contents-requires c =
    let r = room (goal.at.write_contents-requires c).After-new-lent in
    let l = length-append (contents_bytes c.in_ok-lists.lists.numbers.now c.in_ok-lists.lists.counts.now) (cards_bytes (strikes c.in_ok-lists.lists.strikes.now)) in
    omega arith

pub write_cards-requires : goal.write_cards-requires
write_cards-requires c = room_after c.write_contents.ensures _ (room (goal.at.write_cards-requires c).After-new-lent)

pub returns : goal.returns
unfolding book_bytes
returns c =
    let l = c.in_ok-lists.ensures.lists in
    let n = c.new-lent.ensures in
    let w = rw (l.0, l.1, l.2) at (writes_then c.write_contents.ensures c.write_cards.ensures) in
    let s = w.same_list ∙ n.same_list in
    written_done _ _ _ _ c.in_ok-lists.ensures.tested n.as_it_was n.at_start w (search rules)
