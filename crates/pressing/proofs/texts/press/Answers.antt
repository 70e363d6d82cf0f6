-- `pressing::texts::press` meets its contract: the lists are tested, and what was read of the text decides.
use Rattle.std.proofs.Common.{sym, arith, rules, length-take-le}
use Rattle.tune_text.proofs.AnswerLaws.{tunes_room, strikes_room}
use Rattle.pressing.specs.Texts.{ListsRead, Enough}
use Rattle.pressing.proofs.TextLaws.{enough, sizes_so, said_read, said_unread, unread_some}
use Rattle.pressing.proofs.TextLaws.{line_only, line_both, lists_both, presses_refused, presses_ending}
use Rattle.pressing.proofs.Shown.{said_room}
use Rattle.pressing.proofs.texts.press.Goals as goal
use Rattle.pressing.proofs.texts.press.Goals.{Else-lengths_short, After-read_tunes}

pub returns-then-lengths_short : goal.returns-then-lengths_short
returns-then-lengths_short c = presses_refused _ _ _ _ _ _ _ c.lengths_short.ensures c.if-lengths_short.true

-- the lists lent are long enough
large : (c : Else-lengths_short) → Enough c.args.numbers.now c.args.counts.now c.args.strikes.now c.args.book.now c.args.line.now
large c = enough _ _ _ _ _ _ c.lengths_short.ensures c.if-lengths_short.false

-- the lists were read, or left
lists : (c : After-read_tunes) → ListsRead c.args.text.now c.args.numbers.now c.args.counts.now c.args.strikes.now
    c.read_tunes.new.numbers c.read_tunes.new.counts c.read_tunes.new.strikes
lists c =
    let e = c.read_tunes.ensures in
    record { numbers_are = rw e.value at e.numbers_after; counts_are = rw e.value at e.counts_after; strikes_are = rw e.value at e.strikes_after }

-- the sizes are within the lists
pub slice_bounds-press_lists-end : goal.slice_bounds-press_lists-end
slice_bounds-press_lists-end c = let q = sizes_so c.read_tunes.ensures.value c.in-Ok.is in omega (arith, (tunes_room q).0)

pub slice_bounds-press_lists-end-in-Ok : goal.slice_bounds-press_lists-end-in-Ok
slice_bounds-press_lists-end-in-Ok c =
    let q = sizes_so c.read_tunes.ensures.value c.in-Ok.is in sym (length-take-le _ _ (omega (arith, (tunes_room q).0)))

pub slice_bounds-press_lists-end-in-Ok-2 : goal.slice_bounds-press_lists-end-in-Ok-2
slice_bounds-press_lists-end-in-Ok-2 c = let q = sizes_so c.read_tunes.ensures.value c.in-Ok.is in omega (arith, (tunes_room q).1)

pub slice_bounds-press_lists-end-in-Ok-3 : goal.slice_bounds-press_lists-end-in-Ok-3
slice_bounds-press_lists-end-in-Ok-3 c =
    let q = sizes_so c.read_tunes.ensures.value c.in-Ok.is in sym (length-take-le _ _ (omega (arith, (tunes_room q).1)))

pub slice_bounds-press_lists-end-in-Ok-4 : goal.slice_bounds-press_lists-end-in-Ok-4
slice_bounds-press_lists-end-in-Ok-4 c = let q = sizes_so c.read_tunes.ensures.value c.in-Ok.is in omega (arith, strikes_room q)

pub slice_bounds-press_lists-end-in-Ok-5 : goal.slice_bounds-press_lists-end-in-Ok-5
slice_bounds-press_lists-end-in-Ok-5 c =
    let q = sizes_so c.read_tunes.ensures.value c.in-Ok.is in sym (length-take-le _ _ (omega (arith, strikes_room q)))

pub press_lists-book_end-requires-clause-book_room : goal.press_lists-book_end-requires-clause-book_room
press_lists-book_end-requires-clause-book_room c = (large (goal.at.press_lists-book_end-requires-clause-book_room c).Else-lengths_short).book

-- there is room for what is said
pub press_lists-book_end-requires-clause-line_room : goal.press_lists-book_end-requires-clause-line_room
press_lists-book_end-requires-clause-line_room c =
    let at = goal.at.press_lists-book_end-requires-clause-line_room c in
    let h = large at.Else-lengths_short in
    let e = c.read_tunes.ensures.value in
    let q = said_read _ _ _ _ _ _ h _ e _ c.in-Ok.is in
    rw (line_both (lists at.After-read_tunes) e c.in-Ok.is q) (said_room _ c.new-said.result h.line c.new-said.ensures.as_it_was c.new-said.ensures.at_start)

pub write-requires : goal.write-requires
write-requires c =
    let h = large (goal.at.write-requires c).Else-lengths_short in
    let q = said_unread _ _ _ _ _ _ h _ c.read_tunes.ensures.value _ c.in-Err.is in
    rw (← q) (said_room _ c.new-said.result h.line c.new-said.ensures.as_it_was c.new-said.ensures.at_start)

pub returns-in-Ok : goal.returns-in-Ok
returns-in-Ok c =
    let at = goal.at.returns-in-Ok c in
    let h = large at.Else-lengths_short in
    let l = lists at.After-read_tunes in
    let e = c.read_tunes.ensures.value in
    let q = said_read _ _ _ _ _ _ h _ e _ c.in-Ok.is in
    let w = c.press_lists-book_end.ensures in
    let line = rw (c.new-said.ensures.as_it_was, c.new-said.ensures.at_start) at w.line_wrote.wrote in
    presses_ending _ _ _ _ _ _ _ c.lengths_short.ensures c.if-lengths_short.false (lists_both l e c.in-Ok.is q (record { book = w.book_wrote; line = line })) l (search rules)

pub returns-in-Err : goal.returns-in-Err
returns-in-Err c =
    let at = goal.at.returns-in-Err c in
    let h = large at.Else-lengths_short in
    let e = c.read_tunes.ensures.value in
    let q = said_unread _ _ _ _ _ _ h _ e _ c.in-Err.is in
    let some = unread_some _ _ _ _ _ _ h _ e _ c.in-Err.is in
    let line = rw (c.new-said.ensures.as_it_was, c.new-said.ensures.at_start) at c.write.ensures.wrote in
    presses_ending _ _ _ _ _ _ _ c.lengths_short.ensures c.if-lengths_short.false (line_only _ _ _ q some line) (lists at.After-read_tunes) (search rules)
