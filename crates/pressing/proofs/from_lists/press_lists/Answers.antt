-- `pressing::from_lists::press_lists` meets its contract: the writer's answer decides between book and line.
use Rattle.std.proofs.Common.{sym, arith}
use Rattle.text.proofs.WritingLaws.{writes_none}
use Rattle.pressing.specs.Lists.{part_within, part_length, lists_done, lists_silent, lists_said, lists_kept}
use Rattle.pressing.proofs.from_lists.press_lists.Goals as goal

pub slice_bounds-write_book-end : goal.slice_bounds-write_book-end
slice_bounds-write_book-end c =
    part_within c.args.counts.now c.args.book.now c.room_for-size.result c.room_for-size.ensures c.requires.book_room

pub slice_bounds-write_book-end-2 : goal.slice_bounds-write_book-end-2
slice_bounds-write_book-end-2 c =
    sym (part_length c.args.counts.now c.args.book.now c.room_for-size.result c.room_for-size.ensures c.requires.book_room)

pub push_book_refused-requires : goal.push_book_refused-requires
push_book_refused-requires c =
    let said = lists_said _ _ _ c.room_for-size.ensures c.requires.book_room _ _ _ _ c.write_book.ensures _ c.in-Err.is in
    rw (c.into.ensures, ← said) c.requires.line_room

pub returns-in-Ok-clause-book_wrote : goal.returns-in-Ok-clause-book_wrote
returns-in-Ok-clause-book_wrote c =
    (lists_done _ _ _ c.room_for-size.ensures c.requires.book_room _ _ _ _ c.write_book.ensures c.in-Ok.is c.args.book.now).book

pub returns-in-Ok-clause-line_wrote : goal.returns-in-Ok-clause-line_wrote
returns-in-Ok-clause-line_wrote c =
    let silent = lists_silent _ _ _ c.room_for-size.ensures c.requires.book_room _ _ _ _ c.write_book.ensures c.in-Ok.is in
    rw silent (writes_none _ (omega (arith, c.requires.line_room)))

pub returns-in-Err-clause-book_wrote : goal.returns-in-Err-clause-book_wrote
returns-in-Err-clause-book_wrote c =
    lists_kept _ _ _ c.room_for-size.ensures c.requires.book_room _ _ _ _ c.write_book.ensures _ c.in-Err.is

pub returns-in-Err-clause-line_wrote : goal.returns-in-Err-clause-line_wrote
returns-in-Err-clause-line_wrote c =
    let said = lists_said _ _ _ c.room_for-size.ensures c.requires.book_room _ _ _ _ c.write_book.ensures _ c.in-Err.is in
    rw (said, ← c.into.ensures) c.push_book_refused.ensures
