-- `press_book::press` prints the book and says the line: each is as long a part of its list as was answered.
use Rattle.std.proofs.Common.{arith, sym, length-take-le}
use Rattle.pressing.proofs.AnswerLaws.{book_within, line_within, book_front, line_front}
use Rattle.press_book.proofs.press.Goals as goal

pub slice_bounds-book-end : goal.slice_bounds-book-end
slice_bounds-book-end c = omega (arith, book_within c.press-lengths.ensures c.in-Ok.is, line_within c.press-lengths.ensures c.in-Ok.is)

pub slice_bounds-print_book-end : goal.slice_bounds-print_book-end
slice_bounds-print_book-end c = sym (length-take-le _ _ (omega (arith, book_within c.press-lengths.ensures c.in-Ok.is, line_within c.press-lengths.ensures c.in-Ok.is)))

pub print_book-requires : goal.print_book-requires
print_book-requires c = book_front c.press-lengths.ensures c.in-Ok.is

pub slice_bounds-line-end : goal.slice_bounds-line-end
slice_bounds-line-end c = omega (arith, book_within c.press-lengths.ensures c.in-Ok.is, line_within c.press-lengths.ensures c.in-Ok.is)

pub slice_bounds-say_line-end : goal.slice_bounds-say_line-end
slice_bounds-say_line-end c = sym (length-take-le _ _ (omega (arith, book_within c.press-lengths.ensures c.in-Ok.is, line_within c.press-lengths.ensures c.in-Ok.is)))

pub say_line-requires : goal.say_line-requires
say_line-requires c = line_front c.press-lengths.ensures c.in-Ok.is
