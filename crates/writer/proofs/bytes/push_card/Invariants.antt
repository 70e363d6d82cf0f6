-- `writer::bytes::push_card` meets its contract: the symbols so far are written, and the others are left.
use Rattle.std.proofs.Common.{drop}
use Rattle.book.specs.Layout.{symbols_bytes}
use Rattle.writer.specs.Writing.{card_bytes}
use Rattle.text.specs.Writing.{PartWritten}
use Rattle.writer.proofs.bytes.push_card.Given as goal

abbrev pub invariant-loop-symbol : goal.invariant-loop-symbol
invariant-loop-symbol l = PartWritten l.fn.book (card_bytes l.fn.strike) (symbols_bytes (drop l.symbol-index l.symbol-items)) l.book
