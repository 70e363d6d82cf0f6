-- `writer::tests::Lists::write_contents` meets its contract: what is written and the entries that are left are the contents.
use Rattle.std.specs.Iterator.Adapters.{zip_first, zip_second}
use Rattle.std.specs.Slice.Iter.{iter_rest}
use Rattle.writer.specs.Writing.{contents_bytes, book_length}
use Rattle.writer.specs.Filled.{EntriesSoFar}
use Rattle.writer.proofs.tests.Lists.write_contents.Given as goal

abbrev pub invariant-loop-number : goal.invariant-loop-number
invariant-loop-number l =
    EntriesSoFar (contents_bytes l.fn.self.numbers.now l.fn.self.counts.now) (iter_rest (zip_first l.number-iterator)) (iter_rest (zip_second l.number-iterator))
    l.start (book_length l.fn.self.counts.now) l.fn.book l.book
