-- `writer::tests::numbers_rise` meets its contract: the test from here on is the whole test.
use Rattle.std.proofs.Common.{◌≡◌, drop}
use Rattle.book.specs.Open.{rising}
use Rattle.writer.proofs.tests.numbers_rise.Given as goal

abbrev pub invariant-loop-number : goal.invariant-loop-number
invariant-loop-number l = rising 1 l.numbers ≡ rising l.least (drop l.number-index l.numbers)
