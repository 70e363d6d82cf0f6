-- `book::contents::Contents::numbers_bad` meets its contract: the test from here on is the whole test.
use mathlib.Core.Path.{◌≡◌}
use mathlib.Core.Bool.{not}
use Rattle.book.specs.Open.{numbers_bad}
use Rattle.book.specs.ContentsLoops.{numbers_on}
use Rattle.book.proofs.contents.Contents.numbers_bad.Given as goal

abbrev pub invariant-loop-e : goal.invariant-loop-e
invariant-loop-e l = numbers_bad l.self.book.now ≡ not (numbers_on l.self.book.now l.e l.least)
