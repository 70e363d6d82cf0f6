-- `book::contents::Contents::bodies_bad` meets its contract: the test from here on is the whole test. A body has at most 65,535 cards, 786,420 bytes,
-- so the end that is counted does not wrap.
use mathlib.Core.Path.{◌≡◌}
use mathlib.Core.Bool.{not}
use Prim.Native.Nat.{◌+◌, ◌*◌, ◌≤◌}
use Rattle.book.specs.Open.{bodies_bad}
use Rattle.book.specs.ContentsLoops.{bodies_on}
use Rattle.book.proofs.contents.Contents.bodies_bad.Given as goal

abbrev pub invariant-loop-e : goal.invariant-loop-e
invariant-loop-e l =
    (l.end ≤ l.initial.end + 786420 * l.e) × (bodies_bad l.self.book.now ≡ not (bodies_on l.self.book.now l.e l.end))
