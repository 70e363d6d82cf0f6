-- `book::contents::Contents::numbers_bad` meets its contract: the test from here on is the whole test.
use native.Mathlib.Omega.{arith}
use Rattle.std.proofs.lemmas.Grind.{common_steps}
use Rattle.book.specs.ContentsLoops.{numbers_next}
use Rattle.book.proofs.contents.Contents.numbers_bad.Goals as goal
use Rattle.book.proofs.contents.Contents.numbers_bad.Goals.{then-number-least-via-then-number-least, then-number-least-via-else-number-least+then-number-gt9999}

pub returns-then-number-least : goal.returns-then-number-least
returns-then-number-least c =
    elim c.then-number-least.branch [
      | then-number-least-via-then-number-least w ↦ grind (arith, common_steps, numbers_next)
      | then-number-least-via-else-number-least+then-number-gt9999 w ↦ grind (arith, common_steps, numbers_next)
    ]

pub loop-e-preserved : goal.loop-e-preserved
loop-e-preserved c = grind (arith, common_steps, numbers_next)
