-- `book::contents::Contents::bodies_bad` meets its contract: the test from here on is the whole test.
use native.Mathlib.Omega.{arith}
use Rattle.std.proofs.lemmas.Grind.{common_steps}
use Rattle.book.specs.ContentsLoops.{bodies_next}
use Rattle.book.proofs.contents.Contents.bodies_bad.Goals as goal
use Rattle.book.proofs.contents.Contents.bodies_bad.Goals.{then-entry-lt1-via-then-entry-lt1, then-entry-lt1-via-else-entry-lt1+then-entry-end}

pub returns-then-entry-lt1 : goal.returns-then-entry-lt1
returns-then-entry-lt1 c =
    elim c.then-entry-lt1.branch [
      | then-entry-lt1-via-then-entry-lt1 w ↦ grind (arith, common_steps, bodies_next)
      | then-entry-lt1-via-else-entry-lt1+then-entry-end w ↦ grind (arith, common_steps, bodies_next)
    ]
