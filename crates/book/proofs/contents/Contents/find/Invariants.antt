-- `book::contents::Contents::find` meets its contract: no entry before this one bears the number.
use Prim.Native.Nat.{◌-◌, ◌≤◌}
use Rattle.algebra.specs.Search.{NoneIn}
use Rattle.book.specs.Pull.{bears}
use Rattle.book.proofs.contents.Contents.find.Given as goal

abbrev pub invariant-loop-e : goal.invariant-loop-e
invariant-loop-e l = NoneIn (bears l.self.book.now l.number) 0 l.e × (l.e ≤ l.self.count)

abbrev pub decreases-loop-e : goal.decreases-loop-e
decreases-loop-e l = l.self.count - l.e
