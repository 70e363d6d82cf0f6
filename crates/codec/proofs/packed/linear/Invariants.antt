-- The rows of the symbols so far are added.
use Rattle.std.proofs.Common.{◌≡◌, ◌*◌}
use Rattle.transform.specs.Counts.{added}
use Rattle.codec.proofs.packed.linear.Given as goal

abbrev pub invariant-loop-s : goal.invariant-loop-s
invariant-loop-s l = record { numbers : l.counts.numbers ≡ added l.tables l.card l.s; rows : l.counts.rows ≡ 6 * l.s }
