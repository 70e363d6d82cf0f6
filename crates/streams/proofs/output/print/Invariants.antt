-- `streams::output::print` never says that more was taken than there is, and ends: what is left is the text's end, shorter at each turn.
use Rattle.std.proofs.Common.{◌≡◌, length, drop, ◌-◌, ◌≤◌}
use Rattle.streams.proofs.output.print.Given as goal

abbrev pub invariant-loop-taken : goal.invariant-loop-taken
invariant-loop-taken g l = (length l.left ≤ length l.text) × (l.left ≡ drop (length l.text - length l.left) l.text)

abbrev pub decreases-loop-taken : goal.decreases-loop-taken
decreases-loop-taken g l = length l.left
