-- `streams::input::read_all` keeps what was read within the buffer, and ends: each turn leaves less of it.
use Rattle.std.proofs.Common.{length, ◌-◌, ◌≤◌, ◌≡◌}
use Rattle.streams.proofs.input.read_all.Given as goal

abbrev pub invariant-loop-end : goal.invariant-loop-end
invariant-loop-end g l = (length l.buffer ≡ length l.initial.buffer) × (l.end ≤ length l.buffer)

abbrev pub decreases-loop-end : goal.decreases-loop-end
decreases-loop-end g l = length l.initial.buffer - l.end
