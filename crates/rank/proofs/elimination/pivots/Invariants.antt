-- `rank::elimination::pivots` meets its contract: as many rows as the pivot log is long. The outer loop: the rows chosen, and those that the pivot log from
-- here on chooses. The inner one: what is left to clear makes the rest.
use mathlib.Core.Path.{◌≡◌}
use Prim.Native.Nat.{◌+◌, ◌≤◌}
use lib.ListN.{length, get_or}
use Rattle.rank.specs.Elimination.{Digits, DigitRows, Taken, clear_on, pivot_log_on, pivot_log}
use Rattle.rank.proofs.elimination.pivots.Given as goal

abbrev pub invariant-loop-i : goal.invariant-loop-i
invariant-loop-i l = (clear_on (l.r + 1) l.j l.p l.initial.n ≡ clear_on l.i l.j l.p l.n) × DigitRows l.n × Digits l.p × (l.a ≡ get_or l.p l.j 0) × Taken (l.r + 1) l.n × (l.r + 1 ≤ l.i)

abbrev pub invariant-loop-j : goal.invariant-loop-j
invariant-loop-j l = (l.j ≤ 6) × (l.r ≤ l.j) × (l.r + length (pivot_log_on l.j l.r l.n) ≡ length (pivot_log l.initial.n)) × DigitRows l.n × Taken l.r l.n
