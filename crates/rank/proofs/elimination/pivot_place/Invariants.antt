-- `rank::elimination::pivot_place` meets its contract: the first place where the column is not 0. The loop: no place passed is.
use mathlib.Core.Path.{◌≡◌}
use Rattle.rank.specs.Elimination.{first_nonzero}
use Rattle.rank.proofs.elimination.pivot_place.Given as goal

abbrev pub invariant-loop-i : goal.invariant-loop-i
invariant-loop-i l = first_nonzero 0 l.column ≡ first_nonzero l.i l.column
