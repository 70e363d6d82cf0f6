-- `rank::weight_of_six` meets its contract: zeros have rank 0, and elimination on the square chooses as many rows as the rank (`chosen_rank`).
use mathlib.Core.Path.{refl, sym, ap, ◌∙◌}
use lib.ListN.{length}
use Rattle.rank.specs.Elimination.{pivot_log}
use Rattle.rank.specs.DigitSquare.{square_settled}
use Rattle.rank.specs.PivotColumns.{chosen_rank}
use Rattle.rank.specs.Weight.{weight_of, weight_of_zeros}
use Rattle.rank.proofs.weight_of_six.Goals as goal

pub returns-then-total-eq0 : goal.returns-then-total-eq0
returns-then-total-eq0 c =
    ap (λ n. record { rank = n }) c.default.ensures ∙ weight_of_zeros _ refl (sym c.total.ensures ∙ c.if-total-eq0.true)

pub pivots-requires : goal.pivots-requires
pivots-requires c = rw c.digit_square.ensures (square_settled _)

pub returns : goal.returns
unfolding weight_of
returns c = rw (c.pivots.ensures ∙ ap (λ m. length (pivot_log m)) c.digit_square.ensures ∙ chosen_rank _ refl)
