-- A book filled as the code does it: what each loop has written so far, and what is left.
-- Main: EntriesSoFar, CardsSoFar.
use Rattle.std.specs.Prelude.{◌≡◌, true, List, ℕ, ◌+◌, ◌*◌, length}
use Rattle.algebra.specs.Lists.{All}
use Rattle.strike.specs.Strikes.{in_range}
use Rattle.strike.specs.Turns.{strikes}
use Rattle.text.specs.declared.lent.Lent.{Lent}
use Rattle.text.specs.Writing.{PartWritten}
use Rattle.writer.specs.Writing.{all_cards, cards_bytes, entries_bytes}

-- ENTRIES so far: those of the numbers ns and the counts cs are left, the next body begins at `start`, and the last ends at `size`
pub record EntriesSoFar (whole ns cs : List ℕ) (start size : ℕ) (old new : Lent ℕ) : Type 0 where
  pub paired : length cs ≡ length ns
  pub ends : start + 12 * all_cards cs ≡ size
  pub parts : PartWritten old whole (entries_bytes ns cs start) new

-- CARDS so far: those of the strikes of ss are left
pub record CardsSoFar (whole ss : List ℕ) (old new : Lent ℕ) : Type 0 where
  pub ranged : All (λ s. in_range s ≡ true) (strikes ss)
  pub parts : PartWritten old whole (cards_bytes (strikes ss)) new
