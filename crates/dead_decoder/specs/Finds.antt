-- What is found for a card with dead lines, as the code has it.
-- Main: order, left_of, Finds.
use Rattle.std.specs.Prelude.{◌≡◌, List, ℕ, ◌+◌}
use Rattle.std.specs.declared.option.Option as found
use Rattle.std.proofs.Math.Option.{Option}
use Rattle.rank.specs.Definitions.{difference}
use Rattle.dead_lines.specs.Struck.{dead_lines}
use Rattle.dead_lines.specs.Blanked.{blanked}
use Rattle.candidate.specs.declared.found.Found.{Found}
use Rattle.candidate.specs.Finding.{found_message, Matches}
use Rattle.dead_decoder.specs.declared.card.DeadCard.{DeadCard}

-- the problem is that for this k with no dead line
abbrev pub order : DeadCard → ℕ
order d = d.k.value + dead_lines d.rows.bits + dead_lines d.columns.bits

-- what is left of the difference between a word and the card
abbrev pub left_of : DeadCard → List ℕ → List ℕ
left_of d w = blanked d.rows.bits d.columns.bits (difference w d.card.symbols)

-- WHAT IS FOUND: the message o, with its word and the weight of what is left
abbrev pub Finds : DeadCard → Option (List ℕ) → found.Option Found → Type 0
Finds d o f = (found_message f ≡ o) × Matches d.k.value (left_of d) f
