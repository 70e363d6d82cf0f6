-- `tune_text::scanning::Lines::cards_ahead` meets its contract. The loop: the strikes so far and those that are still ahead are all.
use Rattle.std.proofs.Common.{◌≡◌, ◌+◌}
use Rattle.tune_text.specs.Reading.{lines_said, cards_ahead}
use Rattle.tune_text.proofs.scanning.Lines.cards_ahead.Given as goal

abbrev pub invariant-loop-line : goal.invariant-loop-line
invariant-loop-line l =
    cards_ahead (lines_said l.fn.self.text.now) ≡ l.cards + cards_ahead (lines_said l.line-iterator.text.now)
