-- `tune_text::tunes::fill` meets its contract. The loop: of each list, what was written and what the lines that are left add is the whole.
use Rattle.std.proofs.Common.{length}
use Rattle.text.specs.Writing.{PartWritten}
use Rattle.tune_text.specs.Reading.{lines_said, numbers_of, strikes_of, counts_of}
use Rattle.tune_text.proofs.tunes.fill.Given as goal

abbrev pub invariant-loop-line : goal.invariant-loop-line
invariant-loop-line l =
    (PartWritten l.initial.numbers (numbers_of (lines_said l.initial.lines.text.now)) (numbers_of (lines_said l.lines.text.now)) l.numbers)
    × (PartWritten l.initial.counts (counts_of (lines_said l.initial.lines.text.now)) (counts_of (lines_said l.lines.text.now)) l.counts)
    × (PartWritten l.initial.strikes (strikes_of (lines_said l.initial.lines.text.now)) (strikes_of (lines_said l.lines.text.now)) l.strikes)

abbrev pub decreases-loop-line : goal.decreases-loop-line
decreases-loop-line l = length (lines_said l.lines.text.now)
