-- `tune_text::mistakes::find_mistake` meets its contract. The loop: the first mistake of the lines that are left is the first of all.
use Rattle.std.proofs.Common.{◌≡◌, ◌+◌, length}
use Rattle.std.specs.Iterator.Adapters.{enumerate_source, enumerate_count}
use Rattle.tune_text.specs.Reading.{lines_said, mistake_from, mistake_of}
use Rattle.tune_text.proofs.mistakes.find_mistake.Given as goal

abbrev pub invariant-loop-i : goal.invariant-loop-i
invariant-loop-i l = let left = lines_said (enumerate_source l.i-iterator).text.now in let done = enumerate_count l.i-iterator in
    (done + length left ≡ length (lines_said l.fn.lines.text.now)) × (mistake_of (lines_said l.fn.lines.text.now) ≡ mistake_from l.begun (done + 1) left)
