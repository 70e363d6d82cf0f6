-- `tune_text::tunes::read_tunes` meets its contract: each answer from the tests that led to it.
use Rattle.std.proofs.Common.{sym, arith}
use Rattle.tune_text.specs.Answers.{Tested}
use Rattle.tune_text.proofs.AnswerLaws.{shortest_short, answer_long, answer_short, answer_wrong, answer_read}
use Rattle.tune_text.proofs.SizeLaws.{numbers_within, counts_within, strikes_within}
use Rattle.tune_text.proofs.tunes.read_tunes.Goals as goal
use Rattle.tune_text.proofs.tunes.read_tunes.Goals.{Else-min-text}

-- all tests were passed
tested : (c : Else-min-text) → Tested c.args.text.now c.args.numbers.now c.args.counts.now c.args.strikes.now
tested c = record { text = omega arith; numbers = omega arith; counts = omega arith; strikes = omega arith }

pub returns-then-text-gt-LONGEST-clause-value : goal.returns-then-text-gt-LONGEST-clause-value
returns-then-text-gt-LONGEST-clause-value c = answer_long _ _ _ _ c.if-text-gt-LONGEST.true

pub returns-then-min-text-clause-value : goal.returns-then-min-text-clause-value
returns-then-min-text-clause-value c =
    answer_short _ _ _ _ c.if-text-gt-LONGEST.false (shortest_short _ _ _ _ (omega arith))

pub returns-in-Some-clause-value : goal.returns-in-Some-clause-value
returns-in-Some-clause-value c =
    answer_wrong _ _ _ _ _ (tested (goal.at.returns-in-Some-clause-value c).Else-min-text) (sym c.in-Some.ensures)

pub fill-requires-clause-numbers_room : goal.fill-requires-clause-numbers_room
fill-requires-clause-numbers_room c =
    rw (c.new-numbers.ensures.as_it_was, c.new-numbers.ensures.at_start) (omega (arith, numbers_within c.args.text.now))

pub fill-requires-clause-counts_room : goal.fill-requires-clause-counts_room
fill-requires-clause-counts_room c =
    rw (c.new-counts.ensures.as_it_was, c.new-counts.ensures.at_start) (omega (arith, counts_within c.args.text.now))

pub fill-requires-clause-strikes_room : goal.fill-requires-clause-strikes_room
fill-requires-clause-strikes_room c =
    rw (c.new-strikes.ensures.as_it_was, c.new-strikes.ensures.at_start) (omega (arith, strikes_within c.args.text.now))

pub returns-clause-value : goal.returns-clause-value
returns-clause-value c =
    let n = c.fill.ensures.numbers_wrote.wrote.after in
    let s = c.fill.ensures.strikes_wrote.wrote.after in
    answer_read _ _ _ _ _ (tested (goal.at.returns-clause-value c).Else-min-text) (sym c.in_default.ensures)
    (omega (arith, n, c.new-numbers.ensures.at_start)) (omega (arith, s, c.new-strikes.ensures.at_start))
