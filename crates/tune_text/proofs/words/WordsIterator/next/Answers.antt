-- `tune_text::words::Words::next` meets its contract: the first word is taken off.
use Rattle.std.proofs.Common.{◌≡◌, ap, length, arith, rules, tests}
use Rattle.tune_text.specs.Words.{blank}
use Rattle.tune_text.proofs.PieceLaws.{ends_within, words_more, words_over}
use Rattle.tune_text.proofs.words.WordsIterator.next.Goals as goal

pub split_at-requires : goal.split_at-requires
split_at-requires c = omega (arith, c.word_end.ensures, ends_within blank c.trimmed-from.result.now)

pub returns-then-is_empty-clause-steps : goal.returns-then-is_empty-clause-steps
returns-then-is_empty-clause-steps c =
    let none : length c.split_at.result.0.now ≡ 0 = search (rules, tests) in
    words_over _ c.trimmed-from.ensures c.word_end.ensures c.split_at.ensures.front c.split_at.ensures.back none

pub returns-else-is_empty-clause-steps : goal.returns-else-is_empty-clause-steps
returns-else-is_empty-clause-steps c =
    let some : length c.split_at.result.0.now ≡ 0 → ⊥ = search (rules, tests) in
    words_more _ c.trimmed-from.ensures c.word_end.ensures c.split_at.ensures.front c.split_at.ensures.back some

pub returns-else-is_empty-clause-goes : goal.returns-else-is_empty-clause-goes
returns-else-is_empty-clause-goes c =
    let some : length c.split_at.result.0.now ≡ 0 → ⊥ = search (rules, tests) in
    let fewer = ap length (words_more _ c.trimmed-from.ensures c.word_end.ensures c.split_at.ensures.front c.split_at.ensures.back some) in
    search rules
