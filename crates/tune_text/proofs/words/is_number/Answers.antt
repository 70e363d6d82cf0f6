-- `tune_text::words::is_number` meets its contract: it is not empty, and has only digits.
use Rattle.std.proofs.Common.{◌≡◌, sym, ◌∙◌, length, rules, tests}
use Rattle.std.proofs.lemmas.Iterator.{YieldsList-from_slice}
use Rattle.std.proofs.lemmas.Iterator.Search.{all_from_yields_List}
use Rattle.tune_text.specs.Words.{digit}
use Rattle.tune_text.specs.Numbers.{number_none, number_some}
use Rattle.tune_text.proofs.NumberLaws.{all_digits}
use Rattle.tune_text.proofs.words.is_number.Goals as goal

pub returns-then-not-is_empty : goal.returns-then-not-is_empty
unfolding digit
returns-then-not-is_empty c =
    let l = c.args.word.now in
    let digits = all_from_yields_List digit _ _ c.all.result c.all.ensures.ran (YieldsList-from_slice l cc) (λ x b q k. search (rules, tests)) in
    let some : length l ≡ 0 → ⊥ = search (rules, tests) in
    digits ∙ all_digits l ∙ sym (number_some l some)

pub returns-else-not-is_empty : goal.returns-else-not-is_empty
returns-else-not-is_empty c =
    let l = c.args.word.now in
    let none : length l ≡ 0 = search (rules, tests) in
    rw (c.if-not-is_empty.false, number_none l none)
