-- `tune_text::words::value` meets its contract: the value so far is cut to the most before the next digit.
use Rattle.std.proofs.Common.{◌∙◌, rules, tests}
use Rattle.std.proofs.lemmas.Iterator.{YieldsList-from_slice}
use Rattle.std.proofs.lemmas.Iterator.Consumers.{fold_from_yields_List}
use Rattle.tune_text.proofs.NumberLaws.{next_value, value_cut}
use Rattle.tune_text.proofs.words.value.Goals as goal

pub returns : goal.returns
returns c =
    let l = c.args.digits.now in
    fold_from_yields_List _ next_value 0 c.fold.result c.fold.ensures.ran (YieldsList-from_slice l cc) (λ a x b q k. search (rules, tests)) ∙ value_cut l
