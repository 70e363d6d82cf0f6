-- `tune_text::words::word_end` meets its contract: a search for the first blank.
use Rattle.std.proofs.Common.{◌∙◌, rules, tests}
use Rattle.std.proofs.lemmas.Iterator.{YieldsList-from_slice}
use Rattle.std.proofs.lemmas.Iterator.Search.{position_from_yields_List}
use Rattle.tune_text.specs.Words.{blank}
use Rattle.tune_text.proofs.PieceLaws.{ends_found}
use Rattle.tune_text.proofs.words.word_end.Goals as goal

pub returns : goal.returns
returns c =
    let l = c.args.line.now in
    let found = position_from_yields_List blank _ _ c.position.result c.position.ensures.ran (YieldsList-from_slice l cc) (λ x b q k. search (rules, tests)) in
    c.unwrap_or.ensures ∙ ends_found blank l _ found
