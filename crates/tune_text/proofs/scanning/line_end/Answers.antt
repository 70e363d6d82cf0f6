-- `tune_text::scanning::line_end` meets its contract: a search for the first line end.
use Rattle.std.proofs.Common.{◌∙◌, rules, tests}
use Rattle.std.proofs.lemmas.Iterator.{YieldsList-from_slice}
use Rattle.std.proofs.lemmas.Iterator.Search.{position_from_yields_List}
use Rattle.tune_text.specs.Words.{new_line}
use Rattle.tune_text.proofs.PieceLaws.{ends_found}
use Rattle.tune_text.proofs.scanning.line_end.Goals as goal

pub returns : goal.returns
returns c =
    let l = c.args.text.now in
    let found = position_from_yields_List new_line _ _ c.position.result c.position.ensures.ran (YieldsList-from_slice l cc) (λ x b q k. search (rules, tests)) in
    c.unwrap_or.ensures ∙ ends_found new_line l _ found
