-- `tune_text::words::trimmed` meets its contract: a search for the first byte that is no blank.
use Rattle.std.proofs.Common.{sym, ◌∙◌, not, drop, ap, rules, tests}
use Rattle.std.proofs.lemmas.Iterator.{YieldsList-from_slice}
use Rattle.std.proofs.lemmas.Iterator.Search.{position_from_yields_List}
use Rattle.tune_text.specs.Words.{blank}
use Rattle.tune_text.proofs.PieceLaws.{ends_found, part_rest, trimmed_from}
use Rattle.tune_text.proofs.words.trimmed.Goals as goal

pub returns : goal.returns
returns c =
    let l = c.args.line.now in
    let found = position_from_yields_List (λ b. not (blank b)) _ _ c.position.result c.position.ensures.ran (YieldsList-from_slice l cc) (λ x b q k. search (rules, tests)) in
    let start = c.unwrap_or-start.ensures ∙ ends_found (λ b. not (blank b)) l _ found in
    part_rest l c.unwrap_or-start.result ∙ ap (λ n. drop n l) start ∙ sym (trimmed_from l)
