-- `capi::lucetcoral_wear` meets its contract: sum and first card are given exactly where there is no refusal.
use Rattle.std.proofs.Common.{rules}
use Rattle.wear.specs.declared.runs.Run.{Run}
use Rattle.wear.specs.Wear.{no_run}
use Rattle.capi.specs.Given.{answer_says, given}
use Rattle.capi.proofs.lucetcoral_wear.Goals as goal

pub returns : goal.returns
returns c =
    let r = c.worst_run-run.result in
    let e = c.worst_run-run.ensures in
    let sum = given (λ (r : Run). r.sum) r _ _ (answer_says (λ (r : Run). r.sum) no_run r _ _ e) c.map.result (search rules) _ _ _ c.give.ensures.refusal c.give.ensures.given in
    let first = given (λ (r : Run). r.first) r _ _ (answer_says (λ (r : Run). r.first) no_run r _ _ e) c.map-2.result (search rules) _ _ _ c.give-2.ensures.refusal c.give-2.ensures.given in
    record { sum_given = record { answers = first.answers; lent_is = sum.lent_is }; first_given = first }
