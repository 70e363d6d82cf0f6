-- `capi::lucetcoral_tune_body` meets its contract: offset and length are given exactly where there is no refusal.
use Rattle.std.proofs.Common.{rules}
use Rattle.capi.specs.Given.{offset_says, length_says, given}
use Rattle.capi.proofs.lucetcoral_tune_body.Goals as goal

pub returns : goal.returns
returns c =
    let f = c.find-entry.ensures in
    let offset = given _ c.find-entry.result _ _ (offset_says _ _ c.find-entry.result f.refusal f.found) c.map.result (search rules) _ _ _ c.give.ensures.refusal c.give.ensures.given in
    let length = given _ c.find-entry.result _ _ (length_says _ _ c.find-entry.result f.refusal f.found) c.map-2.result (search rules) _ _ _ c.give-2.ensures.refusal c.give-2.ensures.given in
    record { answers = length.answers; offset_is = offset.lent_is; length_is = length.lent_is }
