-- `capi::lucetcoral_read_card` meets its contract: strike and damage are given exactly where there is no refusal.
use Rattle.book.specs.declared.reading.Reading.{Reading}
use Rattle.book.specs.Reading.{no_value}
use Rattle.std.proofs.Common.{rules}
use Rattle.capi.specs.Given.{reply_says, given}
use Rattle.capi.proofs.lucetcoral_read_card.Goals as goal

pub returns : goal.returns
returns c =
    let r = c.read_card-read.result in
    let e = c.read_card-read.ensures in
    let bell = given (λ (r : Reading). r.strike.bell) r _ _ (reply_says (λ (r : Reading). r.strike.bell) no_value r _ e) c.map.result (search rules) _ _ _ c.give.ensures.refusal c.give.ensures.given in
    let force = given (λ (r : Reading). r.strike.force) r _ _ (reply_says (λ (r : Reading). r.strike.force) no_value r _ e) c.map-2.result (search (rules, c.map-2.ensures.cases)) _ _ _ c.give-2.ensures.refusal c.give-2.ensures.given in
    let delay = given (λ (r : Reading). r.strike.delay) r _ _ (reply_says (λ (r : Reading). r.strike.delay) no_value r _ e) c.map-3.result (search (rules, c.map-3.ensures.cases)) _ _ _ c.give-3.ensures.refusal c.give-3.ensures.given in
    let damage = given (λ (r : Reading). r.damage.rank) r _ _ (reply_says (λ (r : Reading). r.damage.rank) no_value r _ e) c.map-4.result (search (rules, c.map-4.ensures.cases)) _ _ _ c.give-4.ensures.refusal c.give-4.ensures.given in
    record { answers = damage.answers; bell_is = bell.lent_is; force_is = force.lent_is; delay_is = delay.lent_is; damage_is = damage.lent_is }
