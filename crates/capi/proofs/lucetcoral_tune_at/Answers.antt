-- `capi::lucetcoral_tune_at` meets its contract: number and cards are given exactly where there is no refusal.
use Rattle.book.specs.declared.entries.Tune.{Tune}
use Rattle.book.specs.Entries.{no_tune}
use Rattle.std.proofs.Common.{rules}
use Rattle.capi.specs.Given.{reply_says, given}
use Rattle.capi.proofs.lucetcoral_tune_at.Goals as goal

pub returns : goal.returns
returns c =
    let t = c.tune_at-tune.result in
    let e = c.tune_at-tune.ensures in
    let number = given (λ (t : Tune). t.number) t _ _ (reply_says (λ (t : Tune). t.number) no_tune t _ e) c.map.result (search rules) _ _ _ c.give.ensures.refusal c.give.ensures.given in
    let cards = given (λ (t : Tune). t.cards) t _ _ (reply_says (λ (t : Tune). t.cards) no_tune t _ e) c.map-2.result (search rules) _ _ _ c.give-2.ensures.refusal c.give-2.ensures.given in
    record { answers = cards.answers; number_is = number.lent_is; cards_is = cards.lent_is }
