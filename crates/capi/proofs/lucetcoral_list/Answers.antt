-- `capi::lucetcoral_list` meets its contract: the length is given exactly where there is no refusal.
use Prim.Native.Nat.{ℕ}
use Rattle.std.proofs.Common.{rules}
use Rattle.capi.specs.Given.{answer_says, given}
use Rattle.capi.proofs.lucetcoral_list.Goals as goal

pub returns : goal.returns
returns c =
    let w = c.write_report-size.ensures in
    let says = answer_says (λ (x : ℕ). x) 0 c.write_report-size.result _ _ w.answers in
    let g = given (λ (x : ℕ). x) c.write_report-size.result _ _ says c.map.result (search rules) _ _ _ c.give.ensures.refusal c.give.ensures.given in
    record { answers = g.answers; text_is = w.text_after; written_is = g.lent_is }
