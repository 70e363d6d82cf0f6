-- `capi::lucetcoral_total_delay` meets its contract: what the answer says is given.
use Prim.Native.Nat.{ℕ}
use Rattle.capi.specs.Given.{itself, reply_says, given}
use Rattle.capi.proofs.lucetcoral_total_delay.Goals as goal

pub returns : goal.returns
returns c =
    let says = reply_says (λ (x : ℕ). x) 0 c.total_delay.result _ c.total_delay.ensures in
    given _ _ _ _ says _ (itself c.total_delay.result) _ _ _ c.give.ensures.refusal c.give.ensures.given
