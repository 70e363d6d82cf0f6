-- `capi::lucetcoral_open` meets its contract: what the answer says is given.
use Prim.Native.Nat.{ℕ}
use Rattle.capi.specs.Given.{itself, answer_says, given}
use Rattle.capi.proofs.lucetcoral_open.Goals as goal

pub returns : goal.returns
returns c =
    let says = answer_says (λ (x : ℕ). x) 0 c.«open».result _ _ c.«open».ensures in
    given _ _ _ _ says _ (itself c.«open».result) _ _ _ c.give.ensures.refusal c.give.ensures.given
