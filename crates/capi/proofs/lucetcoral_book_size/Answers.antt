-- `capi::lucetcoral_book_size` meets its contract: what the answer says is given.
use Prim.Native.Nat.{ℕ}
use Rattle.std.proofs.Common.{rules}
use Rattle.capi.specs.Given.{answer_says, given}
use Rattle.capi.proofs.lucetcoral_book_size.Goals as goal

pub returns : goal.returns
returns c =
    let says = answer_says (λ (x : ℕ). x) 0 c.book_size.result _ _ c.book_size.ensures in
    given (λ (x : ℕ). x) c.book_size.result _ _ says c.map.result (search rules) _ _ _ c.give.ensures.refusal c.give.ensures.given
