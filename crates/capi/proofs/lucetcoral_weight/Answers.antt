-- `capi::lucetcoral_weight` meets its contract: the rank of what the answer holds is given.
use Rattle.rank.specs.declared.Weight.{Weight}
use Rattle.rank.specs.Weight.{no_weight}
use Rattle.std.proofs.Common.{rules}
use Rattle.capi.specs.Given.{answer_says, given}
use Rattle.capi.proofs.lucetcoral_weight.Goals as goal

pub returns : goal.returns
returns c =
    let says = answer_says (λ (w : Weight). w.rank) no_weight c.weigh.result _ _ c.weigh.ensures in
    given (λ (w : Weight). w.rank) c.weigh.result _ _ says c.map.result (search rules) _ _ _ c.give.ensures.refusal c.give.ensures.given
