-- `rank::weigh` meets its contract: the tests in their order, and the weight of the list's six entries.
use mathlib.Core.Path.{ap, ◌∙◌}
use native.Mathlib.Omega.{arith}
use Rattle.rank.specs.Arrays.{six}
use Rattle.rank.specs.Weight.{weight_of, weighed_length, weighed_range, weighed_card}
use Rattle.rank.proofs.weigh.Goals as goal

pub returns-then-symbols-ne6 : goal.returns-then-symbols-ne6
returns-then-symbols-ne6 c = weighed_length _ c.if-symbols-ne6.true

pub returns-then-any_above : goal.returns-then-any_above
returns-then-any_above c = weighed_range _ (omega arith) _ c.any_above.ensures c.if-any_above.true

pub returns : goal.returns
returns c =
    let h = c.if-symbols-ne6.false in
    weighed_card _ h _ c.any_above.ensures _ (c.weight_of_six.ensures ∙ ap weight_of (six c.args.symbols.now h)) c.if-any_above.false
