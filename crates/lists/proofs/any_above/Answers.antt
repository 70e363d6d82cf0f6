-- `lists::any_above` meets its contract: the closure is the definition's test.
use Rattle.std.proofs.Common.{rules, tests, ltb, ◌∙◌}
use Rattle.std.proofs.lemmas.Iterator.{YieldsList-from_slice}
use Rattle.std.proofs.lemmas.Iterator.Search.{any_from_yields_List}
use Rattle.algebra.specs.Tests.{any_above}
use Rattle.lists.specs.Scanning.{any_list}
use Rattle.lists.proofs.any_above.Goals as goal

pub returns : goal.returns
unfolding any_above
returns c =
    any_from_yields_List (ltb c.args.most) _ _ _ c.any.ensures.ran (YieldsList-from_slice c.args.list.now cc) (λ x b q k. search (rules, tests))
    ∙ any_list (ltb c.args.most) c.args.list.now
