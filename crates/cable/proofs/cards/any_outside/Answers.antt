-- `cable::cards::any_outside` meets its contract: the closure is the definition's test.
use Rattle.std.proofs.Common.{rules, ◌∙◌}
use Rattle.std.proofs.lemmas.Iterator.{YieldsList-from_slice}
use Rattle.std.proofs.lemmas.Iterator.Search.{any_from_yields_List}
use Rattle.std.proofs.lemmas.Int.{to_z-of_z}
use Rattle.levels.specs.Levels.{outside}
use Rattle.lists.specs.Scanning.{any_list}
use Rattle.cable.proofs.cards.any_outside.Goals as goal

pub returns : goal.returns
returns c =
    any_from_yields_List outside _ _ _ c.any.ensures.ran (YieldsList-from_slice c.args.numbers.now cc) (λ x b q k. search (rules, to_z-of_z))
    ∙ any_list outside c.args.numbers.now
