-- `decoder::single::residual` meets its contract: the spectrum less the chain.
use mathlib.Core.Path.{◌∙◌}
use borrow.Author.Rules.{rules}
use Rattle.rank.specs.Definitions.{at}
use Rattle.decoder.specs.Singles.{residual_of}
use Rattle.decoder.proofs.single.residual.Goals as goal

pub returns : goal.returns
unfolding at
returns c =
    c.difference.ensures ∙ residual_of c.args.r _ c.args.u (search rules) c.chain_of.ensures
