-- `decoder::one::solved_pair` meets its contract: two coefficients solved by the window.
use Rattle.rank.specs.Definitions.{at}
use Rattle.decoder.specs.Doubles.{pair_by}
use Rattle.decoder.proofs.one.solved_pair.Goals as goal

pub new-a-requires : goal.new-a-requires
unfolding at
new-a-requires c = c.requires

pub returns : goal.returns
unfolding at
returns c =
    pair_by (at c.args.r) _ c.new-a.ensures _ _ _ c.solve-f0.ensures c.difference-e0.ensures c.solve-f1.ensures
