-- `candidate::shape::none_beyond` meets its contract: the test written out.
use Rattle.rank.specs.Definitions.{at}
use Rattle.candidate.specs.Places.{none_written}
use Rattle.candidate.proofs.shape.none_beyond.Goals as goal

pub returns : goal.returns
unfolding at
returns c = none_written c.args.k.value c.args.k.within.0 c.args.k.within.1 (at c.args.r)
