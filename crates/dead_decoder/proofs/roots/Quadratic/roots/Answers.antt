-- `dead_decoder::roots::Quadratic::roots` meets its contract: the root of a line, or the two of a square completed.
use Rattle.rank.specs.Definitions.{at}
use Rattle.dead_decoder.specs.Roots.{roots_line, roots_square}
use Rattle.dead_decoder.proofs.roots.Quadratic.roots.Goals as goal

pub returns-then-a-eq0 : goal.returns-then-a-eq0
unfolding at
returns-then-a-eq0 c =
    roots_line c.args.self _ _ _ c.requires c.if-a-eq0.true c.difference.ensures c.quotient-u.ensures c.low-x.ensures

pub returns : goal.returns
unfolding at
returns c =
    roots_square c.args.self _ _ _ _ _ _ _ _ c.if-a-eq0.false c.crossed.ensures c.square_root-r.ensures c.sum.ensures c.quotient-u-2.ensures
    c.difference-2.ensures c.quotient-v.ensures c.low.ensures c.low-2.ensures
