-- `field::cube` meets its contract: cubing is linear, and the constants are computed once to be the cubes of 1, z, .. z^5.
use mathlib.Core.Path.{sym, ◌∙◌}
use Rattle.algebra.specs.Linear.{computing, expand}
use Rattle.algebra.specs.Products.{cube_linear}
use Rattle.field.proofs.cubes.cube.Goals as goal

pub returns : goal.returns
unfolding computing
returns c = c.combination.ensures ∙ sym (expand cube_linear c.args.a)
