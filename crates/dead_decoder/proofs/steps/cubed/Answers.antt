-- `dead_decoder::steps::cubed` meets its contract: 1 times a cube is the cube.
use mathlib.Core.Path.{◌∙◌}
use native.Mathlib.Nat.{mod-eq_of_lt}
use Rattle.algebra.specs.Field.{cube}
use Rattle.algebra.specs.Products.{one_times, cube_linear}
use Rattle.dead_decoder.proofs.steps.cubed.Goals as goal

pub returns : goal.returns
returns c = let v = c.args.v in c.cube_product.ensures ∙ one_times (cube v) ∙ mod-eq_of_lt (cube_linear.below v)
