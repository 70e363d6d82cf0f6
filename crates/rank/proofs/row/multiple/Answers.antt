-- `rank::row::multiple` meets its contract: the product of two digits is small.
use mathlib.Core.Path.{refl}
use native.Mathlib.Omega.{arith}
use Rattle.rank.specs.Arrays.{product_of_digits}
use Rattle.rank.proofs.row.multiple.Goals as goal

pub overflow_mul-result : goal.overflow_mul-result
overflow_mul-result c = omega (arith, product_of_digits c.args.a c.args.p (omega arith) (omega arith))

pub returns : goal.returns
returns c = (refl, product_of_digits c.args.a c.args.p (omega arith) (omega arith))
