-- `rank::row::digit_less` meets its contract: what is added to a digit is small.
use native.Mathlib.Omega.{arith}
use Rattle.rank.specs.Arrays.{product_with_digit}
use Rattle.rank.proofs.row.digit_less.Goals as goal

pub overflow_mul-result-2 : goal.overflow_mul-result-2
overflow_mul-result-2 c = omega (arith, product_with_digit c.args.d c.args.y (omega arith) (omega arith))

pub overflow_add-result : goal.overflow_add-result
overflow_add-result c = omega (arith, product_with_digit c.args.d c.args.y (omega arith) (omega arith))
