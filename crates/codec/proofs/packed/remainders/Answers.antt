-- `codec::packed::remainders` meets its contract: sums of digits, and what is left after their thirds.
use native.Mathlib.Omega.{arith}
use Rattle.transform.specs.Remainders.{same_counts, by_16, by_4, remainders, thirds, by_16_below, by_4_below}
use Rattle.codec.proofs.packed.remainders.Goals as goal

pub overflow_add-y : goal.overflow_add-y
unfolding by_16 same_counts
overflow_add-y c = record { fits = omega (arith, by_16_below c.args.v) }

pub overflow_add-z : goal.overflow_add-z
unfolding by_16 by_4 same_counts
overflow_add-z c = record { fits = omega (arith, by_4_below (by_16 9 c.args.v)) }

pub overflow_mul-result : goal.overflow_mul-result
unfolding by_16 by_4 same_counts
overflow_mul-result c = record { fits = omega (arith, by_4_below (by_16 9 c.args.v)) }

pub overflow_mul-result-2 : goal.overflow_mul-result-2
unfolding by_16 by_4 same_counts
overflow_mul-result-2 c = record { fits = omega (arith, thirds 9 c.args.v, by_4_below (by_16 9 c.args.v)) }

pub overflow_sub-result : goal.overflow_sub-result
unfolding by_16 by_4 same_counts
overflow_sub-result c = omega (arith, thirds 9 c.args.v)

pub returns : goal.returns
unfolding by_16 by_4 same_counts remainders
returns c = record { same = omega (arith, thirds 9 c.args.v); bound = omega (arith, by_4_below (by_16 9 c.args.v)) }
