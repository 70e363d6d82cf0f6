-- `field::place_sum` meets its contract: what is added is at most twice a quotient of x, so it fits.
use native.Mathlib.Omega.{arith}
use Rattle.field.specs.DigitSums.{place_six, terms_small}
use Rattle.field.proofs.sums.place_sum.Goals as goal

pub returns : goal.returns
returns c = place_six c.args.w c.well_formed.0.1.0.1 c.args.place c.args.x

pub overflow_mul-result : goal.overflow_mul-result
overflow_mul-result c = omega (arith, terms_small c.args.w c.args.place c.args.x)

pub overflow_mul-result-2 : goal.overflow_mul-result-2
overflow_mul-result-2 c = omega (arith, terms_small c.args.w c.args.place c.args.x)

pub overflow_add-result : goal.overflow_add-result
overflow_add-result c = omega (arith, terms_small c.args.w c.args.place c.args.x)

pub overflow_mul-result-3 : goal.overflow_mul-result-3
overflow_mul-result-3 c = omega (arith, terms_small c.args.w c.args.place c.args.x)

pub overflow_add-result-2 : goal.overflow_add-result-2
overflow_add-result-2 c = omega (arith, terms_small c.args.w c.args.place c.args.x)

pub overflow_mul-result-4 : goal.overflow_mul-result-4
overflow_mul-result-4 c = omega (arith, terms_small c.args.w c.args.place c.args.x)

pub overflow_add-result-3 : goal.overflow_add-result-3
overflow_add-result-3 c = omega (arith, terms_small c.args.w c.args.place c.args.x)

pub overflow_mul-result-5 : goal.overflow_mul-result-5
overflow_mul-result-5 c = omega (arith, terms_small c.args.w c.args.place c.args.x)

pub overflow_add-result-4 : goal.overflow_add-result-4
overflow_add-result-4 c = omega (arith, terms_small c.args.w c.args.place c.args.x)

pub overflow_mul-result-6 : goal.overflow_mul-result-6
overflow_mul-result-6 c = omega (arith, terms_small c.args.w c.args.place c.args.x)

pub overflow_add-result-5 : goal.overflow_add-result-5
overflow_add-result-5 c = omega (arith, terms_small c.args.w c.args.place c.args.x)
