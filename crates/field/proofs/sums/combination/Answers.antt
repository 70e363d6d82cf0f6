-- `field::combination` meets its contract: the sums at the six places, modulo 3, are its digits.
use native.Mathlib.Omega.{arith}
use Rattle.field.specs.DigitSums.{combined}
use Rattle.field.proofs.sums.combination.Goals as goal

pub returns : goal.returns
returns c =
    rw (
      c.place_sum-6.ensures,
      c.place_sum-5.ensures,
      c.place_sum-4.ensures,
      c.place_sum-3.ensures,
      c.place_sum-2.ensures,
      c.place_sum.ensures,
    ) (combined c.args.x c.args.w (omega (arith, c.well_formed.0.1.0.1)))
