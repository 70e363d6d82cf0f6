-- `field::inverse` meets its contract: the exponent that is read is taken from 728.
use mathlib.Core.Path.{sym, ◌∙◌}
use Rattle.algebra.proofs.Inverses.{inverse_zero}
use Rattle.field.specs.Exponents.{inverse_one, inverse_back}
use Rattle.field.proofs.products.inverse.Goals as goal

pub returns-then-a-eq0 : goal.returns-then-a-eq0
returns-then-a-eq0 c = sym (inverse_zero c.args.a c.if-a-eq0.true)

pub returns-then-n-eq0 : goal.returns-then-n-eq0
returns-then-n-eq0 c = inverse_one c.args.a c.if-a-eq0.false (sym c.log-n.ensures.value ∙ c.if-n-eq0.true)

pub returns-else-n-eq0 : goal.returns-else-n-eq0
returns-else-n-eq0 c = rw (c.power.ensures, c.log-n.ensures.value) (inverse_back c.args.a c.if-a-eq0.false)
