-- `field::product` meets its contract: the exponents are added, and come round after 728.
use mathlib.Core.Path.{sym}
use Rattle.algebra.proofs.Powers.{times_logs}
use Rattle.field.specs.Exponents.{zero_factor, product_round}
use Rattle.field.proofs.products.product.Goals as goal

pub returns-then-x-eq0 : goal.returns-then-x-eq0
returns-then-x-eq0 c = zero_factor c.args.a c.args.b c.then-x-eq0.either

pub returns-then-n-lt728 : goal.returns-then-n-lt728
returns-then-n-lt728 c =
    rw (c.power.ensures, c.log.ensures.value, c.log-2.ensures.value) (sym (times_logs c.args.a c.args.b c.if-x-eq0.false c.if-y-eq0.false))

pub returns-else-n-lt728 : goal.returns-else-n-lt728
returns-else-n-lt728 c =
    rw (c.power-else-n-lt728.ensures, c.log.ensures.value, c.log-2.ensures.value)
    (product_round c.args.a c.args.b c.if-x-eq0.false c.if-y-eq0.false (rw (c.log.ensures.value, c.log-2.ensures.value) at c.if-n-lt728.false))
