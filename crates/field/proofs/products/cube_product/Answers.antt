-- `field::cube_product` meets its contract: one exponent and three times the other come round after 728.
use Rattle.field.specs.Exponents.{zero_cubed, cube_product_is}
use Rattle.field.proofs.products.cube_product.Goals as goal

pub returns-then-x-eq0 : goal.returns-then-x-eq0
returns-then-x-eq0 c = zero_cubed c.args.a c.args.b c.then-x-eq0.either

pub returns : goal.returns
returns c =
    rw (c.power.ensures, c.log.ensures.value, c.log-2.ensures.value) (cube_product_is c.args.a c.args.b c.if-x-eq0.false c.if-y-eq0.false)
