-- `dead_decoder::roots::square_root` meets its contract: the exponent is halved.
use Rattle.dead_decoder.specs.Roots.{root_none, root_read}
use Rattle.dead_decoder.proofs.roots.square_root.Goals as goal

pub returns-then-v-eq0 : goal.returns-then-v-eq0
returns-then-v-eq0 c = root_none c.args.v c.if-v-eq0.true

pub returns : goal.returns
returns c = rw (c.power.ensures, c.log.ensures.value) (root_read c.args.v c.if-v-eq0.false)
