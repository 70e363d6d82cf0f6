-- `dead_decoder::masks::MaskTryFromU32::try_from` meets its contract: each arm decides the bound of the definition.
use Rattle.std.proofs.Common.{refl, arith}
use borrow.Author.Tests.{lt-ltb, le-ltb}
use Rattle.codec.specs.Operations.{tests}
use Rattle.dead_decoder.proofs.masks.MaskTryFromU32.try_from.Goals as goal

pub returns-in-0-to-63 : goal.returns-in-0-to-63
unfolding tests
returns-in-0-to-63 c = (rw (le-ltb 63 c.args.bits (omega arith)), refl)

pub returns-in_default : goal.returns-in_default
unfolding tests
returns-in_default c = (rw (lt-ltb 63 c.args.bits (omega arith)), tt)
