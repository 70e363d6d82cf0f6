-- `dead_decoder::tries::less_top` meets its contract: one entry is stored.
use mathlib.Core.Path.{ap, ◌∙◌}
use Prim.Native.Nat.{◌%◌}
use lib.ListN.{set}
use native.Mathlib.Omega.{arith}
use Rattle.rank.specs.Definitions.{at}
use Rattle.dead_decoder.specs.Solutions.{less_top_set}
use Rattle.dead_decoder.proofs.tries.less_top.Goals as goal

pub returns : goal.returns
unfolding at
returns c =
    ap (set c.args.h (c.args.n % 6)) c.difference.ensures ∙ less_top_set c.args.n c.args.t c.args.h (omega arith)
