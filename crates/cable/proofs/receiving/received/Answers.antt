-- `cable::receiving::received` meets its contract: each call gives the symbol at its index.
use Rattle.std.proofs.Common.{rules}
use Rattle.algebra.specs.Lists.{table}
use Rattle.levels.specs.Levels.{received_symbol, received}
use Rattle.cable.proofs.Made.{made}
use Rattle.cable.proofs.receiving.received.Goals as goal

pub returns : goal.returns
unfolding received table
returns c = made _ _ (received_symbol c.args.samples.now) _ 6 0 (λ j y q l k. search rules) c.from_fn.ensures.items
