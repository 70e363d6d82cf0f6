-- `decoder::window::Annihilator::solve` meets its contract: three products and two sums.
use Rattle.algebra.specs.Field.{cube}
use Rattle.algebra.specs.Products.{times_comm}
use Rattle.decoder.proofs.window.Annihilator.solve.Goals as goal

pub returns : goal.returns
returns c =
    cc (times_comm c.sum-t.result (cube c.args.self.inverse))
