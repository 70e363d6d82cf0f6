-- `codec::packed::Counts::symbols` meets its contract: six symbols of two halves each.
use Rattle.std.proofs.Common.{refl, ◌∙◌}
use Rattle.algebra.specs.Lists.{cons}
use Rattle.transform.specs.Remainders.{symbols_halves}
use Rattle.codec.proofs.packed.Counts.symbols.Goals as goal

pub returns : goal.returns
returns c =
    cons c.symbol.ensures (cons c.symbol-2.ensures (cons c.symbol-3.ensures
    (cons c.symbol-4.ensures (cons c.symbol-5.ensures (cons c.symbol-6.ensures refl)))))
    ∙ symbols_halves c.args.self.numbers _ _ _ _
    c.halves-p.ensures c.halves-q.ensures c.halves-r.ensures c.halves-s.ensures
