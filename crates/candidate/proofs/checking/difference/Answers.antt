-- `candidate::checking::difference` meets its contract: six entries of the difference.
use mathlib.Core.Path.{refl, ◌∙◌}
use native.Mathlib.Omega.{arith}
use Rattle.algebra.specs.Lists.{cons}
use Rattle.rank.specs.Definitions.{difference}
use Rattle.candidate.specs.Finding.{six_difference}
use Rattle.candidate.proofs.checking.difference.Goals as goal

pub returns : goal.returns
unfolding difference
returns c =
    cons c.difference.ensures (cons c.difference-2.ensures (cons c.difference-3.ensures
    (cons c.difference-4.ensures (cons c.difference-5.ensures (cons c.difference-6.ensures refl)))))
    ∙ six_difference c.args.c c.args.d (omega arith) (omega arith)
