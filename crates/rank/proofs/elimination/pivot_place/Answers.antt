-- `rank::elimination::pivot_place` meets its contract: the first place where the column is not 0. The loop: no place passed is.
use mathlib.Core.Path.{refl, sym, ◌∙◌}
use native.Mathlib.Omega.{arith}
use Rattle.rank.specs.Loops.{nonzero_next, nonzero_here, nonzero_end}
use Rattle.rank.proofs.elimination.pivot_place.Goals as goal

pub loop-i-init : goal.loop-i-init
loop-i-init c = refl

pub returns-then-column-i-ne0 : goal.returns-then-column-i-ne0
returns-then-column-i-ne0 c =
    (sym (c.loop-i.invariant ∙ nonzero_here c.loop-i.i c.args.column c.loop-i-test.true c.if-column-i-ne0.true), c.loop-i-test.true)

pub loop-i-preserved : goal.loop-i-preserved
loop-i-preserved c =
    c.loop-i.invariant ∙ nonzero_next c.loop-i.i c.args.column c.loop-i-test.true c.if-column-i-ne0.false

pub returns : goal.returns
returns c =
    c.loop-i.invariant ∙ nonzero_end c.loop-i.i c.args.column c.loop-i-test.false ∙ omega arith
