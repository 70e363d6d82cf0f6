-- `dead_decoder::roots::Quadratic::is_flat` meets its contract: two tests.
use borrow.Author.Tests.{eq-eqb, ne_eqb}
use Rattle.dead_decoder.specs.Roots.{is_flat}
use Rattle.dead_decoder.proofs.roots.Quadratic.is_flat.Goals as goal

pub returns-then-self-eq0 : goal.returns-then-self-eq0
unfolding is_flat
returns-then-self-eq0 c = rw (eq-eqb _ _ c.if-self-eq0.true)

pub returns-else-self-eq0 : goal.returns-else-self-eq0
unfolding is_flat
returns-else-self-eq0 c = rw (ne_eqb _ _ c.if-self-eq0.false)
