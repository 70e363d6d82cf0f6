-- `candidate::shape::is_word` meets its contract: each test on the way decides one test of the definition.
use mathlib.Core.Path.{sym, ◌∙◌}
use borrow.Author.Rules.{rules}
use Rattle.rank.specs.Definitions.{at}
use Rattle.coding.specs.Clean.{shaped}
use Rattle.candidate.proofs.shape.is_word.Goals as goal
use Rattle.candidate.proofs.shape.is_word.Goals.{then-none_beyond, else-none_beyond}

pub returns-then-high-eq0 : goal.returns-then-high-eq0
unfolding shaped at
returns-then-high-eq0 c = elim c.if-none_beyond.branch [
  | then-none_beyond w ↦ rw c.low.ensures
      (sym (rw (sym c.none_beyond.ensures ∙ w.if-none_beyond.true, rw w.high.ensures at (sym w.value-is ∙ c.if-high-eq0.true))))
  | else-none_beyond w ↦ search rules
]

pub returns-else-high-eq0 : goal.returns-else-high-eq0
unfolding shaped at
returns-else-high-eq0 c = c.if-high-eq0.false ∙ (elim c.if-none_beyond.branch [
  | then-none_beyond w ↦ sym (rw (sym c.none_beyond.ensures ∙ w.if-none_beyond.true, rw w.high.ensures at (sym w.value-is ∙ c.if-high-eq0.false)))
  | else-none_beyond w ↦ sym (rw (sym c.none_beyond.ensures ∙ w.if-none_beyond.false))
])
