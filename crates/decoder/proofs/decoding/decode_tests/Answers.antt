-- `decoder::decoding::decode_tests` meets its contract: the lengths fit as the definition asks.
use borrow.Author.Tests.{eq-eqb, ne_eqb}
use Rattle.decoder.specs.Decoding.{decode_tests, lengths_bad}
use Rattle.decoder.proofs.decoding.decode_tests.Goals as goal
use Rattle.decoder.proofs.decoding.decode_tests.Goals.{then-card-eq6, else-card-eq6}

pub returns-clause-tested : goal.returns-clause-tested
unfolding decode_tests lengths_bad
returns-clause-tested c = elim c.if-card-eq6.branch [
  | then-card-eq6 w ↦ rw (eq-eqb _ _ w.if-card-eq6.true) (rw (w.fit-is, w.lengths_fit-fit.ensures) at c.test_input.ensures.tested)
  | else-card-eq6 w ↦ rw (ne_eqb _ _ w.if-card-eq6.false) (rw (w.fit-is, ne_eqb _ _ w.if-card-eq6.false) at c.test_input.ensures.tested)
]
