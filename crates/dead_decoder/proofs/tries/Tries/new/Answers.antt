-- `dead_decoder::tries::Tries::new` meets its contract: what all tries share is prepared for them.
use mathlib.Core.Path.{ap, ◌∙◌}
use native.Mathlib.Omega.{arith}
use Rattle.rank.specs.Definitions.{at}
use Rattle.dead_lines.specs.Struck.{dead_lines}
use Rattle.dead_lines.specs.Multipliers.{steps}
use Rattle.dead_decoder.specs.Solutions.{first_one, gamma_raised}
use Rattle.dead_decoder.proofs.tries.Tries.new.Goals as goal

pub invariant_of-result : goal.invariant_of-result
unfolding at
invariant_of-result c = record {
  even = (c.requires.0, c.requires.2);
  factor_is =
      ap (at c.conjugates-gammas.result) c.count.ensures.0
      ∙ gamma_raised (dead_lines c.args.card.rows.bits) _ (omega (arith, c.args.card.few_lines, c.args.card.k.within.0)) c.conjugates-gammas.ensures;
  first_is = rw (first_one (steps c.args.card.rows.bits c.args.card.columns.bits) _ (λ i l. c.back-one.ensures i (omega arith))) at c.first-first.ensures;
}
