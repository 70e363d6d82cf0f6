-- `decoder::two::prepare` meets its contract: each field by its own call, the three numbers from those for the first symbol 0.
use mathlib.Core.Path.{refl, ap, ◌∙◌}
use native.Mathlib.Nat.{mod-eq_of_lt}
use Rattle.algebra.specs.Field.{minus, times, cube}
use Rattle.algebra.specs.Products.{cube_linear, times_one}
use Rattle.algebra.specs.Inverses.{inverse}
use Rattle.rank.specs.Definitions.{at}
use Rattle.coding.specs.DecodeTwo.{ninth_numerator}
use Rattle.decoder.specs.Doubles.{determinant_at, numerator_at, ninth_at}
use Rattle.decoder.proofs.two.prepare.Goals as goal

pub returns : goal.returns
unfolding at ninth_numerator
returns c =
    let r = at c.args.r in
    record {
      zeroth = refl;
      first = refl;
      fifth = refl;
      determinant = λ x. determinant_at r x _ c.determinant-d.ensures c.cube_product.ensures;
      numerator = λ x. numerator_at r x _ c.numerator-n.ensures (c.ninth_product.ensures ∙ times_one _ ∙ mod-eq_of_lt (cube_linear.below _));
      ninth = λ x. ninth_at r x _ (rw (c.ninth_numerator.ensures, c.determinant-d.ensures, c.numerator-n.ensures, c.requires))
          (c.difference.ensures ∙ ap (minus 0) (c.cube_product-2.ensures ∙ ap (λ x. times 684 (cube x)) c.determinant-before.ensures));
      inverse = c.inverse.ensures ∙ ap inverse c.requires;
    }
