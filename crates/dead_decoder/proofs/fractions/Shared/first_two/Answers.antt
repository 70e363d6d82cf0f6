-- `dead_decoder::fractions::Shared::first_two` meets its contract: its five numbers are what the law asks.
use mathlib.Core.Path.{ap, ap₂, ◌∙◌}
use Rattle.algebra.specs.Field.{add, minus, times, cube}
use Prim.Native.Nat.{ℕ}
use Rattle.rank.specs.Definitions.{at}
use Rattle.dead_decoder.specs.Fractions.{prepared_two}
use Rattle.dead_decoder.proofs.fractions.Shared.first_two.Goals as goal

pub returns : goal.returns
unfolding at
returns c =
    let a = c.args.self.back in
    let ninth = c.cube-ninth.ensures ∙ ap cube c.cube.ensures in
    prepared_two (at c.args.self.coefficients) a c.args.self.factor _ c.product.ensures
    (c.product-2.ensures ∙ ap (times a) (c.sum-t.ensures ∙ ap₂ add (c.ninth_product.ensures ∙ ap (times _) c.determinant-known.ensures)
    (c.cube_product.ensures ∙ ap (λ (i : ℕ). times i (cube (at c.args.self.coefficients 5))) c.numerator-middle.ensures)))
    (c.product-3.ensures ∙ ap (times a) (c.product-u.ensures ∙ ap₂ times ninth c.cube_product-2.ensures))
    (c.cube-2.ensures ∙ ap cube c.determinant-before.ensures)
    (c.difference.ensures ∙ ap (minus 0) (c.cube_product-3.ensures ∙ ap (λ (i : ℕ). times i (cube (at c.args.self.coefficients 4))) ninth))
