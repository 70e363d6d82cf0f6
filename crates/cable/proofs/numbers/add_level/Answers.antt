-- `cable::numbers::add_level` meets its contract: what is read back from 16 bits is the level, the term and the sum.
use mathlib.Core.Path.{◌≡◌, sym, ap₂, subst, ◌∙◌}
use Prim.Native.Nat.{◌+◌, ◌≤◌}
use lib.IntN.{ℤ, ◌+ℤ◌, ◌*ℤ◌, nat_abs}
use mir.Syntax.{w16}
use mir.Val.{SFits, to_z, of_z}
use mir.ValLaws.{to_z-of_z}
use Rattle.levels.specs.Levels.{level}
use Rattle.cable.specs.Sizes.{term_fits, terms_fit, terms_bound}
use Rattle.cable.proofs.numbers.add_level.Goals as goal
use Rattle.cable.proofs.numbers.add_level.Goals.{After-level}

-- the product, and what is read back of it
product : (c : After-level) →
    to_z w16 (of_z w16 c.level.result) *ℤ to_z w16 (of_z w16 c.args.power) ≡ level c.args.d *ℤ c.args.power
product c =
    ap₂ (λ (x y : ℤ). x *ℤ y)
    (to_z-of_z w16 c.level.result (record { sfits = c.level.type_inv }) ∙ c.level.ensures)
    (to_z-of_z w16 c.args.power c.ranges.power)

product_fits : (c : After-level) → SFits w16 (to_z w16 (of_z w16 c.level.result) *ℤ to_z w16 (of_z w16 c.args.power))
product_fits c = subst (SFits w16) (sym (product c)) (term_fits c.args.d c.args.power c.args.above c.requires.0)

pub overflow_mul-result : goal.overflow_mul-result
overflow_mul-result c = product_fits (goal.at.overflow_mul-result c).After-level

sum : (c : After-level) →
    to_z w16 (of_z w16 (to_z w16 (of_z w16 c.level.result) *ℤ to_z w16 (of_z w16 c.args.power))) +ℤ to_z w16 (of_z w16 c.args.above)
    ≡ level c.args.d *ℤ c.args.power +ℤ c.args.above
sum c =
    ap₂ (λ (x y : ℤ). x +ℤ y)
    (to_z-of_z w16 _ (product_fits c) ∙ product c)
    (to_z-of_z w16 c.args.above c.ranges.above)

sum_fits : (c : After-level) →
    SFits w16 (to_z w16 (of_z w16 (to_z w16 (of_z w16 c.level.result) *ℤ to_z w16 (of_z w16 c.args.power))) +ℤ to_z w16 (of_z w16 c.args.above))
sum_fits c = subst (SFits w16) (sym (sum c)) (terms_fit c.args.d c.args.power c.args.above c.requires.0 c.requires.1)

pub overflow_add-result : goal.overflow_add-result
overflow_add-result c = sum_fits (goal.at.overflow_add-result c).After-level

pub returns : goal.returns
returns c =
    let e = to_z-of_z w16 _ (sum_fits (goal.at.returns c).After-level) ∙ sum (goal.at.returns c).After-level in
    (e, subst (λ (z : ℤ). nat_abs z ≤ nat_abs c.args.power + nat_abs c.args.above) (sym e) (terms_bound c.args.d c.args.power c.args.above))
