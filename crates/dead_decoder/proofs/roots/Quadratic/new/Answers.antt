-- `dead_decoder::roots::Quadratic::new` meets its contract: its three numbers are what the law asks.
use mathlib.Core.Path.{◌≡◌, ap, ap₂, ◌∙◌}
use Prim.Native.Nat.{ℕ}
use Rattle.algebra.specs.Field.{add, minus, times}
use Rattle.dead_decoder.specs.Roots.{passes_by}
use Rattle.dead_decoder.proofs.roots.Quadratic.new.Goals as goal

-- a difference of products whose first and last factors are known
by : (r x y b c : ℕ) {p q : ℕ} → r ≡ minus (times x b) (times c y) → x ≡ p → y ≡ q → r ≡ minus (times p b) (times c q)
by r x y b c e f g = e ∙ ap₂ (λ (i j : ℕ). minus (times i b) (times c j)) f g

pub returns : goal.returns
returns c =
    let f = c.args.t in
    passes_by f _ _ _ (c.sum-a.ensures ∙ ap (λ (x : ℕ). add x f.numerator.constant) c.product.ensures)
    (c.sum-b.ensures ∙ ap (λ (x : ℕ). add x f.numerator.factor) c.product-2.ensures)
    (by _ _ _ _ _ c.crossed.ensures c.power_27-br.ensures c.power_27-dr.ensures)
    (c.sum.ensures ∙ ap₂ add (by _ _ _ _ _ c.crossed-2.ensures c.power_27-ar.ensures c.power_27-dr.ensures) (by _ _ _ _ _ c.crossed-3.ensures c.power_27-br.ensures c.power_27-cr.ensures))
    (by _ _ _ _ _ c.crossed-4.ensures c.power_27-ar.ensures c.power_27-cr.ensures)
