-- `wear::sliding::first_run` meets its contract: the run of the cards before card n is kept.
use Prim.Native.Nat.{◌+◌, ◌-◌}
use mathlib.Core.Path.{◌≡◌, refl}
use native.Mathlib.Omega.{arith}
use Rattle.wear.specs.Sliding.{keeps_none, keeps_grown, keeps_small}
use Rattle.wear.specs.Worst.{wear_bounded}
use Rattle.wear.proofs.sliding.first_run.Goals as goal

pub loop-n-init : goal.loop-n-init
loop-n-init c = keeps_none _ 1 _ refl

pub overflow_add-sum : goal.overflow_add-sum
overflow_add-sum c =
    let p = c.requires.places in
    omega (arith, keeps_small _ c.loop-n.invariant c.loop-n.n _ (omega arith) c.card_wear-wear.ensures (wear_bounded c.args.body.now.bytes.now) (omega arith))

pub loop-n-preserved : goal.loop-n-preserved
loop-n-preserved c =
    let p = c.requires.places in
    let e : c.loop-n.n + 1 - 1 ≡ c.loop-n.n - 1 + 1 = omega arith in
    rw e (keeps_grown _ c.loop-n.invariant c.loop-n.n _ (omega arith) c.card_wear-wear.ensures (omega arith))
