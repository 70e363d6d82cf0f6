-- `wear::runs::find_worst` meets its contract: the run at card `first` is kept, and the worst of those up to there.
use mathlib.Core.Path.{refl}
use native.Mathlib.Omega.{arith}
use Rattle.wear.specs.Sliding.{keeps_leaves, keeps_small}
use Rattle.wear.specs.Worst.{wear_bounded, seeking_next}
use Rattle.wear.proofs.runs.find_worst.Goals as goal

pub overflow_add-sum : goal.overflow_add-sum
overflow_add-sum c =
    omega (arith, keeps_small _ c.loop-first.invariant.keeps _ _ refl c.card_wear-wear.ensures (wear_bounded c.args.body.now.bytes.now) c.requires.places)

pub overflow_sub-sum : goal.overflow_sub-sum
overflow_sub-sum c = keeps_leaves _ c.loop-first.invariant.keeps _ _ refl c.card_wear-wear.ensures c.requires.some

pub loop-first-preserved : goal.loop-first-preserved
loop-first-preserved c =
    seeking_next c.loop-first.invariant c.requires (omega arith) _ _ refl c.card_wear-wear.ensures _ c.worse-worst.ensures
