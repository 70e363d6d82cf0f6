-- `wear::sliding::first_run` meets its contract: the run of the cards before card n is kept.
use Prim.Native.Nat.{◌-◌}
use Rattle.wear.specs.Wear.{card_wear}
use Rattle.wear.specs.Sliding.{Keeps}
use Rattle.wear.proofs.sliding.first_run.Given as goal

abbrev pub invariant-loop-n : goal.invariant-loop-n
invariant-loop-n l = Keeps (card_wear l.body.bytes.now) (l.n - 1) 1 l.wears l.sum
