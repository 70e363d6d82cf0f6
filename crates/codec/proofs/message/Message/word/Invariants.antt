-- Both numbers of the coefficients so far are added, and the first one's only number.
use Rattle.std.proofs.Common.{◌≡◌, ◌*◌, ◌-◌}
use Rattle.transform.specs.Transforms.{upto}
use Rattle.codec.proofs.message.Message.word.Given as goal

abbrev pub invariant-loop-s : goal.invariant-loop-s
invariant-loop-s l = record { numbers : l.counts.numbers ≡ upto l.self.k.value l.self.numbers (2 * l.s - 1); rows : l.counts.rows ≡ 6 * l.s - 3 }
