-- `wear::runs::find_worst` meets its contract: the run at card `first` is kept, and the worst of those up to there.
use Rattle.wear.specs.Worst.{Seeking}
use Rattle.wear.proofs.runs.find_worst.Given as goal

abbrev pub invariant-loop-first : goal.invariant-loop-first
invariant-loop-first l = Seeking l.body.bytes.now l.width l.first l.wears l.sum l.worst
