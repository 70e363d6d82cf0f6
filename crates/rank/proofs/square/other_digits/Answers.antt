-- `rank::square::other_digits` meets its contract: the six symbols are those of `other_digits`.
use mathlib.Core.Path.{ap}
use Rattle.rank.specs.Arrays.{six}
use Rattle.rank.specs.Elimination.{other_digits}
use Rattle.rank.proofs.square.other_digits.Goals as goal

pub returns : goal.returns
returns c = ap other_digits (six c.args.symbols c.well_formed.0.1.0.1)
