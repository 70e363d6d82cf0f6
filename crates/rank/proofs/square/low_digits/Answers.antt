-- `rank::square::low_digits` meets its contract: the six digits are those of `low_digits`.
use mathlib.Core.Path.{ap}
use Rattle.rank.specs.Arrays.{six}
use Rattle.rank.specs.Elimination.{low_digits}
use Rattle.rank.proofs.square.low_digits.Goals as goal

pub returns : goal.returns
returns c = ap low_digits (six c.args.symbols c.well_formed.0.1.0.1)
