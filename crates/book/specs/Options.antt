-- The number that a search of the code found, or that there is none, as the searches of the definitions say it.
-- Main: option_of.
use Rattle.std.specs.Prelude.{ℕ}
use Rattle.std.specs.Prelude as code
use Rattle.std.proofs.Math.Option.{Option, none, some}

abbrev pub option_of : code.Option ℕ → Option ℕ
option_of code.None = none
option_of (code.Some n) = some n
