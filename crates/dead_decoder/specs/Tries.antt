-- The tries as the code has them, each with what is found in it.
-- Main: attempts.
use Rattle.std.specs.Prelude.{List, ℕ}
use Rattle.std.proofs.Math.Option.{Option}
use Rattle.rank.specs.Definitions.{at}
use Rattle.dead_lines.specs.Solving.{attempt_dead}
use Rattle.dead_decoder.specs.declared.tries.Tries.{Tries}

-- the message of try b, if it has one
abbrev pub attempts : Tries → (b : ℕ) → Option (List ℕ)
attempts t = attempt_dead t.n t.card.k.value t.card.rows.bits t.card.columns.bits t.card.card.symbols (at t.shared.coefficients)
