-- Inverses by logarithms, and with them no divisors of 0.
use Rattle.std.specs.Prelude.{cond, ℕ, ◌-◌, ◌%◌, eqb}
use Rattle.algebra.specs.Field.{power}
use Rattle.algebra.specs.Powers.{log}

-- the inverse of a symbol; that of 0 is 0
unfoldable pub inverse : (a : ℕ) → ℕ
inverse a = cond (eqb (a % 729) 0) 0 (power 3 (728 - log a))
