-- Squares: gamma is none and each small symbol is one, so gamma times a square is not small, but 0.
use Rattle.std.specs.Prelude.{◌≡◌, ℕ}
use Rattle.algebra.specs.Field.{times}
use Rattle.algebra.specs.Sums.{Zero}

-- SQUARES, BUT 0
pub record Square (v : ℕ) : Type 0 where
  pub root : ℕ
  pub not_zero : ¬ Zero root
  pub same : times root root ≡ v
