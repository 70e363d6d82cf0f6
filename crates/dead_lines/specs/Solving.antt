-- Decoding with dead lines by algebra: what is run where a line is dead, and that it is decode_dead. All steps made, the problem for k with r dead
-- rows and s dead columns is that for n = k + r + s with none: the error's rank is at most (6 - n)/2. For even n one coefficient more is needed
-- than the card shows, and the message's last symbol, which is small, gives it: 27 are tried.
-- Main: solution, last_term, tried, proposal, attempt_dead, lower_rank, solve.
use Rattle.std.specs.Prelude.{Bool, ◌&&◌, leb}
use Rattle.std.proofs.Math.Bool.{cond}
use mathlib.Core.List.{List}
use Rattle.std.proofs.Math.Option.{Option, none}
use Prim.Native.Nat.{ℕ, suc, ◌/◌, ◌%◌}
use Rattle.std.proofs.Math.Dec.{eqb}
use Rattle.algebra.specs.Field.{times, risen, small, gamma}
use Rattle.algebra.specs.Lists.{table}
use Rattle.algebra.specs.SmallField.{high}
use Rattle.coding.specs.Coefficients.{read}
use Rattle.coding.specs.Options.{first_of}
use Rattle.coding.specs.Window.{determinant}
use Rattle.coding.specs.Residual.{residual}
use Rattle.coding.specs.DecodeOne.{zeroth, first}
use Rattle.dead_lines.specs.Struck.{dead_lines}
use Rattle.dead_lines.specs.DecodeDead.{if_near_dead}
use Rattle.dead_lines.specs.Steps.{unstepped}
use Rattle.dead_lines.specs.Multipliers.{steps}
use Rattle.dead_lines.specs.Hidden.{less_top}

-- THE MESSAGE'S COEFFICIENTS, all steps made, from those of the card: number i less the error's, whose rank is at most 2, 1 or 0
unfoldable pub solution : (n : ℕ) → (r : ℕ → ℕ) → (i : ℕ) → ℕ
solution n r i = cond (leb n 2) (cond (eqb i 0) (zeroth r) (first r)) (cond (leb n 4) (residual r (r 4) i) (r i))

-- what the message's last symbol adds to number n, in try b
unfoldable pub last_term : (n rows b : ℕ) → ℕ
last_term n r b = times (risen r gamma) (risen (n / 2) (small b))

unfoldable pub tried : (n rows : ℕ) → (h : ℕ → ℕ) → (b : ℕ) → ℕ → ℕ
tried n r h b = solution n (less_top n (last_term n r b) h)

-- A PROPOSAL: the message back from its coefficients, all steps made, checked against the card
unfoldable pub proposal : (k ρ σ : ℕ) → (card : List ℕ) → (f : ℕ → ℕ) → Option (List ℕ)
proposal k ρ σ c f = if_near_dead k ρ σ c (read (table (suc k) (unstepped (steps ρ σ) f)))

-- in try b, where its first coefficient is small
unfoldable pub attempt_dead : (n k ρ σ : ℕ) → (card : List ℕ) → (h : ℕ → ℕ) → (b : ℕ) → Option (List ℕ)
attempt_dead n k ρ σ c h b = cond (eqb (high (unstepped (steps ρ σ) (tried n (dead_lines ρ) h b) 0)) 0) (proposal k ρ σ c (tried n (dead_lines ρ) h b)) none

-- whether the error, all steps made, is known to have a lower rank than it might: for n = 2 it is at most 1, for n = 4 it is 0
unfoldable pub lower_rank : (n : ℕ) → (h : ℕ → ℕ) → Bool
lower_rank n h = cond (eqb n 2) (eqb (determinant (h 3) (h 4) (h 5)) 0) (eqb n 4 && eqb (h 5) 0)

-- WHAT IS RUN, h being the card's coefficients, all steps made: one proposal for odd n and for an error of lower rank; else 27
unfoldable pub solve : (n k ρ σ : ℕ) → (card : List ℕ) → (h : ℕ → ℕ) → Option (List ℕ)
solve n k ρ σ c h =
    cond (eqb (n % 2) 1) (proposal k ρ σ c (solution n h))
    (cond (lower_rank n h) (proposal k ρ σ c (solution 3 h)) (first_of 27 (attempt_dead n k ρ σ c h)))
