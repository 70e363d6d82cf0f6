-- The steps of two masks: a multiplier for each dead line, such that all steps together take dead rows to 0 and never meet a dead column. The
-- tables' rule is computed for all masks.
-- Main: row_multipliers, column_multipliers, steps.
use Rattle.std.specs.Prelude.{cond}
use mathlib.Core.List.{List, [], ◌∷◌, ◌++◌}
use Prim.Native.Nat.{ℕ, zero, suc, ◌*◌, ◌/◌, ◌%◌, ◌^◌}
use Rattle.std.proofs.Math.Dec.{eqb}
use Rattle.rank.specs.Definitions.{at}
use Rattle.dead_lines.specs.Struck.{bit}
use Rattle.dead_lines.specs.Steps.{Step, Row, Column, line_step, back}

-- THE TABLES: the multiplier of the step for the highest line of a mask, after those for its other lines. For rows it is u², u being what these
-- make of the line's power of z; for columns it is d^242, d being what the transposed steps make of the symbol whose trace with y is y's digit.
unfoldable pub row_multipliers : List ℕ
row_multipliers =
    0 ∷ 1 ∷ 9 ∷ 166 ∷ 81 ∷ 664 ∷ 133 ∷ 440 ∷ 103 ∷ 484 ∷ 415 ∷ 357 ∷ 189 ∷ 170 ∷ 256 ∷ 466
    ∷ 31 ∷ 124 ∷ 421 ∷ 453 ∷ 513 ∷ 70 ∷ 164 ∷ 643 ∷ 624 ∷ 217 ∷ 272 ∷ 480 ∷ 569 ∷ 124 ∷ 121 ∷ 596
    ∷ 279 ∷ 587 ∷ 170 ∷ 438 ∷ 321 ∷ 517 ∷ 407 ∷ 438 ∷ 236 ∷ 675 ∷ 491 ∷ 588 ∷ 421 ∷ 113 ∷ 113 ∷ 170
    ∷ 566 ∷ 649 ∷ 209 ∷ 2 ∷ 320 ∷ 449 ∷ 114 ∷ 109 ∷ 89 ∷ 317 ∷ 552 ∷ 328 ∷ 26 ∷ 394 ∷ 157 ∷ 8 ∷ []

unfoldable pub column_multipliers : List ℕ
column_multipliers =
    0 ∷ 103 ∷ 649 ∷ 21 ∷ 190 ∷ 325 ∷ 191 ∷ 634 ∷ 663 ∷ 118 ∷ 106 ∷ 693 ∷ 125 ∷ 65 ∷ 666 ∷ 417
    ∷ 523 ∷ 232 ∷ 406 ∷ 96 ∷ 366 ∷ 83 ∷ 100 ∷ 612 ∷ 59 ∷ 335 ∷ 82 ∷ 46 ∷ 232 ∷ 540 ∷ 420 ∷ 232
    ∷ 8 ∷ 157 ∷ 394 ∷ 26 ∷ 328 ∷ 552 ∷ 317 ∷ 89 ∷ 109 ∷ 114 ∷ 449 ∷ 320 ∷ 2 ∷ 209 ∷ 649 ∷ 566
    ∷ 170 ∷ 113 ∷ 113 ∷ 421 ∷ 588 ∷ 491 ∷ 675 ∷ 236 ∷ 438 ∷ 407 ∷ 517 ∷ 321 ∷ 438 ∷ 170 ∷ 587 ∷ 279 ∷ []

-- THE STEPS of a mask, its lowest line first, and of two masks, rows first
unfoldable pub steps_from : (left i : ℕ) → (line : ℕ → Step) → (multipliers : List ℕ) → (mask : ℕ) → List Step
steps_from zero i line ws mask = []
steps_from (suc n) i line ws mask =
    cond (eqb (bit mask i) 0) (steps_from n (suc i) line ws mask) (line (at ws (mask % 2 ^ suc i)) ∷ steps_from n (suc i) line ws mask)

unfoldable pub row_steps : (mask : ℕ) → List Step
row_steps mask = steps_from 6 0 Row row_multipliers mask

unfoldable pub column_steps : (mask : ℕ) → List Step
column_steps mask = steps_from 6 0 Column column_multipliers mask

unfoldable pub steps : (rows columns : ℕ) → List Step
steps ρ σ = row_steps ρ ++ column_steps σ

-- A STEP FOR EACH LINE, if it is dead; its bit is worth low
unfoldable pub step_if : (line : ℕ → Step) → (multipliers : List ℕ) → (mask low : ℕ) → (ℕ → ℕ) → ℕ → ℕ
step_if line ws mask low h = cond (eqb (mask / low % 2) 0) h (line_step (line (at ws (mask % (2 * low)))) h)

-- and back
unfoldable pub back_if : (line : ℕ → Step) → (multipliers : List ℕ) → (mask low : ℕ) → (ℕ → ℕ) → ℕ → ℕ
back_if line ws mask low f = cond (eqb (mask / low % 2) 0) f (back (line (at ws (mask % (2 * low)))) f)

-- six lines, the lowest first; back, the highest first
unfoldable pub six_steps : (line : ℕ → Step) → (multipliers : List ℕ) → (mask : ℕ) → (ℕ → ℕ) → ℕ → ℕ
six_steps line ws mask h =
    step_if line ws mask 32 (step_if line ws mask 16 (step_if line ws mask 8 (step_if line ws mask 4 (step_if line ws mask 2 (step_if line ws mask 1 h)))))

unfoldable pub six_backs : (line : ℕ → Step) → (multipliers : List ℕ) → (mask : ℕ) → (ℕ → ℕ) → ℕ → ℕ
six_backs line ws mask f =
    back_if line ws mask 1 (back_if line ws mask 2 (back_if line ws mask 4 (back_if line ws mask 8 (back_if line ws mask 16 (back_if line ws mask 32 f)))))
