-- Dead lines made 0 as the code does it, and a message checked against a card with dead lines.
-- Main: kept_six, blanked_six, near_dead_some, near_dead_none.
use Rattle.std.specs.Prelude.{◌≡◌, refl, Bool, true, false, cond, List, [], ◌∷◌, ℕ, ◌+◌, ◌*◌, ◌-◌, ◌/◌, ◌%◌, ◌≤◌, ◌<◌, eqb, length, get_or}
use Rattle.std.proofs.Common.{ap, arith}
use Rattle.std.proofs.Math.Option.{none, some}
use Rattle.std.proofs.Math.Nat.{mod-mod, div-div-eq-div-mul}
use borrow.Author.Tests.{le-leb, lt-leb}
use Rattle.algebra.specs.Field.{digits_of, digits, number_of}
use Rattle.rank.specs.Definitions.{rank, difference}
use Rattle.rank.specs.Arrays.{six}
use Rattle.coding.specs.Code.{word, is_message}
use Rattle.dead_lines.specs.Struck.{bit, dead_lines, live_rank}
use Rattle.dead_lines.specs.Blanked.{blanked_from, kept, blanked, struck_rank}
use Rattle.dead_lines.specs.DecodeDead.{is_near_dead, if_near_dead}

-- A NUMBER of the line whose bit is worth low, or 0 if the line is dead
abbrev unless_dead : (mask low v : ℕ) → ℕ
unless_dead mask low v = cond (eqb (mask / low % 2) 0) v 0

digit_still : (b : Bool) (v : ℕ) → cond b (v % 3) 0 % 3 ≡ cond b (v % 3) 0
digit_still true v = mod-mod v 3
digit_still false v = refl

-- a symbol, digit by digit
pub kept_six : (ρ v : ℕ)
    → unless_dead ρ 1 (v % 3) + 3 * unless_dead ρ 2 (v / 3 % 3) + 9 * unless_dead ρ 4 (v / 9 % 3) + 27 * unless_dead ρ 8 (v / 27 % 3)
    + 81 * unless_dead ρ 16 (v / 81 % 3) + 243 * unless_dead ρ 32 (v / 243 % 3) ≡ kept ρ v
unfolding kept blanked_from digits digits_of number_of bit
kept_six ρ v = simp (digit_still, div-div-eq-div-mul) (omega arith)

-- and six symbols
pub blanked_six : (ρ σ : ℕ) (d : List ℕ) → length d ≡ 6
    → unless_dead σ 1 (kept ρ (get_or d 0 0)) ∷ unless_dead σ 2 (kept ρ (get_or d 1 0)) ∷ unless_dead σ 4 (kept ρ (get_or d 2 0)) ∷ unless_dead σ 8 (kept ρ (get_or d 3 0))
    ∷ unless_dead σ 16 (kept ρ (get_or d 4 0)) ∷ unless_dead σ 32 (kept ρ (get_or d 5 0)) ∷ [] ≡ blanked ρ σ d
unfolding blanked blanked_from bit
blanked_six ρ σ d l = ap (blanked ρ σ) (six d l)

-- A MESSAGE checked against the lines that are left
module _ (k ρ σ : ℕ) (c m : List ℕ) where
  abbrev spent : ℕ
  spent = 2 * rank (blanked ρ σ (difference (word k m) c)) + dead_lines ρ + dead_lines σ

  pub near_dead_some : is_message k m ≡ true → spent ≤ 6 - k → if_near_dead k ρ σ c m ≡ some m
  unfolding if_near_dead is_near_dead live_rank
  near_dead_some e h = rw (e, struck_rank ρ σ (difference (word k m) c), le-leb spent (6 - k) h)

  pub near_dead_none : 6 - k < spent → is_message k m ≡ true → if_near_dead k ρ σ c m ≡ none
  unfolding if_near_dead is_near_dead live_rank
  near_dead_none h e = rw (e, struck_rank ρ σ (difference (word k m) c), lt-leb spent (6 - k) h)
