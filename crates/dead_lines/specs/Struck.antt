-- Dead lines (document 02, P4): a mask of lines, what is left of a square of digits when dead lines are struck out, and the messages near a card
-- whose dead lines count for nothing. That there is at most one, OneNearDead, is proved in OneNear.
use Rattle.std.specs.Prelude.{◌≡◌, true, cond, List, [], ◌∷◌, map, ℕ, suc, ◌+◌, ◌*◌, ◌-◌, ◌/◌, ◌%◌, ◌^◌, ◌≤◌, eqb}
use Rattle.algebra.specs.Field.{digits, number_of}
use Rattle.rank.specs.Definitions.{is_card, rank, difference}
use Rattle.rank.specs.Mask.{ones}
use Rattle.coding.specs.Code.{word, is_message}

-- A MASK: line i is dead if bit i, worth 2^i, is 1
unfoldable pub bit : (mask i : ℕ) → ℕ
bit mask i = mask / 2 ^ i % 2

-- how many lines are dead
unfoldable pub dead_lines : (mask : ℕ) → ℕ
dead_lines mask = ones 6 0 mask

-- STRUCK OUT: a list without the entries of dead lines; its first entry is that of line i
unfoldable pub struck_from : (i mask : ℕ) → List ℕ → List ℕ
struck_from i mask [] = []
struck_from i mask (x ∷ xs) = cond (eqb (bit mask i) 0) (x ∷ struck_from (suc i) mask xs) (struck_from (suc i) mask xs)

-- a column without its digits in dead rows: what is left moves up
unfoldable pub struck_column : (rows v : ℕ) → ℕ
struck_column ρ v = number_of (struck_from 0 ρ (digits v))

-- the columns of a square that are not dead, each without its digits in dead rows
unfoldable pub struck_out : (rows columns : ℕ) → (square : List ℕ) → List ℕ
struck_out ρ σ c = map (struck_column ρ) (struck_from 0 σ c)

-- the rank of what is left of the difference of two cards (document 02: p)
unfoldable pub live_rank : (rows columns : ℕ) → (c d : List ℕ) → ℕ
live_rank ρ σ c d = rank (struck_out ρ σ (difference c d))

-- A MESSAGE NEAR A CARD with dead lines
pub record NearDead (k ρ σ : ℕ) (card m : List ℕ) : Type 0 where
  pub message : is_message k m ≡ true
  pub within : 2 * live_rank ρ σ (word k m) card + dead_lines ρ + dead_lines σ ≤ 6 - k

-- at most one message is
unfoldable pub OneNearDead : Type 0
OneNearDead =
    (k ρ σ : ℕ) (c m n : List ℕ) → 1 ≤ k → k ≤ 5 → is_card c ≡ true → NearDead k ρ σ c m → NearDead k ρ σ c n → m ≡ n
