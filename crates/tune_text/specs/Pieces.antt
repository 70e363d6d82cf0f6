-- Pieces one by one: where the first ends, and the pieces of the rest; and words, which are pieces that are not empty.
-- Main: ends_at, after_word.
use Rattle.std.specs.Prelude.{Bool, cond, ℕ, suc, drop}
use mathlib.Core.List.{List, [], ◌∷◌}
use Rattle.std.proofs.Math.ListN.{take}
use Rattle.tune_text.specs.Words.{blank}

-- WHERE the first piece ends: before the first byte that ends one, or where the text does
unfoldable pub ends_at : (ends : ℕ → Bool) → List ℕ → ℕ
ends_at e [] = 0
ends_at e (b ∷ l) = cond (e b) 0 (suc (ends_at e l))

-- WITHOUT THE BLANKS at the beginning
unfoldable pub trimmed : List ℕ → List ℕ
trimmed [] = []
trimmed (b ∷ l) = cond (blank b) (trimmed l) (b ∷ l)

-- THE FIRST WORD of a line, empty if it has none; and what follows it
unfoldable pub first_word : (line : List ℕ) → List ℕ
first_word l = take (ends_at blank (trimmed l)) (trimmed l)

unfoldable pub after_word : (line : List ℕ) → List ℕ
after_word l = drop (ends_at blank (trimmed l)) (trimmed l)
