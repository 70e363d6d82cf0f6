-- The small field: 27 symbols, those that risen 3 leaves as they are. Each equation here between linear functions is by their values at
-- the basis (`agree .. refl`), so it holds at all numbers.
-- Main: SmallField.
use Rattle.std.specs.Prelude.{◌≡◌, [], ◌∷◌, ℕ, ◌<◌}
use Rattle.algebra.specs.Field.{add, times, risen, small, gamma, small_of}
use Rattle.algebra.specs.Linear.{combination}

-- EVERY SYMBOL IS ONE PAIR of small ones
unfoldable pub pair : (c d : ℕ) → ℕ
pair c d = add (small c) (times gamma (small d))

unfoldable pub low : (v : ℕ) → ℕ
low = combination (1 ∷ 0 ∷ 6 ∷ 21 ∷ 4 ∷ 4 ∷ [])

unfoldable pub high : (v : ℕ) → ℕ
high = combination (0 ∷ 1 ∷ 5 ∷ 10 ∷ 10 ∷ 20 ∷ [])

-- THE SMALL FIELD: 27 symbols that are their own 27th power, and no others
unfoldable pub SmallField : Type 0
SmallField =
    (v c : ℕ) → v < 729 → c < 27 → (risen 3 (small c) ≡ small c) × (small_of (small c) ≡ c) × (risen 3 v ≡ v → small (small_of v) ≡ v)
