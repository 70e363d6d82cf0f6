-- Cards, the rank of a card, and the difference of two (SPECIFICATION 3).
use Rattle.std.specs.Prelude.{Bool, cond, ◌&&◌, not, List, [], ◌∷◌, ℕ, zero, suc, ◌+◌, ◌*◌, ◌%◌, eqb, length, get_or}
use Rattle.std.proofs.Math.Option.{Option, none, some}
use Rattle.algebra.specs.Field.{digits, minus}
use Rattle.algebra.specs.Tests.{any_above}

-- the symbol in place i
unfoldable pub at : List ℕ → (i : ℕ) → ℕ
at xs i = get_or xs i 0

-- six symbols
unfoldable pub is_card : List ℕ → Bool
is_card c = eqb (length c) 6 && not (any_above 728 c)

-- RANK of a card's square of digits, a column for each symbol: by elimination, digit by digit
unfoldable pub columns : List ℕ → List (List ℕ)
columns [] = []
columns (s ∷ ss) = digits s ∷ columns ss

-- a column less d times another
unfoldable pub subtract : (d : ℕ) → (a b : List ℕ) → List ℕ
subtract d [] ys = []
subtract d (x ∷ xs) [] = []
subtract d (x ∷ xs) (y ∷ ys) = ((x + 2 * d * y) % 3) ∷ subtract d xs ys

-- the first column with a digit not 0 at a row, if any
unfoldable pub pivot : (row : ℕ) → List (List ℕ) → Option (List ℕ)
pivot i [] = none
pivot i (c ∷ cs) = cond (eqb (get_or c i 0) 0) (pivot i cs) (some c)

-- all columns less the multiples of p that leave 0 at a row
unfoldable pub cleared : (row : ℕ) → (p : List ℕ) → List (List ℕ) → List (List ℕ)
cleared i p [] = []
cleared i p (c ∷ cs) = subtract (get_or c i 0 * get_or p i 0 % 3) c p ∷ cleared i p cs

-- one row: a pivot counts 1, and is cleared from all columns, itself among them
unfoldable pub rank_with : Option (List ℕ) → (on : List (List ℕ) → ℕ) → (row : ℕ) → List (List ℕ) → ℕ
rank_with none f i cs = f cs
rank_with (some p) f i cs = suc (f (cleared i p cs))

-- the rows that are left
unfoldable pub rank_from : (left row : ℕ) → List (List ℕ) → ℕ
rank_from zero i cs = 0
rank_from (suc n) i cs = rank_with (pivot i cs) (λ ds. rank_from n (suc i) ds) i cs

unfoldable pub rank : List ℕ → ℕ
rank c = rank_from 6 0 (columns c)

-- DIFFERENCE of two cards, symbol by symbol, and its rank: how far they are apart
unfoldable pub difference : List ℕ → List ℕ → List ℕ
difference [] ys = []
difference (x ∷ xs) [] = []
difference (x ∷ xs) (y ∷ ys) = minus x y ∷ difference xs ys

unfoldable pub apart : List ℕ → List ℕ → ℕ
apart c d = rank (difference c d)
