-- Words, numbers and lines of a text, as lists of bytes.
-- Main: pieces, lines, blank, words, digit, is_number, value, same.
use Rattle.std.specs.Prelude.{Bool, true, false, cond, ◌&&◌, ◌||◌, List, [], ◌∷◌, ℕ, min, eqb, leb}
use Rattle.text.specs.Decimal.{value_from}

-- PIECES of a text. Each byte that passes the test ends a piece and is in none; the last piece need not be ended so
unfoldable pub onto : (byte : ℕ) → List (List ℕ) → List (List ℕ)
onto b [] = (b ∷ []) ∷ []
onto b (x ∷ xs) = (b ∷ x) ∷ xs

unfoldable pub pieces : (ends : ℕ → Bool) → List ℕ → List (List ℕ)
pieces e [] = []
pieces e (b ∷ l) = cond (e b) ([] ∷ pieces e l) (onto b (pieces e l))

-- LINES end with byte 10
abbrev pub new_line : ℕ → Bool
new_line b = eqb b 10

unfoldable pub lines : (text : List ℕ) → List (List ℕ)
lines t = pieces new_line t

-- WORDS are what is between blanks, if it is not empty. Blanks are space, tab and carriage return
unfoldable pub blank : ℕ → Bool
blank b = eqb b 32 || (eqb b 9 || eqb b 13)

unfoldable pub not_empty : List (List ℕ) → List (List ℕ)
not_empty [] = []
not_empty ([] ∷ xs) = not_empty xs
not_empty ((b ∷ x) ∷ xs) = (b ∷ x) ∷ not_empty xs

unfoldable pub words : (line : List ℕ) → List (List ℕ)
words l = not_empty (pieces blank l)

-- NUMBERS are words of digits only, at least one
unfoldable pub digit : ℕ → Bool
digit b = leb 48 b && leb b 57

unfoldable pub only_digits : List ℕ → Bool
only_digits [] = true
only_digits (b ∷ l) = digit b && only_digits l

unfoldable pub is_number : (word : List ℕ) → Bool
is_number [] = false
is_number (b ∷ l) = only_digits (b ∷ l)

-- their value is decimal, and 65535 if it is more
unfoldable pub value : (word : List ℕ) → ℕ
value w = min 65535 (value_from 0 w)

-- THE SAME WORD
unfoldable pub same : (a b : List ℕ) → Bool
same [] [] = true
same [] (y ∷ b) = false
same (x ∷ a) [] = false
same (x ∷ a) (y ∷ b) = eqb x y && same a b
