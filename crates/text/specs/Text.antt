-- Texts that programs print, as lists of bytes in ASCII: words, decimal numbers and lines; and a text in a list that was lent for it.
-- Main: ascii, line_end, decimal, spaced, word_line, book_refused, joined; written, room_refusal.
use Rattle.std.specs.Prelude.{cond, List, [], ◌∷◌, ◌++◌, ℕ, zero, suc, ◌+◌, ◌/◌, ◌%◌, ltb, length, take, drop}
use Prim.Native.Char.{code}
use Prim.Native.String.{String, [] as []ˢ, ◌∷◌ as ◌∷ˢ◌}
use Rattle.refusal.specs.Replies.{number}
use Rattle.refusal.specs.declared.Refusal.TheVariants.{Length}

-- WORDS: each character by its number in ASCII
abbrev pub ascii : String → List ℕ
ascii []ˢ = []
ascii (c ∷ˢ s) = code c ∷ ascii s

-- the end of a line
abbrev pub line_end : List ℕ
line_end = ascii "\n"

-- NUMBERS in decimal with the fewest digits: below 10 one digit, else the digits of the tenth part and then the last. At most `deep`
-- tenth parts are taken
unfoldable pub decimal_from : (deep n : ℕ) → List ℕ
decimal_from zero n = (48 + n % 10) ∷ []
decimal_from (suc k) n = cond (ltb n 10) ((48 + n) ∷ []) (decimal_from k (n / 10) ++ ((48 + n % 10) ∷ []))

-- n tenth parts of n are more than enough
unfoldable pub decimal : (n : ℕ) → List ℕ
decimal n = decimal_from n n

-- a number after a space
unfoldable pub spaced : (n : ℕ) → List ℕ
spaced n = ascii " " ++ decimal n

-- A LINE of a word and a number
unfoldable pub word_line : (word : List ℕ) → (n : ℕ) → List ℕ
word_line w n = w ++ spaced n ++ line_end

-- the one line of a book that is refused
unfoldable pub book_refused : (refusal : ℕ) → List ℕ
book_refused m = word_line (ascii "book refused") m

-- TEXTS one after another: the first k of them
unfoldable pub joined : (texts : ℕ → List ℕ) → (k : ℕ) → List ℕ
joined t zero = []
joined t (suc k) = joined t k ++ t k

-- IN A LENT LIST: the first `at` bytes as they were, then the new bytes, then the rest as it was
unfoldable pub written : {A : Type 0} → (old : List A) → (at : ℕ) → (bytes : List A) → List A
written old a x = take a old ++ x ++ drop (a + length x) old

-- 2 if the list lent for a text is shorter than the longest text
unfoldable pub room_refusal : (longest : ℕ) → (text : List ℕ) → ℕ
room_refusal n t = cond (ltb (length t) n) (number Length) 0
