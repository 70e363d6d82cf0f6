-- Where everything lies in a tune book (SPECIFICATION 5): the numbers, the entries of the contents, the bodies, the cards. A book is
-- the list of its bytes. What is read is defined beside the bytes that it is written as.
-- Main: longest_book, tunes, tune_number, offset, cards, tune_numbers, card_counts, part_of, card; two_bytes, four_bytes, entry_bytes,
-- symbols_bytes.
use Rattle.std.specs.Prelude.{Bool, ◌&&◌, List, [], ◌∷◌, ◌++◌, ℕ, zero, suc, ◌+◌, ◌*◌, ◌-◌, ◌/◌, ◌%◌, ◌≤◌, ◌<◌, leb, eqb, length, get_or, take, drop}
use Rattle.algebra.specs.Lists.{table}

-- a book has at most this many bytes
abbrev pub longest_book : ℕ
longest_book = 65536

-- two bytes, and four, as a number: the high byte first
unfoldable pub big : List ℕ → (at : ℕ) → ℕ
big bs i = 256 * get_or bs i 0 + get_or bs (suc i) 0

unfoldable pub big_four : List ℕ → (at : ℕ) → ℕ
big_four bs i = 65536 * big bs i + big bs (i + 2)

-- and a number as two bytes, and as four
unfoldable pub two_bytes : (n : ℕ) → List ℕ
two_bytes n = n / 256 ∷ n % 256 ∷ []

unfoldable pub four_bytes : (n : ℕ) → List ℕ
four_bytes n = two_bytes (n / 65536) ++ two_bytes (n % 65536)

-- THE CONTENTS. Bytes 0-1: the count N of tunes; 0 in the empty file, as a byte that is not there counts as 0. Then N entries of 8 bytes
abbrev pub tunes : List ℕ → ℕ
tunes bs = big bs 0

-- where n entries end
abbrev pub contents_end : (n : ℕ) → ℕ
contents_end n = 2 + 8 * n

-- the bytes of each entry are there
abbrev pub EntriesWithin : List ℕ → Type 0
EntriesWithin bs = (e : ℕ) → e < tunes bs → contents_end (e + 1) ≤ length bs

-- of entry e, counted from 0: its tune number (2 bytes), the offset of its body from the file's start (4), its count of cards (2)
abbrev pub tune_number : List ℕ → (e : ℕ) → ℕ
tune_number bs e = big bs (2 + 8 * e)

abbrev pub offset : List ℕ → (e : ℕ) → ℕ
offset bs e = big_four bs (4 + 8 * e)

abbrev pub cards : List ℕ → (e : ℕ) → ℕ
cards bs e = big bs (8 + 8 * e)

-- and an entry as bytes
unfoldable pub entry_bytes : (number offset cards : ℕ) → List ℕ
entry_bytes n x c = two_bytes n ++ four_bytes x ++ two_bytes c

-- the tune numbers of all entries, and their counts of cards
unfoldable pub tune_numbers : List ℕ → List ℕ
tune_numbers bs = table (tunes bs) (λ e. tune_number bs e)

unfoldable pub card_counts : List ℕ → List ℕ
card_counts bs = table (tunes bs) (λ e. cards bs e)

-- THE BODIES. The tune's own part of the book: twelve bytes for each card
unfoldable pub part_of : List ℕ → (e : ℕ) → List ℕ
part_of bs e = take (12 * cards bs e) (drop (offset bs e) bs)

-- a body is at most 65,532 bytes long, and a multiple of 12
unfoldable pub body_good : List ℕ → Bool
body_good bs = leb (length bs) 65532 && eqb (length bs % 12) 0

-- symbols of 2 bytes, and as bytes
unfoldable pub symbols_from : (left : ℕ) → List ℕ → List ℕ
symbols_from zero bs = []
symbols_from (suc k) bs = big bs 0 ∷ symbols_from k (drop 2 bs)

unfoldable pub symbols_bytes : (symbols : List ℕ) → List ℕ
symbols_bytes [] = []
symbols_bytes (s ∷ ss) = two_bytes s ++ symbols_bytes ss

-- a body's card, counted from 1: twelve bytes from within the body, six symbols
unfoldable pub card : List ℕ → (n : ℕ) → List ℕ
card bs n = symbols_from 6 (drop (12 * (n - 1)) bs)
