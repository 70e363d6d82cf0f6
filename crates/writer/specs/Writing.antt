-- The bytes of a book that is written from tune numbers, counts of cards and strikes, and what the writer refuses (SPECIFICATION 8.13 and
-- 8.14). An entry and a card are laid out as `book/Layout` has them.
-- Main: card_bytes, cards_bytes, contents_bytes, book_bytes; all_cards, book_length, size_refusal, write_refusal; Written.
use Rattle.std.specs.Prelude.{◌≡◌, Bool, false, ◌||◌, ◌&&◌, not, cond, List, [], ◌∷◌, ◌++◌, ℕ, ◌+◌, ◌*◌, ltb, eqb, length, Result}
use Rattle.refusal.specs.declared.Refusal.{Refusal}
use Rattle.refusal.specs.declared.Refusal.TheVariants.{Length, BookSize, TuneNumber, Layout, StrikeField}
use Rattle.refusal.specs.Replies.{number, outcome, unless}
use Rattle.coding.specs.Code.{word}
use Rattle.strike.specs.declared.Strike.{Strike}
use Rattle.strike.specs.Strikes.{strike_message}
use Rattle.strike.specs.Turns.{strikes_bad, strikes}
use Rattle.book.specs.Layout.{longest_book, contents_end, two_bytes, entry_bytes, symbols_bytes}
use Rattle.book.specs.Open.{rising}

-- CARDS. A strike's: the word of its message
unfoldable pub card_bytes : Strike → List ℕ
card_bytes s = symbols_bytes (word 2 (strike_message s))

-- the cards of strikes. Bodies follow each other without gaps in the order of the contents, so these are all bodies
unfoldable pub cards_bytes : List Strike → List ℕ
cards_bytes [] = []
cards_bytes (s ∷ ss) = card_bytes s ++ cards_bytes ss

-- THE CONTENTS. Entries whose first body begins at `start`
unfoldable pub entries_bytes : (numbers counts : List ℕ) → (start : ℕ) → List ℕ
entries_bytes [] cs x = []
entries_bytes (n ∷ ns) [] x = []
entries_bytes (n ∷ ns) (c ∷ cs) x = entry_bytes n x c ++ entries_bytes ns cs (x + 12 * c)

-- how many there are, then the entries
unfoldable pub contents_bytes : (numbers counts : List ℕ) → List ℕ
contents_bytes ns cs = two_bytes (length ns) ++ entries_bytes ns cs (contents_end (length ns))

-- THE BOOK: the contents, then the bodies
unfoldable pub book_bytes : (numbers counts strikes : List ℕ) → List ℕ
book_bytes ns cs ss = contents_bytes ns cs ++ cards_bytes (strikes ss)

-- HOW LONG IT IS. How many cards there are in all
unfoldable pub all_cards : (counts : List ℕ) → ℕ
all_cards [] = 0
all_cards (c ∷ cs) = c + all_cards cs

unfoldable pub book_length : (counts : List ℕ) → ℕ
book_length cs = contents_end (length cs) + 12 * all_cards cs

-- 5 if that is too long
unfoldable pub size_refusal : (counts : List ℕ) → ℕ
size_refusal cs = cond (ltb longest_book (book_length cs)) (number BookSize) 0

-- WHAT THE WRITER REFUSES. Some count is 0
unfoldable pub any_zero : (counts : List ℕ) → Bool
any_zero [] = false
any_zero (c ∷ cs) = eqb c 0 || any_zero cs

-- three numbers for each card, and a lent book that is as long as needed
unfoldable pub lengths_good : (counts strikes : List ℕ) → (room : ℕ) → Bool
lengths_good cs ss r = eqb (length ss) (3 * all_cards cs) && eqb r (book_length cs)

-- the tests in their order: 10, 2 for the counts, 5, 6, 7, 2 for the strikes and the lent book
unfoldable pub write_refusal : (numbers counts strikes : List ℕ) → (room : ℕ) → ℕ
write_refusal ns cs ss r =
    cond (strikes_bad ss) (number StrikeField)
    (cond (not (eqb (length cs) (length ns))) (number Length)
    (cond (ltb longest_book (book_length cs)) (number BookSize)
    (cond (not (rising 1 ns)) (number TuneNumber)
    (cond (any_zero cs) (number Layout)
    (cond (not (lengths_good cs ss r)) (number Length) 0)))))

-- THE CONTRACT: what is answered, and what is in the lent book afterwards
pub record Written (ns cs ss bs : List ℕ) (r : Result Unit Refusal) (bs-now : List ℕ) : Type 0 where
  pub answers : outcome r ≡ write_refusal ns cs ss (length bs)
  pub book_is : bs-now ≡ unless (write_refusal ns cs ss (length bs)) (book_bytes ns cs ss) bs
