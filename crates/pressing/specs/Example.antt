-- The example of SPECIFICATION 12.7: its book to the byte, whose cards are of 12.6, and what is said of it with a mistake.
-- Main: example, example_unsaid, example_pressed, empty_pressed, early_said, unknown_said, refused_said, bell_said.
use Rattle.std.specs.Prelude.{◌≡◌, refl, List, [], ◌∷◌, ℕ}
use Rattle.algebra.specs.Linear.{computing}
use Rattle.algebra.specs.Field.{power}
use Rattle.rank.specs.Definitions.{at}
use Rattle.coding.specs.Code.{inner, inner_sum, value as code-value, word_from, word}
use Rattle.strike.specs.Strikes.{strike_message}
use Rattle.strike.specs.Turns.{any_beyond, strikes}
use Rattle.book.specs.Layout.{two_bytes, four_bytes, entry_bytes, symbols_bytes}
use Rattle.book.specs.Open.{rising}
use Rattle.text.specs.Text.{ascii, decimal_from, decimal, spaced, word_line, book_refused}
use Rattle.tune_text.specs.Words.{onto, pieces, lines, blank, not_empty, words, digit, only_digits, is_number, value, same}
use Rattle.tune_text.specs.Saying.{tune_said, strike_said, words_say, line_of}
use Rattle.tune_text.specs.Reading.{lines_said, gathered, cards_ahead, counts_of, mistake_from, mistake_of}
use Rattle.tune_text.specs.MistakeLines.{mistake_line}
use Rattle.writer.specs.Writing.{card_bytes, cards_bytes, entries_bytes, contents_bytes, book_bytes}
use Rattle.writer.specs.Writing.{all_cards, book_length, any_zero, lengths_good, write_refusal}
use Rattle.pressing.specs.Pressing.{lists_refusal, refusal_line, said, pressed}

-- what is computed: words, what they say, what is refused, what is said, a card, a book
unfoldable finding : ℕ
unfolding onto pieces lines blank not_empty words digit only_digits is_number value same
finding = 0

unfoldable reading : ℕ
unfolding finding tune_said strike_said words_say line_of lines_said gathered cards_ahead counts_of mistake_from mistake_of
reading = 0

unfoldable refusing : ℕ
unfolding reading any_beyond rising all_cards book_length any_zero lengths_good write_refusal lists_refusal
refusing = 0

unfoldable saying : ℕ
unfolding refusing refusal_line mistake_line word_line spaced decimal_from decimal book_refused said
saying = 0

unfoldable encoding : ℕ
unfolding computing power at inner inner_sum code-value word_from word strike_message two_bytes symbols_bytes card_bytes
encoding = 0

unfoldable writing : ℕ
unfolding saying encoding strikes four_bytes entry_bytes cards_bytes entries_bytes contents_bytes book_bytes pressed
writing = 0

-- one tune of two cards
abbrev pub example : List ℕ
example = ascii "# 47 is the last bell\ntune 7\n1 0 0\n47 5 1\n"

pub example_unsaid : said example ≡ []
unfolding saying
example_unsaid = refl

pub example_pressed : pressed example
    ≡ 0 ∷ 1 ∷ 0 ∷ 7 ∷ 0 ∷ 0 ∷ 0 ∷ 10 ∷ 0 ∷ 2
    ∷ 0 ∷ 1 ∷ 0 ∷ 3 ∷ 0 ∷ 9 ∷ 0 ∷ 27 ∷ 0 ∷ 81 ∷ 0 ∷ 243
    ∷ 2 ∷ 139 ∷ 0 ∷ 22 ∷ 1 ∷ 119 ∷ 1 ∷ 13 ∷ 0 ∷ 16 ∷ 2 ∷ 150
    ∷ []
unfolding writing
example_pressed = refl

-- the book of an empty text has no tunes
pub empty_pressed : pressed [] ≡ 0 ∷ 0 ∷ []
unfolding writing
empty_pressed = refl

-- without the second line, without the last number, with another tune number, with the bell after the last
pub early_said : said (ascii "# 47 is the last bell\n1 0 0\n47 5 1\n") ≡ ascii "line 2: a strike before the first tune\n"
unfolding saying
early_said = refl

pub unknown_said : said (ascii "# 47 is the last bell\ntune 7\n1 0 0\n47 5\n") ≡ ascii "line 4: neither a tune nor a strike of three numbers\n"
unfolding saying
unknown_said = refl

pub refused_said : said (ascii "# 47 is the last bell\ntune 70000\n1 0 0\n47 5 1\n") ≡ ascii "book refused 6\n"
unfolding saying
refused_said = refl

pub bell_said : said (ascii "# 47 is the last bell\ntune 7\n1 0 0\n48 5 1\n") ≡ ascii "book refused 10\n"
unfolding saying
bell_said = refl
