-- What comes of a text: the book that the program press_book writes to standard output, or the line that it writes to standard error.
-- Main: text_numbers, text_counts, text_strikes, press_refusal, refusal_line, said, pressed; lent_refusal, press_reply, Presses.
use Rattle.std.specs.Prelude.{◌≡◌, Bool, cond, ◌||◌, List, [], ℕ, ltb, eqb, length, Option, Some, None, Result}
use Rattle.refusal.specs.declared.Refusal.{Refusal}
use Rattle.refusal.specs.declared.Refusal.TheVariants.{Length}
use Rattle.refusal.specs.Replies.{number, Reply, reply_or, reply_with, unless}
use Rattle.book.specs.Layout.{longest_book}
use Rattle.text.specs.Text.{book_refused, written}
use Rattle.writer.specs.Writing.{book_bytes, book_length, write_refusal}
use Rattle.tune_text.specs.declared.mistakes.Mistake.{Mistake}
use Rattle.tune_text.specs.Reading.{lines_said, numbers_of, counts_of, strikes_of, mistake_of, longest_text, tunes_of, when_read}
use Rattle.tune_text.specs.MistakeLines.{longest_line, mistake_line, too_long_line}
use Rattle.pressing.specs.declared.from_lists.Lengths.{Lengths}

-- THE LISTS of a text: its tune numbers, their counts of cards, the numbers of its strikes
abbrev pub text_numbers : (text : List ℕ) → List ℕ
text_numbers t = numbers_of (lines_said t)

abbrev pub text_counts : (text : List ℕ) → List ℕ
text_counts t = counts_of (lines_said t)

abbrev pub text_strikes : (text : List ℕ) → List ℕ
text_strikes t = strikes_of (lines_said t)

-- what the writer refuses of lists, with a book exactly as long as needed
unfoldable pub lists_refusal : (numbers counts strikes : List ℕ) → ℕ
lists_refusal ns cs ss = write_refusal ns cs ss (book_length cs)

abbrev pub press_refusal : (text : List ℕ) → ℕ
press_refusal t = lists_refusal (text_numbers t) (text_counts t) (text_strikes t)

-- THE LINE for a refusal, none for 0
unfoldable pub refusal_line : (refusal : ℕ) → List ℕ
refusal_line n = cond (eqb n 0) [] (book_refused n)

-- for the first mistake, or else for what is refused
abbrev pub mistake_or : Option Mistake → (refusal : ℕ) → List ℕ
mistake_or (Some m) n = mistake_line m
mistake_or None n = refusal_line n

-- for a text
unfoldable pub said : (text : List ℕ) → List ℕ
said t = cond (ltb longest_text (length t)) too_long_line (mistake_or (mistake_of (lines_said t)) (press_refusal t))

-- THE BOOK, if nothing is said
unfoldable pub pressed : (text : List ℕ) → List ℕ
pressed t = cond (eqb (length (said t)) 0) (book_bytes (text_numbers t) (text_counts t) (text_strikes t)) []

-- LISTS THAT ARE LENT: 2 if one of them is too short for the longest text, book or line
unfoldable pub lengths_short : (numbers counts strikes book line : ℕ) → Bool
lengths_short n c s b l =
    ltb n longest_text || (ltb c longest_text || (ltb s longest_text || (ltb b longest_book || ltb l longest_line)))

unfoldable pub lent_refusal : (numbers counts strikes book line : List ℕ) → ℕ
lent_refusal n c s b l = cond (lengths_short (length n) (length c) (length s) (length b) (length l)) (number Length) 0

-- THE ANSWER as a reply
abbrev pub no_bytes : Lengths
no_bytes = record { book = 0; line = 0 }

abbrev pub press_reply : Result Lengths Refusal → Reply Lengths
press_reply r = reply_or no_bytes r

abbrev pub both_lengths : (text : List ℕ) → Lengths
both_lengths t = record { book = length (pressed t); line = length (said t) }

-- THE CONTRACT: what is answered, and what is in the lent lists afterwards
pub record Presses (t n c s b l : List ℕ) (r : Result Lengths Refusal) (n-now c-now s-now b-now l-now : List ℕ) : Type 0 where
  pub answers : press_reply r ≡ reply_with no_bytes (lent_refusal n c s b l) (both_lengths t)
  pub numbers_are : n-now ≡ unless (lent_refusal n c s b l) (when_read (tunes_of t n c s) n (text_numbers t)) n
  pub counts_are : c-now ≡ unless (lent_refusal n c s b l) (when_read (tunes_of t n c s) c (text_counts t)) c
  pub strikes_are : s-now ≡ unless (lent_refusal n c s b l) (when_read (tunes_of t n c s) s (text_strikes t)) s
  pub book_is : b-now ≡ unless (lent_refusal n c s b l) (written b 0 (pressed t)) b
  pub line_is : l-now ≡ unless (lent_refusal n c s b l) (written l 0 (said t)) l
