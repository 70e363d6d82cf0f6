-- What comes of a text, by what was read of it; and the test of the lists that are lent.
-- Main: ListsRead.
use Rattle.std.specs.Prelude.{◌≡◌, List, ℕ, ◌≤◌, length}
use Rattle.book.specs.Layout.{longest_book}
use Rattle.tune_text.specs.Reading.{longest_text, tunes_of, when_read}
use Rattle.tune_text.specs.MistakeLines.{longest_line}
use Rattle.pressing.specs.Pressing.{text_numbers, text_counts, text_strikes}

-- THE LISTS of a text were read, or left as they were
pub record ListsRead (t n c s n-now c-now s-now : List ℕ) : Type 0 where
  pub numbers_are : n-now ≡ when_read (tunes_of t n c s) n (text_numbers t)
  pub counts_are : c-now ≡ when_read (tunes_of t n c s) c (text_counts t)
  pub strikes_are : s-now ≡ when_read (tunes_of t n c s) s (text_strikes t)

-- LISTS LENT are long enough where the test of their lengths is passed
pub record Enough (n c s b l : List ℕ) : Type 0 where
  pub numbers : longest_text ≤ length n
  pub counts : longest_text ≤ length c
  pub strikes : longest_text ≤ length s
  pub book : longest_book ≤ length b
  pub line : longest_line ≤ length l
