-- A text that is read, and three with a mistake.
-- Main: example, example_numbers, example_counts, example_strikes, example_fine, tune_mistake, unknown_mistake, early_mistake, example_line.
use Rattle.std.specs.Prelude.{◌≡◌, refl, List, [], ◌∷◌, ℕ, None}
use Rattle.text.specs.Text.{ascii, decimal, decimal_from, spaced}
use Rattle.tune_text.specs.declared.lines.Fault.TheVariants.{TuneNumber, Unknown, Early}
use Rattle.tune_text.specs.Words.{onto, pieces, lines, blank, not_empty, words, digit, only_digits, is_number, value, same}
use Rattle.tune_text.specs.Saying.{tune_said, strike_said, words_say, line_of}
use Rattle.tune_text.specs.Reading.{lines_said, gathered, numbers_of, strikes_of, cards_ahead, counts_of, at_line, mistake_from, mistake_of}
use Rattle.tune_text.specs.MistakeLines.{mistake_line}

-- all that is computed here
unfoldable wording : ℕ
unfolding onto pieces lines blank not_empty words digit only_digits is_number value same decimal decimal_from spaced
wording = 0

unfoldable computing : ℕ
unfolding wording tune_said strike_said words_say line_of lines_said gathered cards_ahead counts_of mistake_from mistake_of mistake_line
computing = 0

-- comments, an empty line, blanks of all kinds, a number above the most, a tune without cards, and a last line that is not ended
abbrev example : List ℕ
example = ascii "# two tunes\ntune 12\n4 4 25\n\n  # a rest\n0\t0  50\r\ntune 13\ntune 907\r\n 31 8 99999"

pub example_numbers : numbers_of (lines_said example) ≡ 12 ∷ 13 ∷ 907 ∷ []
unfolding computing
example_numbers = refl

pub example_counts : counts_of (lines_said example) ≡ 2 ∷ 0 ∷ 1 ∷ []
unfolding computing
example_counts = refl

pub example_strikes : strikes_of (lines_said example) ≡ 4 ∷ 4 ∷ 25 ∷ 0 ∷ 0 ∷ 50 ∷ 31 ∷ 8 ∷ 65535 ∷ []
unfolding computing
example_strikes = refl

pub example_fine : mistake_of (lines_said example) ≡ None
unfolding computing
example_fine = refl

-- the three mistakes
pub tune_mistake : mistake_of (lines_said (ascii "\ntune 1 2\n1 2\n")) ≡ at_line 2 TuneNumber
unfolding computing
tune_mistake = refl

pub unknown_mistake : mistake_of (lines_said (ascii "tune 1\n1 2 3 4")) ≡ at_line 2 Unknown
unfolding computing
unknown_mistake = refl

pub early_mistake : mistake_of (lines_said (ascii "# no tune\n\n1 2 3\ntune 1")) ≡ at_line 3 Early
unfolding computing
early_mistake = refl

pub example_line : mistake_line (record { line = 17; fault = TuneNumber }) ≡ ascii "line 17: a tune needs one number\n"
unfolding computing
example_line = refl
