-- What is said of a text that is not read, as lists of bytes in ASCII.
-- Main: fault_words, mistake_line, too_long_line, unread_line; longest_line, mistake_line_within, too_long_within.
use Rattle.std.specs.Prelude.{List, [], ◌++◌, ℕ, ◌≤◌, length}
use Rattle.std.proofs.Common.{arith, length-append}
use Rattle.text.specs.Text.{ascii, line_end, spaced}
use Rattle.text.specs.Decimal.{seven_digits, spaced_length}
use Rattle.tune_text.specs.declared.lines.Fault.{Fault}
use Rattle.tune_text.specs.declared.lines.Fault.TheVariants.{TuneNumber, Unknown, Early}
use Rattle.tune_text.specs.declared.mistakes.Mistake.{Mistake}
use Rattle.tune_text.specs.declared.tunes.Unread.{Unread}
use Rattle.tune_text.specs.declared.tunes.Unread.TheVariants.{TooLong, Refused, Wrong}
use Rattle.tune_text.specs.Reading.{longest_text}

-- what is wrong with a line
abbrev pub fault_words : Fault → List ℕ
fault_words TuneNumber = ascii "a tune needs one number"
fault_words Unknown = ascii "neither a tune nor a strike of three numbers"
fault_words Early = ascii "a strike before the first tune"

-- THE LINE for a mistake, as in "line 7: a tune needs one number"
unfoldable pub mistake_line : Mistake → List ℕ
mistake_line m = ascii "line" ++ spaced m.line ++ ascii ": " ++ fault_words m.fault ++ line_end

-- THE LINE for a text that is too long
abbrev pub too_long_line : List ℕ
too_long_line = ascii "text refused: more than 131072 bytes\n"

-- of a text that is not read. A refusal has no line
abbrev pub unread_line : Unread → List ℕ
unread_line TooLong = too_long_line
unread_line (Refused r) = []
unread_line (Wrong m) = mistake_line m

-- no line has more bytes than this: the number of a line is at most that of the longest text's bytes
abbrev pub longest_line : ℕ
longest_line = 64

fault_size : (f : Fault) → length (fault_words f) ≤ 44
fault_size TuneNumber = omega arith
fault_size Unknown = omega arith
fault_size Early = omega arith

pub mistake_line_within : (m : Mistake) → m.line ≤ longest_text → length (mistake_line m) ≤ longest_line
unfolding mistake_line
mistake_line_within m h =
    simp length-append (omega (arith, spaced_length m.line, seven_digits m.line (omega arith), fault_size m.fault))

pub too_long_within : length too_long_line ≤ longest_line
too_long_within = omega arith
