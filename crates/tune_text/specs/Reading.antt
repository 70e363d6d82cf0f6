-- What is read from a text: the numbers of its tunes, how many cards each has, the numbers of the strikes, and the first mistake.
-- Main: lines_said, numbers_of, counts_of, strikes_of, mistake_of; longest_text, tunes_of, when_read.
use Rattle.std.specs.Prelude.{Bool, true, false, cond, ◌||◌, List, [], ◌∷◌, ◌++◌, map, ℕ, ◌+◌, ltb, length, Option, Some, None, Result, Ok, Err}
use Rattle.refusal.specs.declared.Refusal.TheVariants.{Length}
use Rattle.text.specs.Text.{written}
use Rattle.tune_text.specs.declared.lines.Fault.{Fault}
use Rattle.tune_text.specs.declared.lines.Fault.TheVariants.{Early}
use Rattle.tune_text.specs.declared.lines.Line.{Line}
use Rattle.tune_text.specs.declared.lines.Line.TheVariants as line
use Rattle.tune_text.specs.declared.mistakes.Mistake.{Mistake}
use Rattle.tune_text.specs.declared.tunes.Sizes.{Sizes}
use Rattle.tune_text.specs.declared.tunes.Unread.{Unread}
use Rattle.tune_text.specs.declared.tunes.Unread.TheVariants.{TooLong, Refused, Wrong}
use Rattle.tune_text.specs.Words.{lines}
use Rattle.tune_text.specs.Saying.{line_of}

-- WHAT THE LINES SAY, in order
unfoldable pub lines_said : (text : List ℕ) → List Line
lines_said t = map line_of (lines t)

-- what each line adds to a list, one after another
unfoldable pub gathered : (Line → List ℕ) → List Line → List ℕ
gathered f [] = []
gathered f (l ∷ ls) = f l ++ gathered f ls

-- THE NUMBERS of the tunes
abbrev pub number_in : Line → List ℕ
number_in line.Nothing = []
number_in (line.Tune n) = n ∷ []
number_in (line.Strike s) = []
number_in (line.Wrong f) = []

abbrev pub numbers_of : List Line → List ℕ
numbers_of ls = gathered number_in ls

-- THE STRIKES: bell, force and delay of each
abbrev pub strike_in : Line → List ℕ
strike_in line.Nothing = []
strike_in (line.Tune n) = []
strike_in (line.Strike s) = s.bell ∷ s.force ∷ s.delay ∷ []
strike_in (line.Wrong f) = []

abbrev pub strikes_of : List Line → List ℕ
strikes_of ls = gathered strike_in ls

-- THE COUNTS: of each tune, how many strikes follow before the next tune
unfoldable pub cards_ahead : List Line → ℕ
cards_ahead [] = 0
cards_ahead (line.Nothing ∷ ls) = cards_ahead ls
cards_ahead (line.Tune n ∷ ls) = 0
cards_ahead (line.Strike s ∷ ls) = 1 + cards_ahead ls
cards_ahead (line.Wrong f ∷ ls) = cards_ahead ls

abbrev pub count_in : Line → (after : List Line) → List ℕ
count_in line.Nothing ls = []
count_in (line.Tune n) ls = cards_ahead ls ∷ []
count_in (line.Strike s) ls = []
count_in (line.Wrong f) ls = []

unfoldable pub counts_of : List Line → List ℕ
counts_of [] = []
counts_of (l ∷ ls) = count_in l ls ++ counts_of ls

-- THE FIRST MISTAKE, where these lines begin with the n-th and a tune has begun before them or not
abbrev pub at_line : (n : ℕ) → Fault → Option Mistake
at_line n f = Some (record { line = n; fault = f })

unfoldable pub mistake_from : (begun : Bool) → (n : ℕ) → List Line → Option Mistake
mistake_from b n [] = None
mistake_from b n (line.Nothing ∷ ls) = mistake_from b (n + 1) ls
mistake_from b n (line.Tune m ∷ ls) = mistake_from true (n + 1) ls
mistake_from false n (line.Strike s ∷ ls) = at_line n Early
mistake_from true n (line.Strike s ∷ ls) = mistake_from true (n + 1) ls
mistake_from b n (line.Wrong f ∷ ls) = at_line n f

unfoldable pub mistake_of : List Line → Option Mistake
mistake_of ls = mistake_from false 1 ls

-- THE ANSWER. A text of more bytes than this is too long; each list must be as long as the text at least
abbrev pub longest_text : ℕ
longest_text = 131072

unfoldable pub too_short : (text numbers counts strikes : List ℕ) → Bool
too_short t n c s = ltb (length n) (length t) || (ltb (length c) (length t) || ltb (length s) (length t))

unfoldable pub checked : List Line → Option Mistake → Result Sizes Unread
checked ls None = Ok (record { tunes = length (numbers_of ls); strikes = length (strikes_of ls) })
checked ls (Some m) = Err (Wrong m)

unfoldable pub tunes_of : (text numbers counts strikes : List ℕ) → Result Sizes Unread
tunes_of t n c s =
    cond (ltb longest_text (length t)) (Err TooLong)
    (cond (too_short t n c s) (Err (Refused Length))
    (checked (lines_said t) (mistake_of (lines_said t))))

-- a lent list afterwards: it begins with the new numbers if the text was read, and is as it was if not
abbrev pub when_read : Result Sizes Unread → (old new : List ℕ) → List ℕ
when_read (Err u) old new = old
when_read (Ok z) old new = written old 0 new
