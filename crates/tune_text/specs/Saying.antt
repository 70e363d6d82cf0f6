-- What a line of the text says, by its words.
-- Main: tune_said, strike_said, words_say, line_of.
use Rattle.std.specs.Prelude.{cond, ◌&&◌, List, [], ◌∷◌, ℕ, eqb, get_or}
use Rattle.text.specs.Text.{ascii}
use Rattle.tune_text.specs.declared.lines.Fault.TheVariants.{TuneNumber, Unknown}
use Rattle.tune_text.specs.declared.lines.Numbers.{Numbers}
use Rattle.tune_text.specs.declared.lines.Line.{Line}
use Rattle.tune_text.specs.declared.lines.Line.TheVariants.{Nothing, Tune, Strike, Wrong}
use Rattle.tune_text.specs.Words.{words, is_number, value, same}

-- the word `tune` and then these: one number begins a tune
unfoldable pub tune_said : (after : List (List ℕ)) → Line
tune_said [] = Wrong TuneNumber
tune_said (n ∷ []) = cond (is_number n) (Tune (value n)) (Wrong TuneNumber)
tune_said (n ∷ m ∷ ws) = Wrong TuneNumber

-- any other words: three numbers are a strike, in this order
abbrev pub three_numbers : (a b c : List ℕ) → Numbers
three_numbers a b c = record { bell = value a; force = value b; delay = value c }

unfoldable pub strike_said : List (List ℕ) → Line
strike_said [] = Wrong Unknown
strike_said (a ∷ []) = Wrong Unknown
strike_said (a ∷ b ∷ []) = Wrong Unknown
strike_said (a ∷ b ∷ c ∷ []) = cond (is_number a && (is_number b && is_number c)) (Strike (three_numbers a b c)) (Wrong Unknown)
strike_said (a ∷ b ∷ c ∷ d ∷ ws) = Wrong Unknown

-- WORDS say nothing if there are none, or the first begins with #
unfoldable pub words_say : List (List ℕ) → Line
words_say [] = Nothing
words_say (w ∷ ws) = cond (eqb (get_or w 0 0) 35) Nothing (cond (same w (ascii "tune")) (tune_said ws) (strike_said (w ∷ ws)))

-- A LINE says what its words do
unfoldable pub line_of : (line : List ℕ) → Line
line_of l = words_say (words l)
