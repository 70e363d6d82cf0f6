-- How much a text can say: the lists that are read from it are no longer than it, and its lines are no more than its bytes.
-- Main: numbers_within, counts_length, counts_within, strikes_within, ahead_fits, mistake_within.
use Rattle.std.specs.Prelude.{◌≡◌, refl, Bool, true, false, cond, ◌&&◌, ℕ, suc, ◌+◌, ◌*◌, ◌≤◌, ◌<◌, eqb, length, drop, get_or, Some}
use Rattle.std.proofs.Common.{sym, ap, true≢false, length-drop}
use mathlib.Core.List.{List, [], ◌∷◌, map}
use native.Mathlib.Omega.{arith}
use Rattle.std.proofs.Math.ListN.{length-append}
use Rattle.std.proofs.lemmas.List.{length-map}
use Rattle.text.specs.Text.{ascii}
use Rattle.tune_text.specs.declared.lines.Fault.TheVariants.{TuneNumber, Unknown}
use Rattle.tune_text.specs.declared.lines.Line.{Line}
use Rattle.tune_text.specs.declared.lines.Line.TheVariants.{Nothing, Tune, Strike, Wrong}
use Rattle.tune_text.specs.declared.mistakes.Mistake.{Mistake}
use Rattle.tune_text.specs.Words.{onto, pieces, blank, not_empty, words, new_line, lines, is_number, value, same}
use Rattle.tune_text.specs.Saying.{tune_said, three_numbers, strike_said, words_say, line_of}
use Rattle.tune_text.specs.Reading.{lines_said, gathered, number_in, strike_in, numbers_of, strikes_of, counts_of, cards_ahead}
use Rattle.tune_text.specs.Reading.{mistake_from, mistake_of, longest_text}

-- ALL PIECES together have no more bytes than the text, and there are no more pieces than bytes
abbrev total : List (List ℕ) → ℕ
total [] = 0
total (x ∷ xs) = length x + total xs

onto_total : (b : ℕ) (xs : List (List ℕ)) → total (onto b xs) ≡ suc (total xs)
unfolding onto
onto_total b [] = refl
onto_total b (x ∷ xs) = omega arith

pieces_total : (e : ℕ → Bool) (t : List ℕ) → total (pieces e t) ≤ length t
unfolding pieces
pieces_total e [] = omega arith
pieces_total e (b ∷ t) = go (e b) (pieces_total e t)
  where
    go : (p : Bool) → total (pieces e t) ≤ length t → total (cond p ([] ∷ pieces e t) (onto b (pieces e t))) ≤ suc (length t)
    go true h = omega arith
    go false h = omega (arith, onto_total b (pieces e t))

onto_count : (b : ℕ) (xs : List (List ℕ)) → length (onto b xs) ≤ suc (length xs)
unfolding onto
onto_count b [] = omega arith
onto_count b (x ∷ xs) = omega arith

pieces_count : (e : ℕ → Bool) (t : List ℕ) → length (pieces e t) ≤ length t
unfolding pieces
pieces_count e [] = omega arith
pieces_count e (b ∷ t) = go (e b) (pieces_count e t)
  where
    go : (p : Bool) → length (pieces e t) ≤ length t → length (cond p ([] ∷ pieces e t) (onto b (pieces e t))) ≤ suc (length t)
    go true h = omega arith
    go false h = omega (arith, onto_count b (pieces e t))

not_empty_total : (xs : List (List ℕ)) → total (not_empty xs) ≤ total xs
unfolding not_empty
not_empty_total [] = omega arith
not_empty_total ([] ∷ xs) = omega (arith, not_empty_total xs)
not_empty_total ((b ∷ x) ∷ xs) = omega (arith, not_empty_total xs)

words_total : (l : List ℕ) → total (words l) ≤ length l
unfolding words
words_total l = omega (arith, not_empty_total (pieces blank l), pieces_total blank l)

-- THE FEWEST BYTES of a line that says this
abbrev fewest : Line → ℕ
fewest Nothing = 0
fewest (Tune n) = 1
fewest (Strike s) = 3
fewest (Wrong f) = 0

number_size : (w : List ℕ) → is_number w ≡ true → 1 ≤ length w
unfolding is_number
number_size [] e = absurd (true≢false (sym e))
number_size (b ∷ w) e = omega arith

tune_size : (ws : List (List ℕ)) → fewest (tune_said ws) ≤ total ws
unfolding tune_said
tune_size [] = omega arith
tune_size (n ∷ []) = go (is_number n) refl
  where
    go : (p : Bool) → is_number n ≡ p → fewest (cond p (Tune (value n)) (Wrong TuneNumber)) ≤ length n + 0
    go true e = omega (arith, number_size n e)
    go false e = omega arith
tune_size (n ∷ m ∷ ws) = omega arith

strike_size : (ws : List (List ℕ)) → fewest (strike_said ws) ≤ total ws
unfolding strike_said
strike_size [] = omega arith
strike_size (a ∷ []) = omega arith
strike_size (a ∷ b ∷ []) = omega arith
strike_size (a ∷ b ∷ c ∷ []) = go (is_number a) (is_number b) (is_number c) refl refl refl
  where
    go : (p q r : Bool) → is_number a ≡ p → is_number b ≡ q → is_number c ≡ r
        → fewest (cond (p && (q && r)) (Strike (three_numbers a b c)) (Wrong Unknown)) ≤ length a + (length b + (length c + 0))
    go true true true d e f = omega (arith, number_size a d, number_size b e, number_size c f)
    go true true false d e f = omega arith
    go true false r d e f = omega arith
    go false q r d e f = omega arith
strike_size (a ∷ b ∷ c ∷ d ∷ ws) = omega arith

words_size : (ws : List (List ℕ)) → fewest (words_say ws) ≤ total ws
unfolding words_say
words_size [] = omega arith
words_size (w ∷ ws) = go (eqb (get_or w 0 0) 35) (same w (ascii "tune"))
  where
    go : (p q : Bool) → fewest (cond p Nothing (cond q (tune_said ws) (strike_said (w ∷ ws)))) ≤ length w + total ws
    go true q = omega arith
    go false true = omega (arith, tune_size ws)
    go false false = strike_size (w ∷ ws)

line_size : (l : List ℕ) → fewest (line_of l) ≤ length l
unfolding line_of
line_size l = omega (arith, words_size (words l), words_total l)

-- WHAT IS GATHERED is no longer than the text if no line adds more than its fewest bytes
module _ (f : Line → List ℕ) (h : (l : Line) → length (f l) ≤ fewest l) where
  gathered_total : (ls : List (List ℕ)) → length (gathered f (map line_of ls)) ≤ total ls
  unfolding gathered
  gathered_total [] = omega arith
  gathered_total (l ∷ ls) =
      omega (arith, length-append (f (line_of l)) (gathered f (map line_of ls)), gathered_total ls, h (line_of l), line_size l)

  gathered_within : (t : List ℕ) → length (gathered f (lines_said t)) ≤ length t
  unfolding lines_said lines
  gathered_within t = omega (arith, gathered_total (pieces new_line t), pieces_total new_line t)

number_fewest : (l : Line) → length (number_in l) ≤ fewest l
number_fewest Nothing = omega arith
number_fewest (Tune n) = omega arith
number_fewest (Strike s) = omega arith
number_fewest (Wrong f) = omega arith

strike_fewest : (l : Line) → length (strike_in l) ≤ fewest l
strike_fewest Nothing = omega arith
strike_fewest (Tune n) = omega arith
strike_fewest (Strike s) = omega arith
strike_fewest (Wrong f) = omega arith

pub numbers_within : (t : List ℕ) → length (numbers_of (lines_said t)) ≤ length t
numbers_within = gathered_within number_in number_fewest

pub strikes_within : (t : List ℕ) → length (strikes_of (lines_said t)) ≤ length t
strikes_within = gathered_within strike_in strike_fewest

-- there is a count for each tune
pub counts_length : (ls : List Line) → length (counts_of ls) ≡ length (numbers_of ls)
unfolding counts_of gathered
counts_length [] = refl
counts_length (Nothing ∷ ls) = counts_length ls
counts_length (Tune n ∷ ls) = ap suc (counts_length ls)
counts_length (Strike s ∷ ls) = counts_length ls
counts_length (Wrong f ∷ ls) = counts_length ls

pub counts_within : (t : List ℕ) → length (counts_of (lines_said t)) ≤ length t
counts_within t = omega (arith, counts_length (lines_said t), numbers_within t)

-- A COUNT is no more than a third of the text
ahead_strikes : (ls : List Line) → 3 * cards_ahead ls ≤ length (strikes_of ls)
unfolding cards_ahead gathered
ahead_strikes [] = omega arith
ahead_strikes (Nothing ∷ ls) = ahead_strikes ls
ahead_strikes (Tune n ∷ ls) = omega arith
ahead_strikes (Strike s ∷ ls) = omega (arith, ahead_strikes ls)
ahead_strikes (Wrong f ∷ ls) = ahead_strikes ls

pub ahead_fits : (t : List ℕ) (a : ℕ) → length t ≤ longest_text → cards_ahead (lines_said (drop a t)) ≤ 65535
ahead_fits t a h =
    omega (arith, ahead_strikes (lines_said (drop a t)), strikes_within (drop a t), length-drop a t)

-- THE LINE OF A MISTAKE is no more than the bytes of the text
mistake_line_from : (b : Bool) (n : ℕ) (ls : List Line) (m : Mistake) → mistake_from b n ls ≡ Some m → m.line < n + length ls
unfolding mistake_from
mistake_line_from b n [] m e = absurd (let z : ◌≡◌ {A = ℕ} 0 1 = cc in omega arith)
mistake_line_from b n (Nothing ∷ ls) m e = omega (arith, mistake_line_from b (n + 1) ls m e)
mistake_line_from b n (Tune k ∷ ls) m e = omega (arith, mistake_line_from true (n + 1) ls m e)
mistake_line_from false n (Strike s ∷ ls) m e = let q : m.line ≡ n = cc in omega arith
mistake_line_from true n (Strike s ∷ ls) m e = omega (arith, mistake_line_from true (n + 1) ls m e)
mistake_line_from b n (Wrong f ∷ ls) m e = let q : m.line ≡ n = cc in omega arith

-- there are no more lines than bytes
pub said_count : (t : List ℕ) → length (lines_said t) ≤ length t
unfolding lines_said lines
said_count t = omega (arith, length-map (lines t) line_of, pieces_count new_line t)

pub mistake_within : (t : List ℕ) (m : Mistake) → mistake_of (lines_said t) ≡ Some m → m.line ≤ length t
unfolding mistake_of
mistake_within t m e = omega (arith, mistake_line_from false 1 (lines_said t) m e, said_count t)
