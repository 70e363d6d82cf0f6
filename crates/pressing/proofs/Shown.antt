-- What press_book prints is a book that shows the strikes of the text; and it prints either a book or a line.
-- Main: pressed_within, said_within, said_room.
use Rattle.std.specs.Prelude.{◌≡◌, refl, Bool, true, false, cond, List, [], ℕ, ◌≤◌, ltb, eqb, length, Option, Some, None}
use Rattle.std.proofs.Common.{ap, arith, ltb-false, eqb-true}
use Rattle.std.proofs.Math.Decide.{ℕ_discrete}
use Rattle.book.specs.Layout.{longest_book}
use Rattle.text.specs.declared.lent.Lent.{Lent}
use Rattle.text.specs.Text.{book_refused}
use Rattle.text.specs.Writing.{HasRoom}
use Rattle.text.specs.Decimal.{book_refused_length}
use Rattle.tune_text.specs.declared.mistakes.Mistake.{Mistake}
use Rattle.tune_text.specs.Reading.{lines_said, mistake_of, longest_text}
use Rattle.tune_text.proofs.SizeLaws.{mistake_within}
use Rattle.tune_text.specs.MistakeLines.{longest_line, too_long_line, mistake_line_within, too_long_within}
use Rattle.writer.specs.Writing.{book_bytes, book_length}
use Rattle.writer.specs.Layouts.{length_book}
use Rattle.writer.proofs.Writable.{writable}
use Rattle.writer.specs.Shown.{Shows}
use Rattle.writer.proofs.Shown.{written_shows}
use Rattle.pressing.specs.Pressing.{text_numbers, text_counts, text_strikes, lists_refusal, press_refusal}
use Rattle.pressing.specs.Pressing.{refusal_line, mistake_or, said, pressed}
use Rattle.pressing.specs.Lists.{refused_within}
use Rattle.pressing.proofs.TextLaws.{mistake_some, pressed_none}

-- NOTHING IS SAID only if nothing is refused
line_none : (n : ℕ) → length (refusal_line n) ≡ 0 → n ≡ 0
unfolding refusal_line
line_none n = go (eqb n 0) refl
  where
    go : (b : Bool) → eqb n 0 ≡ b → length (cond b [] (book_refused n)) ≡ 0 → n ≡ 0
    go true e h = eqb-true n 0 e
    go false e h = absurd (omega (arith, book_refused_length n))

or_none : (k : Option Mistake) (n : ℕ) → length (mistake_or k n) ≡ 0 → n ≡ 0
or_none None n h = line_none n h
or_none (Some m) n h = absurd (omega (arith, mistake_some m))

unrefused : (t : List ℕ) → length (said t) ≡ 0 → press_refusal t ≡ 0
unfolding said
unrefused t = go (ltb longest_text (length t))
  where
    go : (over : Bool) → length (cond over too_long_line (mistake_or (mistake_of (lines_said t)) (press_refusal t))) ≡ 0 → press_refusal t ≡ 0
    go true h = absurd (omega arith)
    go false h = or_none (mistake_of (lines_said t)) (press_refusal t) h

-- THE BOOK, then
pressed_book : (t : List ℕ) → length (said t) ≡ 0 → pressed t ≡ book_bytes (text_numbers t) (text_counts t) (text_strikes t)
unfolding pressed
pressed_book t h = rw h

-- IT SHOWS the tune numbers, counts and strikes of the text
pub text_shown : (t : List ℕ) → said t ≡ [] → Shows (text_numbers t) (text_counts t) (text_strikes t) (pressed t)
unfolding lists_refusal
text_shown t e =
    let h : length (said t) ≡ 0 = ap length e in
    rw (pressed_book t h) (written_shows (text_numbers t) (text_counts t) (text_strikes t) _ (unrefused t h))

-- THE SIZES: a book has two bytes at least, so there is either a book or a line (`pressed_none` of Texts); and the lists lent are large enough
module _ (t : List ℕ) (h : length (said t) ≡ 0) where
  book_is : length (pressed t) ≡ book_length (text_counts t)
  unfolding lists_refusal
  book_is =
      let w = writable (text_numbers t) (text_counts t) (text_strikes t) _ (unrefused t h) in
      rw (pressed_book t h) (length_book (text_numbers t) (text_counts t) w.paired (text_strikes t) w.numbers)

  pub book_some : 2 ≤ length (pressed t)
  unfolding book_length
  book_some = omega (arith, book_is)

  book_most : length (pressed t) ≤ longest_book
  unfolding lists_refusal
  book_most =
      let w = writable (text_numbers t) (text_counts t) (text_strikes t) _ (unrefused t h) in
      omega (arith, book_is, w.size)

pub pressed_within : (t : List ℕ) → length (pressed t) ≤ longest_book
pressed_within t = elim (ℕ_discrete (length (said t)) 0) [ yes h ↦ book_most t h | no n ↦ rw (pressed_none t (omega arith)) (omega arith) ]

line_most : (n : ℕ) → length (book_refused n) ≤ longest_line → length (refusal_line n) ≤ longest_line
unfolding refusal_line
line_most n h = go (eqb n 0)
  where
    go : (b : Bool) → length (cond b [] (book_refused n)) ≤ longest_line
    go true = omega arith
    go false = h

or_most : (t : List ℕ) (k : Option Mistake) → mistake_of (lines_said t) ≡ k → length t ≤ longest_text → length (mistake_or k (press_refusal t)) ≤ longest_line
or_most t None e h = line_most (press_refusal t) (refused_within (text_numbers t) (text_counts t) (text_strikes t))
or_most t (Some m) e h = mistake_line_within m (omega (arith, mistake_within t m e))

pub said_within : (t : List ℕ) → length (said t) ≤ longest_line
unfolding said
said_within t = go (ltb longest_text (length t)) refl
  where
    go : (over : Bool) → ltb longest_text (length t) ≡ over
        → length (cond over too_long_line (mistake_or (mistake_of (lines_said t)) (press_refusal t))) ≤ longest_line
    go true e = too_long_within
    go false e = or_most t (mistake_of (lines_said t)) refl (ltb-false longest_text (length t) e)

-- so there is room for what is said in a list that was lent from its start
pub said_room : (t : List ℕ) {l : List ℕ} (lent : Lent ℕ) → longest_line ≤ length l → lent.list.now ≡ l → lent.at ≡ 0 → HasRoom lent (said t)
said_room t lent h p q = rw (p, q) (omega (arith, said_within t))
