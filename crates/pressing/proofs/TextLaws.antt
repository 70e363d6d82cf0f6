-- What comes of a text, by what was read of it; and the test of the lists that are lent.
-- Main: said_wrong, said_read, never_refused, said_unread, pressed_none, line_only, presses_both, presses_ending.
use Rattle.std.specs.Prelude.{◌≡◌, Bool, ◌||◌, List, [], ℕ, ◌≤◌, length, take, Option, Some, None, Result, Ok, Err}
use Rattle.std.proofs.Math.Path.{refl}
use Rattle.std.proofs.Common.{sym, ◌∙◌, arith, length-append}
use Rattle.std.proofs.Math.Bool.{true, false, cond}
use Rattle.std.proofs.Math.Dec.{ltb, eqb}
use borrow.Author.Tests.{le-ltb, ltb-false, ne_eqb}
use Rattle.algebra.specs.Tests.{neither}
use Rattle.refusal.specs.declared.Refusal.{Refusal}
use Rattle.refusal.specs.declared.Refusal.TheVariants.{Length}
use Rattle.refusal.specs.Replies.{number, refused_reply, value_reply, unless_refused, unless_done}
use Rattle.book.specs.Layout.{longest_book}
use Rattle.text.specs.Text.{book_refused}
use Rattle.text.specs.Decimal.{book_refused_length}
use Rattle.text.specs.Writing.{Wrote}
use Rattle.text.proofs.WritingLaws.{wrote_none}
use Rattle.writer.specs.Writing.{book_bytes}
use Rattle.tune_text.specs.declared.lines.Line.{Line}
use Rattle.tune_text.specs.declared.mistakes.Mistake.{Mistake}
use Rattle.tune_text.specs.declared.tunes.Sizes.{Sizes}
use Rattle.tune_text.specs.declared.tunes.Unread.{Unread}
use Rattle.tune_text.specs.declared.tunes.Unread.TheVariants.{TooLong, Refused, Wrong}
use Rattle.tune_text.specs.Reading.{lines_said, mistake_of, longest_text, too_short, checked, tunes_of}
use Rattle.tune_text.specs.MistakeLines.{longest_line, mistake_line, too_long_line, unread_line, mistake_line_within}
use Rattle.tune_text.specs.Answers.{ReadSo}
use Rattle.tune_text.proofs.AnswerLaws.{wrong_line, read_so, counts_size, read_front}
use Rattle.pressing.specs.declared.from_lists.Lengths.{Lengths}
use Rattle.pressing.specs.Pressing.{text_numbers, text_counts, text_strikes, press_refusal, refusal_line, mistake_or, said, pressed}
use Rattle.pressing.specs.Pressing.{lengths_short, lent_refusal, both_lengths, Presses}
use Rattle.pressing.specs.Lists.{BothWrote, lists_book, lists_line, ListsWrote}
use Rattle.pressing.specs.Texts.{ListsRead, Enough}

pub sizes_so : {t n c s : List ℕ} {r : Result Sizes Unread} → r ≡ tunes_of t n c s → {z : Sizes} → r ≡ Ok z → ReadSo t n c s z
sizes_so {t} {n} {c} {s} e {z} p = read_so t n c s z (sym e ∙ p)

pub enough : (n c s b l : List ℕ) (short : Bool) → short ≡ lengths_short (length n) (length c) (length s) (length b) (length l) → short ≡ false
    → Enough n c s b l
unfolding lengths_short
enough n c s b l short e no_short =
    let (p, f) = neither (ltb (length n) longest_text) _ (sym e ∙ no_short) in
    let (q, g) = neither (ltb (length c) longest_text) _ f in
    let (r, h) = neither (ltb (length s) longest_text) _ g in
    let (u, v) = neither (ltb (length b) longest_book) _ h in
    record {
      numbers = ltb-false (length n) longest_text p;
      counts = ltb-false (length c) longest_text q;
      strikes = ltb-false (length s) longest_text r;
      book = ltb-false (length b) longest_book u;
      line = ltb-false (length l) longest_line v;
    }

-- WHAT IS SAID of a text, by what was read of it
abbrev said_by : Result Sizes Unread → (refusal : ℕ) → List ℕ
said_by (Err u) n = unread_line u
said_by (Ok z) n = refusal_line n

checked_said : (ls : List Line) (k : Option Mistake) (n : ℕ) → mistake_or k n ≡ said_by (checked ls k) n
unfolding checked
checked_said ls None n = refl
checked_said ls (Some m) n = refl

checked_not : (ls : List Line) (k : Option Mistake) (why : Refusal) → checked ls k ≡ Err (Refused why) → ⊥
unfolding checked
checked_not ls None why e = let z : ◌≡◌ {A = ℕ} 0 1 = cc in omega arith
checked_not ls (Some m) why e = let z : ◌≡◌ {A = ℕ} 0 1 = cc in omega arith

-- the line of a mistake is not empty
pub mistake_some : (m : Mistake) → 1 ≤ length (mistake_line m)
unfolding mistake_line
mistake_some m = simp length-append (omega arith)

module _ (t n c s b l : List ℕ) (h : Enough n c s b l) where
  -- lists that are long enough do not matter
  read_as : tunes_of t n c s ≡ cond (ltb longest_text (length t)) (Err TooLong) (checked (lines_said t) (mistake_of (lines_said t)))
  unfolding tunes_of too_short
  read_as = go (ltb longest_text (length t)) refl
    where
      go : (over : Bool) → ltb longest_text (length t) ≡ over
          → cond over (Err TooLong) (cond (ltb (length n) (length t) || (ltb (length c) (length t) || ltb (length s) (length t)))
          (Err (Refused Length)) (checked (lines_said t) (mistake_of (lines_said t))))
          ≡ cond over (Err TooLong) (checked (lines_said t) (mistake_of (lines_said t)))
      go true e = refl
      go false e =
          let k = ltb-false longest_text (length t) e in
          rw (
            le-ltb (length n) (length t) (omega (arith, h.numbers)),
            le-ltb (length c) (length t) (omega (arith, h.counts)),
            le-ltb (length s) (length t) (omega (arith, h.strikes)),
          )

  said_as : said t ≡ said_by (tunes_of t n c s) (press_refusal t)
  unfolding said
  said_as = rw read_as (go (ltb longest_text (length t)))
    where
      go : (over : Bool) → cond over too_long_line (mistake_or (mistake_of (lines_said t)) (press_refusal t))
          ≡ said_by (cond over (Err TooLong) (checked (lines_said t) (mistake_of (lines_said t)))) (press_refusal t)
      go true = refl
      go false = checked_said (lines_said t) (mistake_of (lines_said t)) (press_refusal t)

  module _ (r : Result Sizes Unread) (e : r ≡ tunes_of t n c s) where
    said_so : said t ≡ said_by r (press_refusal t)
    said_so = rw e said_as

    pub said_long : r ≡ Err TooLong → said t ≡ too_long_line
    said_long p = rw p at said_so

    pub said_wrong : (m : Mistake) → r ≡ Err (Wrong m) → said t ≡ mistake_line m
    said_wrong m p = rw p at said_so

    pub said_read : (z : Sizes) → r ≡ Ok z → said t ≡ refusal_line (press_refusal t)
    said_read z p = rw p at said_so

    pub never_refused : (why : Refusal) → r ≡ Err (Refused why) → ⊥
    never_refused why p = go (ltb longest_text (length t)) (sym read_as ∙ sym e ∙ p)
      where
        go : (over : Bool) → cond over (Err TooLong) (checked (lines_said t) (mistake_of (lines_said t))) ≡ Err (Refused why) → ⊥
        go true q = let z : ◌≡◌ {A = ℕ} 0 1 = cc in omega arith
        go false q = checked_not (lines_said t) (mistake_of (lines_said t)) why q

    -- there is room for the line of a mistake
    pub wrong_room : (m : Mistake) → r ≡ Err (Wrong m) → length (mistake_line m) ≤ length l
    wrong_room m p = omega (arith, mistake_line_within m (wrong_line t n c s m (sym e ∙ p)), h.line)

    -- whatever it is that is said of a text that is not read: it is the line, and it is not empty
    pub said_unread : (u : Unread) → r ≡ Err u → said t ≡ unread_line u
    said_unread u p = rw p at said_so

    pub unread_some : (u : Unread) → r ≡ Err u → 1 ≤ length (unread_line u)
    unread_some TooLong p = omega arith
    unread_some (Refused why) p = absurd (never_refused why p)
    unread_some (Wrong m) p = mistake_some m

-- BOOK AND LINE: if something is said, there is no book
pub pressed_none : (t : List ℕ) → 1 ≤ length (said t) → pressed t ≡ []
unfolding pressed
pressed_none t h = rw (ne_eqb (length (said t)) 0 (λ e. omega arith))

pub line_only : (t b : List ℕ) (x : List ℕ) {l l-now : List ℕ} {k : ℕ} → said t ≡ x → 1 ≤ length x → Wrote l 0 x l-now k
    → BothWrote (pressed t) (said t) b l (record { book = 0; line = k }) b l-now
line_only t b x e h w =
    let k : 1 ≤ length (said t) = rw e h in
    rw (pressed_none t k, e) (record { book = wrote_none b 0 (omega arith); line = w })

-- the book and the line of the lists, if there is no mistake
pub pressed_lists : (t : List ℕ) → said t ≡ refusal_line (press_refusal t)
    → pressed t ≡ lists_book (text_numbers t) (text_counts t) (text_strikes t)
unfolding pressed lists_book refusal_line
pressed_lists t e = rw e (go (press_refusal t) (eqb (press_refusal t) 0))
  where
    go : (n : ℕ) (b : Bool) → cond (eqb (length (cond b [] (book_refused n))) 0) (book_bytes (text_numbers t) (text_counts t) (text_strikes t)) []
        ≡ cond b (book_bytes (text_numbers t) (text_counts t) (text_strikes t)) []
    go n true = refl
    go n false = let k = book_refused_length n in rw (ne_eqb (length (book_refused n)) 0 (λ e. omega arith))

module _ {t n c s n-now c-now s-now : List ℕ} (g : ListsRead t n c s n-now c-now s-now) {r : Result Sizes Unread} (e : r ≡ tunes_of t n c s) {z : Sizes}
    (p : r ≡ Ok z) where
  abbrev so : ReadSo t n c s z
  so = sizes_so e p

  -- a list begins with what was read
  numbers_front : take z.tunes n-now ≡ text_numbers t
  numbers_front = rw so.tunes (read_front (tunes_of t n c s) z n (text_numbers t) n-now (sym e ∙ p) g.numbers_are)

  counts_front : take z.tunes c-now ≡ text_counts t
  counts_front = rw (counts_size so) (read_front (tunes_of t n c s) z c (text_counts t) c-now (sym e ∙ p) g.counts_are)

  strikes_front : take z.strikes s-now ≡ text_strikes t
  strikes_front = rw so.strikes (read_front (tunes_of t n c s) z s (text_strikes t) s-now (sym e ∙ p) g.strikes_are)

  -- so the line of the lists is what is said of the text
  pub line_both : said t ≡ lists_line (text_numbers t) (text_counts t) (text_strikes t)
      → lists_line (take z.tunes n-now) (take z.tunes c-now) (take z.strikes s-now) ≡ said t
  line_both q = rw (numbers_front, counts_front, strikes_front) (sym q)

  pub lists_both : {b l b-now l-now : List ℕ} {k : Lengths} → said t ≡ lists_line (text_numbers t) (text_counts t) (text_strikes t)
      → ListsWrote (take z.tunes n-now) (take z.tunes c-now) (take z.strikes s-now) b l k b-now l-now
      → BothWrote (pressed t) (said t) b l k b-now l-now
  lists_both q w = rw (pressed_lists t q, q) (rw (numbers_front, counts_front, strikes_front) at w)

same_lengths : (z : Lengths) (b l : ℕ) → z.book ≡ b → z.line ≡ l → z ≡ record { book = b; line = l }
same_lengths z b l p q = rw (← p, ← q)

-- THE CONTRACT: a list is too short, or all are long enough
module _ (t n c s b l : List ℕ) (short : Bool) (e : short ≡ lengths_short (length n) (length c) (length s) (length b) (length l)) where
  pub presses_refused : short ≡ true → Presses t n c s b l (Err Length) n c s b l
  unfolding lent_refusal
  presses_refused h =
      let x : lent_refusal n c s b l ≡ number Length = rw (← e, h) in
      let y : eqb (lent_refusal n c s b l) 0 ≡ false = rw x in
      record {
        answers = refused_reply _ _ _ Length (sym x);
        numbers_are = unless_refused _ _ _ y;
        counts_are = unless_refused _ _ _ y;
        strikes_are = unless_refused _ _ _ y;
        book_is = unless_refused _ _ _ y;
        line_is = unless_refused _ _ _ y;
      }

  pub presses_both : {z : Lengths} {n-now c-now s-now b-now l-now : List ℕ}
      → short ≡ false → BothWrote (pressed t) (said t) b l z b-now l-now → ListsRead t n c s n-now c-now s-now
      → Presses t n c s b l (Ok z) n-now c-now s-now b-now l-now
  unfolding lent_refusal
  presses_both {z} h w g =
      let x : lent_refusal n c s b l ≡ 0 = rw (← e, h) in
      let y : z ≡ both_lengths t = same_lengths z _ _ (omega (arith, w.book.after)) (omega (arith, w.line.after)) in
      record {
        answers = rw y (value_reply _ _ _ x);
        numbers_are = unless_done _ _ _ _ x g.numbers_are;
        counts_are = unless_done _ _ _ _ x g.counts_are;
        strikes_are = unless_done _ _ _ _ x g.strikes_are;
        book_is = unless_done _ _ _ _ x w.book.text;
        line_is = unless_done _ _ _ _ x w.line.text;
      }

  -- where the line ends as what was written through the list that it was lent as
  pub presses_ending : {z : Lengths} {n-now c-now s-now b-now l-now l-end : List ℕ}
      → short ≡ false → BothWrote (pressed t) (said t) b l z b-now l-end → ListsRead t n c s n-now c-now s-now → l-now ≡ l-end
      → Presses t n c s b l (Ok z) n-now c-now s-now b-now l-now
  presses_ending h w g e = rw e (presses_both h w g)
