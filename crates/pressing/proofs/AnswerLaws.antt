-- What a caller learns from an answer that is no refusal: the lists begin with book and line.
-- Main: book_within, line_within, book_front, line_front.
use Rattle.std.specs.Prelude.{◌≡◌, List, ℕ, ◌≤◌, length, take, Result, Ok}
use Rattle.std.proofs.Common.{◌∙◌}
use Rattle.refusal.specs.Replies.{reply_value, unless}
use Rattle.book.specs.Layout.{longest_book}
use Rattle.text.specs.Text.{written}
use Rattle.text.proofs.WritingLaws.{written_front}
use Rattle.tune_text.specs.MistakeLines.{longest_line}
use Rattle.pressing.specs.declared.from_lists.Lengths.{Lengths}
use Rattle.refusal.specs.declared.Refusal.{Refusal}
use Rattle.pressing.specs.Pressing.{said, pressed, lent_refusal, no_bytes, both_lengths, Presses}
use Rattle.pressing.proofs.Shown.{pressed_within, said_within}

-- a list that begins with as many bytes as were written
front : (m : ℕ) (x old list : List ℕ) (size : ℕ) → m ≡ 0 → size ≡ length x → list ≡ unless m (written old 0 x) old → take size list ≡ x
unfolding unless
front m x old list size z e w = let v : list ≡ written old 0 x = w ∙ rw z in rw (v, e) (written_front old x)

module _ {t n c s b l n-now c-now s-now b-now l-now : List ℕ} {r : Result Lengths Refusal} (g : Presses t n c s b l r n-now c-now s-now b-now l-now)
    {z : Lengths} (e : r ≡ Ok z) where
  answered : (lent_refusal n c s b l ≡ 0) × (z ≡ both_lengths t)
  answered = reply_value no_bytes (lent_refusal n c s b l) (both_lengths t) z (rw e at g.answers)

  pub book_within : z.book ≤ longest_book
  book_within = rw answered.1 (pressed_within t)

  pub line_within : z.line ≤ longest_line
  line_within = rw answered.1 (said_within t)

  pub book_front : take z.book b-now ≡ pressed t
  book_front = front (lent_refusal n c s b l) (pressed t) b b-now z.book answered.0 (rw answered.1) g.book_is

  pub line_front : take z.line l-now ≡ said t
  line_front = front (lent_refusal n c s b l) (said t) l l-now z.line answered.0 (rw answered.1) g.line_is
