-- Which line a tune of an accepted book has, by what `worst_run` answers; and how long it is.
-- Main: short_is, run_is; line_run, line_short; wear_line_short.
use Rattle.std.specs.Prelude.{◌≡◌, List, ℕ, ◌+◌, ◌≤◌, ◌<◌, length, Result, Ok, Err}
use Rattle.std.proofs.Common.{sym, ◌∙◌, ap, arith, length-append}
use Rattle.std.proofs.Math.Decide.{dec_lt}
use borrow.Author.Tests.{lt-ltb, le-ltb}
use Rattle.refusal.specs.declared.Refusal.{Refusal}
use Rattle.refusal.specs.declared.Refusal.TheVariants.{Width}
use Rattle.refusal.specs.Replies.{number, refusal_some, reply_with, reply_refused, reply_value}
use Rattle.book.specs.Layout.{tune_number, cards, part_of}
use Rattle.book.specs.Reading.{cards_in}
use Rattle.book.specs.Accepted.{AcceptedEntry}
use Rattle.book.proofs.Accepted.{part_length, part_good, number_range}
use Rattle.book.specs.Bounds.{good_length}
use Rattle.wear.specs.declared.runs.Run.{Run}
use Rattle.wear.specs.Wear.{card_wear, worst_run, width_bad, wear_refusal, no_run, wear_reply}
use Rattle.wear.specs.Sliding.{run_bounded}
use Rattle.wear.specs.Worst.{wear_bounded, worst_is}
use Rattle.text.specs.Text.{decimal, spaced}
use Rattle.text.specs.Decimal.{two_digits, four_digits, spaced_length}
use Rattle.wear_lines.specs.WearLines.{width, run_line, short_line, wear_line}

-- THE LINE by the count of cards
module _ (bs : List ℕ) (e : ℕ) where
  pub short_is : cards bs e < width → wear_line bs e ≡ short_line (tune_number bs e)
  unfolding wear_line
  short_is l = rw (lt-ltb (cards bs e) width l)

  pub run_is : width ≤ cards bs e → wear_line bs e ≡ run_line (tune_number bs e) (worst_run (part_of bs e) width)
  unfolding wear_line
  run_is l = rw (le-ltb (cards bs e) width l)

-- LENGTHS, part by part
run_line_length : (t : ℕ) (x : Run) → length (run_line t x) ≡ length (decimal t) + length (spaced x.sum) + length (spaced x.first) + 1
unfolding run_line
run_line_length t x = simp length-append

short_line_length : (t : ℕ) → length (short_line t) ≡ length (decimal t) + 7
unfolding short_line
short_line_length t = simp length-append

module _ (bs : List ℕ) (e : ℕ) (h : AcceptedEntry bs e) where
  -- WHAT IS ANSWERED of the body: the width is refused exactly if the tune has fewer cards
  cards_part : cards_in (part_of bs e) ≡ cards bs e
  cards_part = let n = part_length bs h.0 e h.1 in omega arith

  refuses : cards bs e < width → wear_refusal (part_of bs e) width ≡ number Width
  unfolding wear_refusal width_bad
  refuses l = rw (part_good bs h.0 e h.1, cards_part, lt-ltb (cards bs e) width l)

  accepts : width ≤ cards bs e → wear_refusal (part_of bs e) width ≡ 0
  unfolding wear_refusal width_bad
  accepts l = rw (part_good bs h.0 e h.1, cards_part, le-ltb (cards bs e) width l)

  -- so the answer tells which line it is
  module _ (r : Result Run Refusal) (a : wear_reply r ≡ reply_with no_run (wear_refusal (part_of bs e) width) (worst_run (part_of bs e) width)) where
    pub line_run : (x : Run) → r ≡ Ok x → wear_line bs e ≡ run_line (tune_number bs e) x
    line_run x p =
        let (z, v) = reply_value no_run (wear_refusal (part_of bs e) width) (worst_run (part_of bs e) width) x (rw p at a) in
        elim (dec_lt (cards bs e) width) [
          | yes l ↦ absurd (refusal_some Width (sym (refuses l) ∙ z))
          | no m ↦ run_is bs e (omega arith) ∙ ap (run_line (tune_number bs e)) (sym v)
        ]

    pub line_short : (why : Refusal) → r ≡ Err why → wear_line bs e ≡ short_line (tune_number bs e)
    line_short why p =
        let f = reply_refused no_run (wear_refusal (part_of bs e) width) (worst_run (part_of bs e) width) why (rw p at a) in
        elim (dec_lt (cards bs e) width) [ yes l ↦ short_is bs e l | no m ↦ absurd (f.1 (accepts (omega arith))) ]

  -- IT IS SHORT: at most 13 bytes
  number_short : length (decimal (tune_number bs e)) ≤ 4
  number_short = four_digits (tune_number bs e) (omega (arith, (number_range bs h.0 e h.1).1))

  run_line_short : width ≤ cards bs e → length (run_line (tune_number bs e) (worst_run (part_of bs e) width)) ≤ 13
  run_line_short l =
      let b = part_of bs e in
      let x = worst_run b width in
      let w = worst_is b width (omega (arith, cards_part)) in
      let s = two_digits x.sum (omega (arith, w.has, run_bounded (card_wear b) (wear_bounded b) width x.first)) in
      let f = four_digits x.first (omega (arith, w.high, good_length b (part_good bs h.0 e h.1))) in
      omega (arith, number_short, run_line_length (tune_number bs e) x, spaced_length x.sum, spaced_length x.first)

  pub wear_line_short : length (wear_line bs e) ≤ 13
  wear_line_short =
      elim (dec_lt (cards bs e) width) [
        | yes l ↦ rw (short_is bs e l) (omega (arith, short_line_length (tune_number bs e), number_short))
        | no m ↦ rw (run_is bs e (omega arith)) (run_line_short (omega arith))
      ]
