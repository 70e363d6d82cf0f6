-- What a report is, by what Open says of the book; and what a caller learns from the answer.
-- Main: report_accepted, empty_reported, opened_refused; kind_listing, kind_wear; answer_within, answer_reported, report_read.
use Rattle.std.specs.Prelude.{◌≡◌, refl, ℕ, ◌≤◌, ◌<◌, length, take, Result, Ok, Err}
use Rattle.std.proofs.Common.{sym, ◌∙◌, arith, length-take, take_all}
use Rattle.std.proofs.Math.Path.{ap}
use mathlib.Core.List.{List, []}
use Rattle.std.proofs.Math.Decide.{dec_lt}
use borrow.Author.Tests.{lt-ltb, eq-eqb, ne_eqb}
use Rattle.refusal.specs.Replies.{number, reply, reply_with, answer_refused, answer_value, unless}
use Rattle.refusal.specs.declared.Refusal.{Refusal}
use Rattle.refusal.specs.declared.Refusal.TheVariants.{BookSize}
use Rattle.book.specs.Layout.{longest_book, tunes}
use Rattle.book.specs.Open.{size_bad, contents_refusal, open_refusal}
use Rattle.book.specs.Accepted.{Accepted}
use Rattle.book.proofs.Accepted.{empty_accepted, empty_tunes, some_tested}
use Rattle.text.specs.Text.{joined, book_refused, written, room_refusal}
use Rattle.text.proofs.WritingLaws.{written_front}
use Rattle.listing.specs.Listing.{tune_text}
use Rattle.wear_lines.specs.WearLines.{wear_line}
use Rattle.report.specs.declared.Kind.{Kind}
use Rattle.report.specs.declared.Kind.TheVariants.{Listing, Wear}
use Rattle.report.specs.Reports.{tune_report, report, longest}
use Rattle.report.specs.Sizes.{report_within}

-- THE TWO KINDS
pub kind_listing : (k : Kind) (bs : List ℕ) (e : ℕ) → k ≡ Listing → tune_report k bs e ≡ tune_text bs e
unfolding tune_report
kind_listing k bs e p = rw p

pub kind_wear : (k : Kind) (bs : List ℕ) (e : ℕ) → k ≡ Wear → tune_report k bs e ≡ wear_line bs e
unfolding tune_report
kind_wear k bs e p = rw p

module _ (k : Kind) where
  -- THE REPORT on a book that Open accepts, and on one that it refuses
  pub report_accepted : (bs : List ℕ) → Accepted bs → report k bs ≡ joined (tune_report k bs) (tunes bs)
  unfolding report
  report_accepted bs a = rw (eq-eqb (open_refusal bs) 0 a)

  report_refused : (bs : List ℕ) → (Accepted bs → ⊥) → report k bs ≡ book_refused (open_refusal bs)
  unfolding report
  report_refused bs n = rw (ne_eqb (open_refusal bs) 0 n)

  -- so of the empty file there is nothing to report
  pub empty_reported : report k [] ≡ []
  unfolding joined
  empty_reported = report_accepted [] (empty_accepted [] refl) ∙ ap (joined (tune_report k [])) (empty_tunes [] refl)

  -- what Open answered decides
  pub opened_refused : (r : Result ℕ Refusal) (why : Refusal) (m : ℕ) (bs : List ℕ) → r ≡ Err why
      → reply r ≡ reply_with 0 (open_refusal bs) (tunes bs) → m ≡ number why → report k bs ≡ book_refused m
  opened_refused r why m bs p e f =
      let t = answer_refused r why (open_refusal bs) (tunes bs) p e in
      report_refused bs t.1 ∙ ap book_refused (sym t.0 ∙ sym f)

  -- THE ANSWER: as many bytes at the beginning of the text are the report, and they are within it
  module _ (bs text : List ℕ) (r : Result ℕ Refusal) (x : ℕ) (p : r ≡ Ok x) (a : reply r ≡ reply_with 0 (room_refusal longest text) (length (report k bs))) where
    pub answer_within : x ≤ longest
    answer_within = omega (arith, report_within k bs, (answer_value r x (room_refusal longest text) (length (report k bs)) p a).1)

    pub answer_reported : (new : List ℕ) → new ≡ unless (room_refusal longest text) (written text 0 (report k bs)) text → take x new ≡ report k bs
    unfolding unless
    answer_reported new e =
        let t = answer_value r x (room_refusal longest text) (length (report k bs)) p a in
        rw (e, t.0, t.1) (written_front text (report k bs))

  -- WHO READS one byte more than a book may have, and leaves the rest unread, reports the same: both are too long, or nothing was left
  too_long : (bs : List ℕ) → longest_book < length bs → report k bs ≡ book_refused (number BookSize)
  unfolding report contents_refusal size_bad
  too_long bs h = rw (some_tested bs (omega arith), lt-ltb longest_book (length bs) h)

  pub report_read : (n : ℕ) (bs : List ℕ) → longest_book < n → report k (take n bs) ≡ report k bs
  report_read n bs h = go (dec_lt longest_book (length bs))
    where
      go : Dec (longest_book < length bs) → report k (take n bs) ≡ report k bs
      go (no m) = ap (report k) (take_all n bs (omega arith))
      go (yes l) = too_long (take n bs) (omega (arith, length-take n bs)) ∙ sym (too_long bs l)
