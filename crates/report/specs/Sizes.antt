-- How long a report is: at most two bytes for each byte of the book, so none is longer than `longest`.
-- Main: report_within, taken_within.
use Rattle.std.specs.Prelude.{◌≡◌, refl, Bool, true, false, cond, List, eqb, length}
use Prim.Native.Nat.{ℕ, zero, suc, ◌+◌, ◌*◌, ◌≤◌, ◌<◌}
use Rattle.std.proofs.Math.Decide.{ℕ_discrete}
use native.Mathlib.Omega.{arith}
use Rattle.std.proofs.Math.ListN.{length-append}
use Rattle.std.proofs.Common.{eqb-true}
use Rattle.book.specs.Layout.{tunes, contents_end, cards}
use Rattle.book.specs.Open.{open_refusal}
use Rattle.book.specs.Accepted.{Accepted, body_start}
use Rattle.book.proofs.Accepted.{empty_tunes, book_within, bodies_fill, cards_some}
use Rattle.book.specs.Bounds.{open_bounded}
use Rattle.text.specs.Text.{joined, book_refused}
use Rattle.text.specs.Decimal.{two_digits, spaced_length, book_refused_length}
use Rattle.listing.specs.Sizes.{tune_text_short}
use Rattle.wear_lines.specs.Lines.{wear_line_short}
use Rattle.report.specs.declared.Kind.{Kind}
use Rattle.report.specs.declared.Kind.TheVariants.{Listing, Wear}
use Rattle.report.specs.Reports.{tune_report, report, longest}

module _ (bs : List ℕ) (a : Accepted bs) where
  -- a tune's text has at most two bytes for each byte of its entry and its body
  tune_short : (k : Kind) (e : ℕ) → e < tunes bs → length (tune_report k bs e) ≤ 2 * (8 + 12 * cards bs e)
  unfolding tune_report
  tune_short Listing e h = tune_text_short bs a e h
  tune_short Wear e h = omega (arith, wear_line_short bs e (a, h), cards_some bs a e h)

  -- and the tunes so far for each byte of theirs
  tunes_short : (k : Kind) (e : ℕ) → e ≤ tunes bs → length (joined (tune_report k bs) e) + 2 * contents_end (tunes bs) ≤ 16 * e + 2 * body_start bs e
  unfolding joined body_start
  tunes_short k zero h = omega arith
  tunes_short k (suc e) h =
      let l = length-append (joined (tune_report k bs) e) (tune_report k bs e) in
      omega (arith, tunes_short k e (omega arith), tune_short k e (omega arith))

  tunes_within : (k : Kind) → length (joined (tune_report k bs) (tunes bs)) ≤ longest
  unfolding joined
  tunes_within k = elim (ℕ_discrete (length bs) 0) [
    | yes z ↦ rw (empty_tunes bs z) (omega arith)
    | no n ↦ omega (arith, tunes_short k (tunes bs) (omega arith), bodies_fill bs a (omega arith), book_within bs a)
  ]

-- A REFUSED BOOK is one short line
refused_within : (bs : List ℕ) → length (book_refused (open_refusal bs)) ≤ longest
refused_within bs =
    let m = open_refusal bs in
    omega (arith, book_refused_length m, spaced_length m, two_digits m (open_bounded bs))

-- NO REPORT IS LONGER, whatever the bytes
pub report_within : (k : Kind) (bs : List ℕ) → length (report k bs) ≤ longest
unfolding report
report_within k bs = go (eqb (open_refusal bs) 0) refl
  where
    go : (b : Bool) → eqb (open_refusal bs) 0 ≡ b → length (cond b (joined (tune_report k bs) (tunes bs)) (book_refused (open_refusal bs))) ≤ longest
    go true e = tunes_within bs (eqb-true (open_refusal bs) 0 e) k
    go false e = refused_within bs

-- nor is what was taken of one
pub taken_within : (k : Kind) (bs : List ℕ) (n : ℕ) → n ≤ length (report k bs) → n ≤ longest
taken_within k bs n h = omega (arith, report_within k bs)
