-- The text that reports on a tune book (SPECIFICATION 9.1 and 9.3), as the list of its bytes.
-- Main: tune_report, report, longest.
use Rattle.std.specs.Prelude.{cond, List, ℕ, eqb}
use Rattle.book.specs.Layout.{tunes}
use Rattle.book.specs.Open.{open_refusal}
use Rattle.text.specs.Text.{joined, book_refused}
use Rattle.listing.specs.Listing.{tune_text}
use Rattle.wear_lines.specs.WearLines.{wear_line}
use Rattle.report.specs.declared.Kind.{Kind}
use Rattle.report.specs.declared.Kind.TheVariants.{Listing, Wear}

-- what is said of the tune of entry e: its cards, or where wear gathers
unfoldable pub tune_report : Kind → List ℕ → (e : ℕ) → List ℕ
tune_report Listing bs e = tune_text bs e
tune_report Wear bs e = wear_line bs e

-- A REPORT on a book: its tunes in contents order, or its one line where it is refused
unfoldable pub report : Kind → List ℕ → List ℕ
report k bs = cond (eqb (open_refusal bs) 0) (joined (tune_report k bs) (tunes bs)) (book_refused (open_refusal bs))

-- no report has more bytes than this (proved in Sizes)
abbrev pub longest : ℕ
longest = 131072
