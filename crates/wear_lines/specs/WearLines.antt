-- The line of a tune in a wear report (SPECIFICATION 9.3), as the list of its bytes.
-- Main: width, run_line, short_line, wear_line.
use Rattle.std.specs.Prelude.{cond, List, ◌++◌, ℕ, ltb}
use Rattle.book.specs.Layout.{tune_number, cards, part_of}
use Rattle.wear.specs.declared.runs.Run.{Run}
use Rattle.wear.specs.Wear.{worst_run}
use Rattle.text.specs.Text.{ascii, line_end, decimal, spaced}

-- how many cards in a row are taken together
abbrev pub width : ℕ
width = 8

-- tune number, sum, first card
unfoldable pub run_line : (tune : ℕ) → Run → List ℕ
run_line t r = decimal t ++ spaced r.sum ++ spaced r.first ++ line_end

-- or that the tune is short
unfoldable pub short_line : (tune : ℕ) → List ℕ
short_line t = decimal t ++ ascii " short\n"

-- of entry e of the contents: its worst run, or that it has fewer cards
unfoldable pub wear_line : List ℕ → (e : ℕ) → List ℕ
wear_line bs e = cond (ltb (cards bs e) width) (short_line (tune_number bs e)) (run_line (tune_number bs e) (worst_run (part_of bs e) width))
