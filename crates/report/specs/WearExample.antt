-- The wear of the body of SPECIFICATION 12.6, and the wear report of its book, from the definitions.
-- Main: cards_wear, worst_one, worst_two, worst_four, example_worn.
use Rattle.std.specs.Prelude.{◌≡◌, refl}
use Rattle.std.proofs.Common.{◌∙◌}
use Rattle.algebra.specs.Search.{first_from}
use Rattle.book.specs.Layout.{big, tunes}
use Rattle.wear.specs.Wear.{reading_wear, card_wear, run_sum, largest, first_largest, worst_run}
use Rattle.text.specs.Text.{ascii, decimal_from, decimal, joined}
use Rattle.wear_lines.specs.WearLines.{short_line, wear_line}
use Rattle.report.specs.declared.Kind.TheVariants.{Wear}
use Rattle.report.specs.Reports.{tune_report, report}
use Rattle.report.specs.Answers.{report_accepted}
use Rattle.report.specs.Example.{body, example, read_first, read_second, read_third, read_fourth, accepted}

-- its four cards wear by 0, 0, 1 and 3
pub cards_wear : (card_wear body 1 ≡ 0) × (card_wear body 2 ≡ 0) × (card_wear body 3 ≡ 1) × (card_wear body 4 ≡ 3)
unfolding card_wear reading_wear
cards_wear = (rw read_first, rw read_second, rw read_third, rw read_fourth)

-- the worst card, the worst two in a row, and all
pub worst_one : worst_run body 1 ≡ record { sum = 3; first = 4 }
unfolding worst_run largest first_largest first_from run_sum
worst_one = let (a, b, c, d) = cards_wear in rw (a, b, c, d)

pub worst_two : worst_run body 2 ≡ record { sum = 4; first = 3 }
unfolding worst_run largest first_largest first_from run_sum
worst_two = let (a, b, c, d) = cards_wear in rw (a, b, c, d)

pub worst_four : worst_run body 4 ≡ record { sum = 4; first = 1 }
unfolding worst_run largest first_largest first_from run_sum
worst_four = let (a, b, c, d) = cards_wear in rw (a, b, c, d)

-- THE REPORT: the tune is short
one_line : joined (tune_report Wear example) (tunes example) ≡ ascii "7 short\n"
unfolding joined tune_report wear_line short_line decimal decimal_from big
one_line = refl

pub example_worn : report Wear example ≡ ascii "7 short\n"
example_worn = report_accepted Wear example accepted ∙ one_line
